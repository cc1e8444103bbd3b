use Rattle.std.proofs.Common.{◌≡◌, ◌-◌, Some, length, ap, sym, ◌∙◌}
use Rattle.std.specs.List.{slice_get}
use Rattle.ilk_trail.specs.Trail.{TrailList, level_of}
use Rattle.ilk_trail.proofs.Levels.{last_level_or-at}
use Rattle.ilk_trail.proofs.trail.Trail.level.Goals as goal

pub returns-in-Some-clause-level : goal.returns-in-Some-clause-level
returns-in-Some-clause-level c =
    let s = c.self.inside in
    let e = c.in-Some.ensures.value in
    let v : slice_get s.entries.items (length s.entries.items - 1) ≡ Some c.in-Some.entry.now = rw c.deref.ensures.value at (sym e) in
    sym (last_level_or-at 0 s.entries.items c.in-Some.entry.now v) ∙ ap (λ (t : TrailList). level_of t.entries) c.self.view_is
