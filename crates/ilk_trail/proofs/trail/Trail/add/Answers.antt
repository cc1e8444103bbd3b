use Rattle.std.proofs.Common.{◌≡◌, ◌<◌, ◌+◌, ◌-◌, ◌++◌, ◌∷◌, [], true, length, set, arith, ap, ◌∙◌, refl}
use Rattle.std.specs.Result.{is_ok}
use Rattle.std.proofs.Math.ListN.{length-set}
use Rattle.ilk_trail.specs.Trail.{TrailList, level_of}
use Rattle.ilk_cnf.specs.Code.{code_of}
use Rattle.ilk_cnf.specs.Formula.{is_lit_over}
use Rattle.ilk_trail.specs.Laws.{may_follow_level, is_set}
use Rattle.ilk_trail.proofs.Kept.{room-for, stored-add}
use Rattle.ilk_trail.proofs.trail.Trail.add.Goals as goal

pub unwrap-requires : goal.unwrap-requires
unwrap-requires c =
    let s = c.self.inside in
    let n = length s.places.items - 1 in
    let k = c.self.invariant in
    let fits : length s.entries.items < n + 1 = room-for n s.entries.items c.args.entry.lit k.is_trail
    (ap (λ (t : TrailList). is_lit_over t.vars c.args.entry.lit) c.self.view_is ∙ c.requires.within)
    (ap (λ (t : TrailList). is_set t.entries c.args.entry.lit.var) c.self.view_is ∙ c.requires.unset) in
    c.push.ensures.succeeds (omega (arith, fits, k.roomy, s.entries.ok.0))

pub invariant_of-self : goal.invariant_of-self
invariant_of-self c =
    let s = c.self.inside in
    let n = length s.places.items - 1 in
    let k = c.self.invariant in
    let e = c.args.entry in
    let m : c.len.result ≡ length s.entries.items = omega (arith, c.len.ensures, s.entries.ok.0) in
    let ok : is_ok c.push.result ≡ true = rw c.unwrap.ensures refl in
    let items : c.push.new.self.items ≡ s.entries.items ++ e ∷ [] = rw ok at c.push.ensures.items in
    let size : length (set s.places.items e.lit.var (length s.entries.items)) - 1 ≡ n = simp length-set in
    let opposite = c.place_of-2.ensures ∙ ap code_of c.negated.ensures in
    rw (c.place_of.ensures, opposite, c.var-var.ensures, m, items, size)
    (stored-add s.values.items s.places.items n s.entries.items e _ _ k c.push.ensures.capacity
    (ap (λ (t : TrailList). is_lit_over t.vars e.lit) c.self.view_is ∙ c.requires.within)
    (ap (λ (t : TrailList). is_set t.entries e.lit.var) c.self.view_is ∙ c.requires.unset)
    (ap (λ (t : TrailList). may_follow_level (level_of t.entries) e) c.self.view_is ∙ c.requires.level))
