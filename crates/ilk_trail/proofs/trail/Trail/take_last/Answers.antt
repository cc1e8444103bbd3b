use Rattle.std.proofs.Common.{◌≡◌, ◌-◌, ◌++◌, ◌∷◌, [], List, length, arith, ap, subst, ◌∙◌}
use Rattle.ilk_cnf.specs.Code.{code_of}
use Rattle.ilk_trail.specs.declared.entry.Entry.{Entry}
use Rattle.ilk_trail.specs.Stored.{StoresTrail}
use Rattle.ilk_trail.proofs.Kept.{stored-take}
use Rattle.ilk_trail.proofs.trail.Trail.take_last.Goals as goal

pub invariant_of-self : goal.invariant_of-self
invariant_of-self c =
    let s = c.self.inside in
    let n = length s.places.items - 1 in
    let e = c.unwrap-entry.result in
    let items : s.entries.items ≡ c.pop.new.self.items ++ e ∷ [] = rw c.unwrap-entry.ensures at c.pop.ensures.items in
    let opposite = c.place_of-2.ensures ∙ ap code_of c.negated.ensures in
    let P : List Entry → Type 0 = λ es. StoresTrail s.values.items s.places.items (record { vars = n; entries = es }) s.entries.cap in
    rw (c.place_of.ensures, opposite) (stored-take s.values.items s.places.items n c.pop.new.self.items e s.entries.cap _ (subst P items c.self.invariant) (omega (arith, c.pop.ensures.capacity)))
