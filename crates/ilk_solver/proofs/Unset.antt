-- A variable is unset if its literal has no value.
use Rattle.std.proofs.Common.{◌≡◌, ℕ, Bool, true, false, inl, inr, not, eqb, List, [], ◌∷◌, refl}
use Rattle.std.specs.Prelude.{is_some}
use Rattle.std.proofs.lemmas.Bool.{cases_Bool}
use Rattle.ilk_cnf.specs.Literal.{positive_lit}
use Rattle.ilk_trail.specs.declared.entry.Entry.{Entry}
use Rattle.ilk_trail.specs.Trail.{value_of_literal}
use Rattle.ilk_trail.specs.Laws.{is_set}

pub set-is : (es : List Entry) (v : ℕ) → is_some (value_of_literal es (positive_lit v)) ≡ is_set es v
set-is [] v = refl
set-is (x ∷ es) v = elim (cases_Bool (eqb x.lit.var v)) [ inl q ↦ rw q refl | inr q ↦ rw q (set-is es v) ]

pub not-swapped : (a b : Bool) → a ≡ not b → b ≡ not a
not-swapped a true e = rw e refl
not-swapped a false e = rw e refl
