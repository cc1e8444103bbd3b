-- Used only in proofs: the relation between a trail's fields and its entries.
use Rattle.std.specs.Prelude.{ℕ, ◌≡◌, ◌+◌, ◌*◌, ◌≤◌, Bool, List, Option, Some, length, slice_get, slice_index_or, None}
use Rattle.ilk_cnf.specs.Literal.{Literal}
use Rattle.ilk_cnf.specs.Code.{code_of}
use Rattle.ilk_trail.specs.declared.entry.Entry.{Entry}
use Rattle.ilk_trail.specs.Trail.{TrailList, value_of_literal}
use Rattle.ilk_trail.specs.Laws.{IsTrail}

-- Holds if `values` has each literal's value at its code, and `places` the index of each set
-- variable's entry. Both also have space for variable 0, and the capacity `room` exceeds the number
-- of variables.
pub record StoresTrail (values : List (Option Bool)) (places : List ℕ) (t : TrailList) (room : ℕ) : Type 0 where
  pub values_long : length values ≡ 2 * (t.vars + 1)
  pub places_long : length places ≡ t.vars + 1
  pub roomy : t.vars + 1 ≤ room
  pub value : (l : Literal) → l.var ≤ t.vars → slice_index_or values (code_of l) None ≡ value_of_literal t.entries l
  pub place : (i : ℕ) (e : Entry) → slice_get t.entries i ≡ Some e → slice_index_or places e.lit.var 0 ≡ i
  pub is_trail : IsTrail t
