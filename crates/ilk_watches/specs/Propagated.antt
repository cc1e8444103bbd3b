-- Additions to a trail by propagation.
use Rattle.std.specs.Prelude.{ℕ, ◌≡◌, ◌≤◌, List, Some, IsSomeAnd, IsTrue, length, take, slice_get}
use Rattle.ilk_cnf.specs.Literal.{Literal}
use Rattle.ilk_trail.specs.declared.entry.Entry.{Entry}
use Rattle.ilk_trail.specs.Trail.{level_of}
use Rattle.ilk_trail.specs.Laws.{lits_of}
use Rattle.ilk_watches.specs.Reasons.{clause_forces_lit}

-- Holds if `new` extends `old` by entries of the same level, and the reason of each forces its
-- literal under the entries before it.
pub record ExtendsByPropagation (clauses : List (List Literal)) (old new : List Entry) : Type 0 where
  pub kept : take (length old) new ≡ old
  pub level : level_of new ≡ level_of old
  pub levels : (i : ℕ) (e : Entry) → length old ≤ i → slice_get new i ≡ Some e → e.level ≡ level_of old
  pub reasons : (i : ℕ) (e : Entry) → length old ≤ i → slice_get new i ≡ Some e → IsSomeAnd e.reason (λ c. IsTrue (clause_forces_lit clauses (lits_of (take i new)) e.lit c))
