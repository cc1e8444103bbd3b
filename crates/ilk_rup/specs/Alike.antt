-- Used only in private contracts and proofs: lists of clauses with the same consequences.
use Rattle.std.specs.Prelude.{ℕ, ◌≡◌, true, List, ◌++◌}
use Rattle.ilk_cnf.specs.Literal.{Literal}
use Rattle.ilk_log.specs.Derived.{hints_end_in_conflict}

-- Holds if some list of hints over clauses `cs` ends at a false clause, from the true literals
-- `set` on.
abbrev pub HasHintsToConflict : List (List Literal) → List Literal → Type 0
HasHintsToConflict cs set = (hints : List ℕ) × (hints_end_in_conflict cs set hints ≡ true)

-- Holds if `ds` has the consequences of `cs`. After any clauses are added to both, some hints over
-- `ds` end at a false clause if some over `cs` do.
abbrev pub HasPropagatedConsequencesOf : List (List Literal) → List (List Literal) → Type 0
HasPropagatedConsequencesOf ds cs = (more : List (List Literal)) (set : List Literal) → HasHintsToConflict (cs ++ more) set → HasHintsToConflict (ds ++ more) set

-- Holds if each of two lists of clauses has the consequences of the other.
pub record AreEquivalent (cs ds : List (List Literal)) : Type 0 where
  pub there : HasPropagatedConsequencesOf ds cs
  pub back : HasPropagatedConsequencesOf cs ds
