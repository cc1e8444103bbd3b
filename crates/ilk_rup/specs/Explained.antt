-- Used only in private contracts and proofs: conditions for the explanation of a conflict.
use Rattle.std.specs.Prelude.{ℕ, ◌≡◌, ◌+◌, replicate}
use Rattle.ilk_arena.specs.Arena.{ArenaContent}
use Rattle.ilk_trail.specs.Trail.{TrailList}
use Rattle.ilk_rup.specs.LitSet.{LitSetList}
use Rattle.ilk_rup.specs.Needs.{IsClauseFalseApartFromSet, AreUnitHintsByVar}
use Rattle.ilk_rup.specs.declared.explain.Explainer.{Explainer}
use Rattle.ilk_rup.specs.declared.explain.Conflict.{Conflict}

-- Holds if explainer `x` is over the variables 1 to `n` and knows no unit clause yet.
pub record IsEmptyExplainer (x : Explainer) (n : ℕ) : Type 0 where
  pub units : x.units.items ≡ replicate (n + 1) 0
  pub named : x.named ≡ 0
  pub vars : x.needed.vars ≡ n

-- Holds if `explain` may be called. All parameters are over the same variables, the explainer has
-- the right hints of unit clauses, and clause `at.clause` is false as `IsClauseFalseApartFromSet`
-- says.
pub record IsReadyToExplainConflict (x : Explainer) (clauses : ArenaContent) (trail : TrailList) (set : LitSetList) (at : Conflict) : Type 0 where
  pub vars : x.needed.vars ≡ clauses.vars
  pub set_vars : set.vars ≡ clauses.vars
  pub trail_vars : trail.vars ≡ clauses.vars
  pub units : AreUnitHintsByVar x.units.items clauses.clauses trail.entries clauses.vars x.named
  pub explains : IsClauseFalseApartFromSet clauses.clauses trail.entries set.lits at.clause at.from at.top x.named
