-- For private contracts and proofs: what a search decides, and when it restarts.
use Rattle.std.specs.Prelude.{ℕ, ◌≡◌, ◌%◌, ◌==◌, Bool, false}
use Rattle.ilk_cnf.specs.Literal.{Literal}
use Rattle.ilk_solver.specs.View.{TrailAndWeights}
use Rattle.ilk_solver.specs.Heaviest.{IsHeaviest}

-- Holds if the literal is the next decision: the negative one of the unset variable that is in most
-- learned clauses.
pub record IsNegatedHeaviestUnsetVar (view : TrailAndWeights) (l : Literal) : Type 0 where
  pub heaviest : IsHeaviest view l.var
  pub negative : l.positive ≡ false

-- Returns whether a search restarts after `conflicts` conflicts: at each multiple of 128.
abbrev pub is_restart_due : ℕ → Bool
is_restart_due conflicts = conflicts % 128 == 0
