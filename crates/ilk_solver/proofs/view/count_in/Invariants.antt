use Rattle.std.proofs.Common.{◌≡◌, ◌+◌, ◌-◌, ◌<◌, ℕ, cond, drop, get_or}
use Rattle.ilk_cnf.specs.Literal.{has_var}
use Rattle.ilk_solver.specs.Tree.{IsWinnerTree, HasSameVariables}
use Rattle.ilk_solver.proofs.view.count_in.Given as goal

abbrev pub invariant-loop-lit : goal.invariant-loop-lit
invariant-loop-lit l = record {
  weights : (v : ℕ) → 0 < v → get_or l.weights (v - 1) 0 + cond (has_var v (drop l.lit-index l.clause)) 1 0 ≡ get_or l.initial.weights (v - 1) 0 + cond (has_var v l.clause) 1 0;
  tree : IsWinnerTree l.weights l.tree;
  leaves : HasSameVariables l.initial.weights l.initial.tree l.weights l.tree;
}
