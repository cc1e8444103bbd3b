use Rattle.std.proofs.Common.{ℕ, cond, eqb, sum_by}
use Rattle.ilk_solver.specs.Tree.{IsWinnerTree, leaves_of}
use Rattle.ilk_solver.specs.Order.{LosesNoUnset}
use Rattle.ilk_solver.proofs.order.drop_set_from_top.Given as goal

abbrev pub invariant-tops : goal.invariant-tops
invariant-tops l = record {
  tree : IsWinnerTree l.weights l.tree;
  kept : LosesNoUnset l.trail.entries l.weights l.initial.tree l.tree;
}

abbrev pub decreases-tops : goal.decreases-tops
decreases-tops l = sum_by (λ (x : ℕ). cond (eqb x 0) 0 1) (leaves_of l.weights l.tree)
