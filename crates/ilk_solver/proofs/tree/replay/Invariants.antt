use Rattle.std.proofs.Common.{◌≡◌, ◌≤◌, length}
use Rattle.ilk_solver.specs.Tree.{IsWinnerTreeExceptAt, leaves_of}
use Rattle.ilk_solver.proofs.tree.replay.Given as goal

abbrev pub invariant-nodes : goal.invariant-nodes
invariant-nodes l = record {
  at : l.at ≤ length l.weights;
  tree : IsWinnerTreeExceptAt l.weights l.tree l.at;
  leaves : leaves_of l.weights l.tree ≡ leaves_of l.weights l.initial.tree;
}

abbrev pub decreases-nodes : goal.decreases-nodes
decreases-nodes l = l.at
