use Rattle.std.proofs.Common.{◌≤◌, ◌<◌, ℕ}
use Rattle.ilk_solver.specs.Tree.{IsWinnerTree, IsVariableInTree}
use Rattle.ilk_solver.proofs.order.new_tree.Given as goal

abbrev pub invariant-loop-v : goal.invariant-loop-v
invariant-loop-v l = record {
  tree : IsWinnerTree l.weights l.tree.items;
  each : (v : ℕ) → 0 < v → v ≤ l.v → IsVariableInTree l.weights l.tree.items v;
}
