use Rattle.std.proofs.Common.{◌≡◌, ◌≤◌, ℕ, Some, length, slice_get}
use Rattle.ilk_trail.specs.declared.entry.Entry.{Entry}
use Rattle.ilk_solver.specs.Tree.{IsWinnerTree, KeepsVariablesInTree, IsVariableInTree}
use Rattle.ilk_solver.proofs.order.put_back_above.Given as goal

abbrev pub invariant-entries : goal.invariant-entries
invariant-entries l = record {
  within : l.i ≤ length l.trail.entries;
  tree : IsWinnerTree l.weights l.tree;
  kept : KeepsVariablesInTree l.weights l.initial.tree l.tree;
  done : (j : ℕ) (e : Entry) → l.i ≤ j → slice_get l.trail.entries j ≡ Some e → IsVariableInTree l.weights l.tree e.lit.var;
}

abbrev pub decreases-entries : goal.decreases-entries
decreases-entries l = l.i
