use Rattle.std.proofs.Common.{◌≡◌, ◌<◌, ◌≤◌, ℕ, false}
use Rattle.ilk_solver.specs.View.{is_unset}
use Rattle.ilk_formula_tests.proofs.pickers.pick_greatest_positive.Given as goal

abbrev pub invariant-loop-v : goal.invariant-loop-v
invariant-loop-v l = record {
  within : l.v ≤ l.view.trail.vars;
  above : (u : ℕ) → l.v < u → is_unset l.view u ≡ false;
}

abbrev pub decreases-loop-v : goal.decreases-loop-v
decreases-loop-v l = l.v
