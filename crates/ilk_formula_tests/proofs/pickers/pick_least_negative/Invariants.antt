use Rattle.std.proofs.Common.{◌≡◌, ◌<◌, ℕ, false}
use Rattle.ilk_solver.specs.View.{is_unset}
use Rattle.ilk_formula_tests.proofs.pickers.pick_least_negative.Given as goal

abbrev pub invariant-loop-v : goal.invariant-loop-v
invariant-loop-v l = (u : ℕ) → u < l.v → is_unset l.view u ≡ false
