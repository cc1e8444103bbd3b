use Rattle.std.proofs.Common.{◌≡◌, ◌≤◌, true, length}
use Rattle.ilk_trail.specs.Trail.{level_of}
use Rattle.ilk_solver.specs.Answered.{IsEmpoweringLogWithinBudget, has_no_empty_step}
use Rattle.ilk_solver.proofs.Measure.{rounds_left}
use Rattle.ilk_solver.proofs.solver.Solver.solve.Given as goal

abbrev pub invariant-rounds : goal.invariant-rounds
invariant-rounds g l = record {
  formula : l.search.formula ≡ l.fn.self.search.formula;
  log : IsEmpoweringLogWithinBudget l.fn.self.search.formula l.budget l.search.log;
  unfinished : has_no_empty_step l.search.log ≡ true;
  steps : length l.search.log ≡ l.steps;
  within : l.steps ≤ l.budget;
}

abbrev pub decreases-rounds : goal.decreases-rounds
decreases-rounds g l = rounds_left l.search.formula.vars l.budget l.steps (level_of l.search.view.trail.entries)
