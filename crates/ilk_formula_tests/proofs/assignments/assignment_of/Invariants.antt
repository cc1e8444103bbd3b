use Rattle.std.proofs.Common.{◌≡◌, length}
use Rattle.ilk_formula_tests.proofs.assignments.assignment_of.Given as goal

abbrev pub invariant-loop : goal.invariant-loop
invariant-loop l = length l.a ≡ l.counter
