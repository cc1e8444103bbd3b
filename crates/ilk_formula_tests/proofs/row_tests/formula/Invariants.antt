use Rattle.std.proofs.Common.{◌≡◌}
use Rattle.ilk_formula_tests.proofs.row_tests.formula.Given as goal

abbrev pub invariant-loop-i : goal.invariant-loop-i
invariant-loop-i l = l.cnf.vars ≡ 2
