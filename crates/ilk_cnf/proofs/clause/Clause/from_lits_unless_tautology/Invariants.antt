use Rattle.std.proofs.Common.{drop}
use Rattle.ilk_cnf.proofs.Distinct.{Reading}
use Rattle.ilk_cnf.proofs.clause.Clause.from_lits_unless_tautology.Given as goal

abbrev pub invariant-loop-i : goal.invariant-loop-i
invariant-loop-i l = Reading l.lits l.clause (drop l.i l.lits)
