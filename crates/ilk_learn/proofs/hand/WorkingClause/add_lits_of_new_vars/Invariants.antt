use Rattle.std.proofs.Common.{◌≡◌, List, take}
use Rattle.ilk_cnf.specs.Literal.{Literal}
use Rattle.ilk_watches.specs.Reasons.{nth_clause_or_empty}
use Rattle.ilk_learn.specs.Resolvent.{with_lits_of_new_vars}
use Rattle.ilk_learn.specs.Hand.{WorkingClauseHolds}
use Rattle.ilk_learn.proofs.hand.WorkingClause.add_lits_of_new_vars.Given as goal

abbrev pub invariant-loop-i : goal.invariant-loop-i
invariant-loop-i l = record {
  hints : l.self.hints ≡ l.initial.self.hints;
  holds : (k : List Literal) → WorkingClauseHolds l.trail l.initial.self k → WorkingClauseHolds l.trail l.self (with_lits_of_new_vars k (take l.i (nth_clause_or_empty l.clauses.clauses l.c)));
}
