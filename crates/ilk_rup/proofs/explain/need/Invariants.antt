use Rattle.std.proofs.Common.{◌≡◌, take}
use Rattle.ilk_watches.specs.Reasons.{nth_clause_or_empty}
use Rattle.ilk_rup.specs.Needs.{AreNeededLitsAfterClauseExamined}
use Rattle.ilk_rup.proofs.explain.need.Given as goal

abbrev pub invariant-loop-i : goal.invariant-loop-i
invariant-loop-i l = record {
  vars : l.needed.vars ≡ l.initial.needed.vars;
  needed : AreNeededLitsAfterClauseExamined l.set.lits (take l.i (nth_clause_or_empty l.clauses.clauses l.c)) l.initial.needed.lits l.needed.lits;
}
