use Rattle.std.proofs.Common.{◌≡◌, drop}
use Rattle.ilk_audit.specs.Taken.{why_hints_reach_no_conflict}
use Rattle.ilk_audit.proofs.fault.why_hints_reach_no_conflict.Given as goal

abbrev pub invariant-loop-i : goal.invariant-loop-i
invariant-loop-i l = record {
  vars : l.partial.vars ≡ l.initial.partial.vars;
  fault : why_hints_reach_no_conflict l.clauses.clauses l.partial.set (drop l.i l.hints) ≡ why_hints_reach_no_conflict l.clauses.clauses l.initial.partial.set l.hints;
}
