use Rattle.std.proofs.Common.{◌≡◌, ◌≤◌, true, drop, length}
use Rattle.ilk_log.specs.Derived.{negated_clause}
use Rattle.ilk_audit.proofs.Faults.{is_clause}
use Rattle.ilk_audit.proofs.fault.set_opposites.Given as goal

abbrev pub invariant-loop-left : goal.invariant-loop-left
invariant-loop-left l = record {
  vars : l.partial.vars ≡ l.initial.partial.vars;
  within : l.left ≤ length l.clause;
  set : l.partial.set ≡ negated_clause (drop l.left l.clause);
  clause : is_clause l.partial.vars (drop l.left l.clause) ≡ true;
}

abbrev pub decreases-loop-left : goal.decreases-loop-left
decreases-loop-left l = l.left
