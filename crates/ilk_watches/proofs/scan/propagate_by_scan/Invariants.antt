use Rattle.std.proofs.Common.{◌≡◌, ◌+◌, ◌-◌, length}
use Rattle.ilk_watches.specs.Propagated.{ExtendsByPropagation}
use Rattle.ilk_watches.proofs.scan.propagate_by_scan.Given as goal

abbrev pub invariant-rounds : goal.invariant-rounds
invariant-rounds l = record {
  vars : l.trail.vars ≡ l.clauses.vars;
  trail : l.trail ≡ record l.initial.trail { entries = l.trail.entries };
  propagated : ExtendsByPropagation l.clauses.clauses l.initial.trail.entries l.trail.entries;
}

abbrev pub decreases-rounds : goal.decreases-rounds
decreases-rounds l = l.clauses.vars + 2 - length l.trail.entries
