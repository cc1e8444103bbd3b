use Rattle.std.proofs.Common.{◌+◌, ◌-◌}
use Rattle.ilk_watches.specs.Visits.{count_rest_of_chain}
use Rattle.ilk_watches.proofs.Going.{Alone, Both, Sofar}
use Rattle.ilk_watches.proofs.walk.propagate_from.Given as goal

abbrev pub invariant-entries : goal.invariant-entries
invariant-entries l = record {
  sofar : Sofar l.fn.clauses l.clauses l.fn.trail l.trail;
  alone : Alone l.clauses l.trail.entries l.head l.next l.older;
}

abbrev pub decreases-entries : goal.decreases-entries
decreases-entries l = l.trail.vars + 2 - l.next

abbrev pub invariant-alone : goal.invariant-alone
invariant-alone l = record {
  sofar : Sofar l.fn.clauses l.clauses l.fn.trail l.trail;
  alone : Alone l.clauses l.trail.entries l.head l.next l.older;
}

abbrev pub decreases-alone : goal.decreases-alone
decreases-alone l = count_rest_of_chain l.clauses l.older.f l.older.next

abbrev pub invariant-both : goal.invariant-both
invariant-both l = record {
  sofar : Sofar l.fn.clauses l.clauses l.fn.trail l.trail;
  both : Both l.clauses l.trail.entries l.head l.next l.older l.newer;
}

abbrev pub decreases-both : goal.decreases-both
decreases-both l = count_rest_of_chain l.clauses l.older.f l.older.next + count_rest_of_chain l.clauses l.newer.f l.newer.next
