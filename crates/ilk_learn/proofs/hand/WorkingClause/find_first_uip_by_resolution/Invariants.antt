use Rattle.std.proofs.Common.{◌≤◌, length}
use Rattle.ilk_watches.specs.Chained.{formula_of}
use Rattle.ilk_learn.proofs.Far.{Far}
use Rattle.ilk_learn.proofs.hand.WorkingClause.find_first_uip_by_resolution.Given as goal

abbrev pub invariant-loop-i : goal.invariant-loop-i
invariant-loop-i l = record {
  low : l.i ≤ length l.trail.entries;
  far : Far (formula_of l.clauses) l.trail l.self l.conflict l.i;
}

abbrev pub decreases-loop-i : goal.decreases-loop-i
decreases-loop-i l = l.i
