use Rattle.std.proofs.Common.{◌≡◌, ◌-◌, length}
use Rattle.ilk_watches.specs.Propagated.{ExtendsByPropagation}
use Rattle.ilk_watches.specs.Watched.{IsPropagationInvariant}
use Rattle.ilk_watches.proofs.queue.PropagationProgress.settle.Given as goal

abbrev pub invariant-looks : goal.invariant-looks
invariant-looks l = record {
  trail : l.trail ≡ record l.initial.trail { entries = l.trail.entries };
  queue : IsPropagationInvariant l.clauses l.trail.entries l.self.head l.self.settled;
  propagated : ExtendsByPropagation l.clauses.clauses l.initial.trail.entries l.trail.entries;
}

abbrev pub decreases-looks : goal.decreases-looks
decreases-looks l = length l.clauses.clauses - l.self.settled
