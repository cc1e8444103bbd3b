use Rattle.std.proofs.Common.{◌≡◌, ◌+◌, ◌-◌, ◌≤◌}
use Rattle.ilk_top.proofs.Fed.{Fed}
use Rattle.ilk_top.proofs.pieces.feed_whole_source_to_reader.Given as goal

abbrev pub invariant-loop-n : goal.invariant-loop-n
invariant-loop-n g l =
    record {
      fed : Fed (g.S.Source.left l.initial.source) (g.S.Source.left l.source) l.initial.reader l.reader l.count;
      within : l.count ≤ l.limit;
      unraised : g.S.Source.faults l.source ≡ g.S.Source.faults l.initial.source;
    }

abbrev pub decreases-loop-n : goal.decreases-loop-n
decreases-loop-n g l = l.limit + 1 - l.count
