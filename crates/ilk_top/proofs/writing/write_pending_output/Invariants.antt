use Rattle.std.proofs.Common.{◌≡◌, [], length}
use Rattle.ilk_io.proofs.Added.{Written}
use Rattle.ilk_io.specs.Sink.{AppendsPrefix}
use Rattle.ilk_top.proofs.writing.write_pending_output.Given as goal

abbrev pub invariant-loop-piece : goal.invariant-loop-piece
invariant-loop-piece g l =
    record {
      written : Written (g.K.Sink.written l.initial.sink) (g.K.Sink.written l.sink) l.initial.content l.content;
      prefix : AppendsPrefix (g.K.Sink.written l.initial.sink) (g.K.Sink.written l.sink) l.initial.content;
      unraised : g.K.Sink.faults l.sink ≡ g.K.Sink.faults l.initial.sink;
      untouched : l.initial.content ≡ [] → l.sink ≡ l.initial.sink;
    }

abbrev pub decreases-loop-piece : goal.decreases-loop-piece
decreases-loop-piece g l = length l.content
