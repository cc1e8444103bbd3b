use Rattle.std.proofs.Common.{◌≡◌, [], length}
use Rattle.ilk_io.proofs.Added.{Written}
use Rattle.ilk_io.specs.Sink.{AppendsPrefix}
use Rattle.ilk_io.proofs.writing.write_all.Given as goal

abbrev pub invariant-loop-rest : goal.invariant-loop-rest
invariant-loop-rest g l =
    record {
      written : Written (g.K.Sink.written l.initial.sink) (g.K.Sink.written l.sink) l.fn.text l.rest;
      prefix : AppendsPrefix (g.K.Sink.written l.initial.sink) (g.K.Sink.written l.sink) l.fn.text;
      unraised : g.K.Sink.faults l.sink ≡ g.K.Sink.faults l.initial.sink;
      untouched : l.fn.text ≡ [] → l.sink ≡ l.initial.sink;
    }

abbrev pub decreases-loop-rest : goal.decreases-loop-rest
decreases-loop-rest g l = length l.rest
