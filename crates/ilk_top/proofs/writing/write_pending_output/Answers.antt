use Rattle.std.proofs.Common.{arith, ◌≡◌, ◌∙◌, length}
use Rattle.ilk_io.proofs.Added.{Written, Written-empty, Written-prefix}
use Rattle.ilk_top.proofs.Poured.{Written-cut, Written-front, front-taken, went-well}
use Rattle.ilk_top.proofs.writing.write_pending_output.Goals as goal

pub returns-then-is_err-clause-prefix : goal.returns-then-is_err-clause-prefix
returns-then-is_err-clause-prefix g c =
    Written-cut _ _ _ _ _ _ _ c.loop-piece.invariant.written (front-taken c.take-count.result c.loop-piece.content _ _ c.take-count.ensures.bytes c.take-count.ensures.rest) c.write_all.ensures.prefix

pub loop-piece-preserved : goal.loop-piece-preserved
loop-piece-preserved g c =
    let more : Written (g.K.Sink.written c.args.sink.now) (g.K.Sink.written c.write_all.new.sink)
    c.args.content.now c.take-count.new.self =
    Written-front _ _ _ _ _ _ _ c.loop-piece.invariant.written
    (front-taken c.take-count.result c.loop-piece.content _ _ c.take-count.ensures.bytes
    c.take-count.ensures.rest)
    (went-well _ c.write_all.result (cc) c.write_all.ensures.whole) in record {
      written = more;
      prefix = Written-prefix _ _ _ _ more;
      unraised = went-well _ c.write_all.result (cc) c.write_all.ensures.unraised ∙ c.loop-piece.invariant.unraised;
      untouched = λ e. let none : length c.loop-piece.content ≡ 0 = Written-empty _ _ _ _ c.loop-piece.invariant.written e in absurd (grind (arith, none, c.take-count.ensures.count, c.if-count-eq0.false));
    }
