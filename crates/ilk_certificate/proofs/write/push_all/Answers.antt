use Rattle.std.proofs.Common.{arith}
use Rattle.std.specs.Prelude.{string_bytes}
use Rattle.ilk_certificate.proofs.Lines.{asked_written}
use Rattle.ilk_certificate.proofs.write.push_all.Goals as goal

pub returns : goal.returns
returns c =
    asked_written (string_bytes c.args.text.now) c.args.asked.now c.loop-query.query-index _ (omega (arith, c.loop-query-test.false)) c.loop-query.invariant
