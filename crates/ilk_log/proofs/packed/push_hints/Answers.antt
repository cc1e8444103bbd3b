use Rattle.std.proofs.Common.{◌++◌, take, arith}
use Rattle.ilk_log.proofs.Packing.{hint-told, hints-told}
use Rattle.ilk_log.proofs.packed.push_hints.Goals as goal

pub loop-i-preserved : goal.loop-i-preserved
loop-i-preserved c = λ numbers start.
    hint-told c.push_packed_delta.new.bytes.items numbers c.args.hints.now c.loop-i.i c.at-number.result.now c.at-number.ensures
    (c.in_ok-push_packed_delta.ensures (numbers ++ take c.loop-i.i c.args.hints.now) (c.loop-i.invariant numbers start))

pub returns : goal.returns
returns c = λ numbers start.
    hints-told c.loop-i.bytes.items numbers c.args.hints.now c.loop-i.i c.loop-i.last (omega (arith, c.loop-i-test.false, c.len-i-end.ensures)) (c.loop-i.invariant numbers start)
