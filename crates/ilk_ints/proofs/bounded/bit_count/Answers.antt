use Rattle.std.proofs.Common.{◌≤◌, ◌^◌, rules}
use Rattle.ilk_ints.proofs.BitsLaw.{bit_count-first}
use Rattle.ilk_ints.proofs.bounded.bit_count.Goals as goal

pub returns-else-count-from-clause-count : goal.returns-else-count-from-clause-count
returns-else-count-from-clause-count c =
    let enough : c.args.range ≤ 2 ^ c.loop-count.count = search rules in
    bit_count-first c.args.range c.loop-count.count c.loop-count-test.true c.loop-count.invariant.low enough
