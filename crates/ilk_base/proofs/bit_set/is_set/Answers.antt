use Rattle.std.proofs.Common.{◌≡◌, ◌∙◌, false, nat_lt, arith}
use Rattle.std.proofs.lemmas.Bool.Decides.{nat_tests}
use Rattle.ilk_base.proofs.Bits.{no_bit_past}
use Rattle.ilk_base.proofs.bit_set.is_set.Goals as goal

pub returns-else-y-lt128 : goal.returns-else-y-lt128
returns-else-y-lt128 c =
    let past : nat_lt c.args.y 128 ≡ false = let there = c.if-y-lt128.false in grind (arith, nat_tests) in
    past ∙ no_bit_past c.args.bits c.args.y c.ranges.bits.fits c.if-y-lt128.false
