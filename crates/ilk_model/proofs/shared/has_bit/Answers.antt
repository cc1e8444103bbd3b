use Rattle.std.proofs.Common.{◌≡◌, ◌∙◌, false, nat_lt, arith}
use Rattle.std.proofs.lemmas.Bool.Decides.{nat_tests}
use Rattle.ilk_base.proofs.Bits.{no_bit_past}
use Rattle.ilk_model.proofs.shared.has_bit.Goals as goal

pub returns-else-x-lt128 : goal.returns-else-x-lt128
returns-else-x-lt128 c =
    let past : nat_lt c.args.x 128 ≡ false = let there = c.if-x-lt128.false in grind (arith, nat_tests) in
    past ∙ no_bit_past c.args.bits c.args.x c.ranges.bits.fits c.if-x-lt128.false
