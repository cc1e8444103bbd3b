use Rattle.ilk_base.proofs.BitSets.{of_both}
use Rattle.ilk_base.proofs.bit_set.both_bits.Goals as goal

pub returns : goal.returns
returns c = of_both c.args.bits c.args.others
