use Rattle.ilk_base.proofs.BitSets.{of_either}
use Rattle.ilk_base.proofs.bit_set.either_bits.Goals as goal

pub returns : goal.returns
returns c = of_either c.args.bits c.args.others
