use Rattle.ilk_base.proofs.BitSets.{one_more}
use Rattle.ilk_base.proofs.bit_set.with_bit.Goals as goal

pub returns : goal.returns
returns c x = one_more c.args.bits c.args.y x c.requires
