use Rattle.ilk_base.specs.BitSet.{bit_set_contains}
use Rattle.ilk_net_check.specs.Numbers.{is_up_side_end_naming}
use Rattle.ilk_net_check.proofs.Tables.{any_more}
use Rattle.ilk_net_check.proofs.reach.next_of.Goals as goal

pub loop-end-preserved : goal.loop-end-preserved
loop-end-preserved c y small =
    any_more (is_up_side_end_naming y) c.args.ends.now c.loop-end.end-index _ (bit_set_contains c.loop-end.next y) (bit_set_contains c.with_end-next.result y) c.loop-end-test.true (c.loop-end.invariant y small) (c.with_end-next.ensures y small)
