use Rattle.std.proofs.Common.{◌∙◌}
use Rattle.ilk_tablegen.proofs.Flagged.{flags-more, flags-none}
use Rattle.ilk_tablegen.proofs.flags.path_membership_flags.Goals as goal

pub loop-x-init : goal.loop-x-init
loop-x-init c =
    c.in_ok-flags.ensures ∙ flags-none c.args.count c.args.count (λ i. c.args.count)

pub loop-x-preserved : goal.loop-x-preserved
loop-x-preserved c =
    flags-more c.args.count c.args.path.now c.loop-x.x-index _ c.loop-x.flags c.set_flag.new.flags c.loop-x-test.true c.loop-x.invariant c.set_flag.ensures
