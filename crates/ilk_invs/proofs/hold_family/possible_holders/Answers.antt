use Rattle.ilk_invs.specs.HoldFamilies.{is_possible_holder}
use Rattle.ilk_invs.proofs.Pushed.{passing_more}
use Rattle.ilk_invs.proofs.hold_family.possible_holders.Goals as goal

pub loop-r-preserved : goal.loop-r-preserved
loop-r-preserved c =
    passing_more (is_possible_holder c.args.plant.now c.args.x) c.loop-r.r _ c.loop-r.routes c.push_if.new.self c.is_possible_holder.ensures c.loop-r.invariant c.in_ok-push_if.ensures.ok
