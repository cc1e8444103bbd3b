use Rattle.ilk_net_check.specs.Numbers.{is_up_neighbour}
use Rattle.ilk_net_check.proofs.Tables.{table_more}
use Rattle.ilk_net_check.proofs.reach.steps_up.Goals as goal

pub loop-x-preserved : goal.loop-x-preserved
loop-x-preserved c =
    table_more c.loop-x.made c.push.new.self c.next_of.result c.loop-x.x (is_up_neighbour c.args.ends.now) c.loop-x.invariant c.in_ok-push.ensures.ok (λ y small. rw c.ends_of_section.ensures at c.next_of.ensures y small)
