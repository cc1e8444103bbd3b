use Rattle.ilk_net_check.specs.Numbers.{is_up_neighbour}
use Rattle.ilk_net_check.proofs.Tables.{next_table}
use Rattle.ilk_net_check.proofs.reach.up_reachability_matrix.Goals as goal

pub loop-k-preserved : goal.loop-k-preserved
loop-k-preserved c =
    next_table c.args.count c.loop-k.k (is_up_neighbour c.args.ends.now) c.loop-k.leads c.go_by_way_of.new.leads c.loop-k-test.true c.requires c.loop-k.invariant c.go_by_way_of.ensures
