use Rattle.ilk_plant.proofs.Leads.{is_on_up_cycle-walks}
use Rattle.ilk_net_check.proofs.walks.up_cycle_test_is_exact.Goals as goal

pub returns : goal.returns
returns c = is_on_up_cycle-walks c.args.net.now c.args.x
