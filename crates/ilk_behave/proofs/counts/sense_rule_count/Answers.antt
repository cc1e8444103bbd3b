use Rattle.std.proofs.Common.{arith}
use Rattle.ilk_behave.proofs.RuleCounts.{sense-count}
use Rattle.ilk_behave.proofs.counts.sense_rule_count.Goals as goal

pub returns : goal.returns
returns c =
    let count = sense-count c.args.plant.now c.args.r c.route-route.result.now c.route-route.ensures.route in
    omega (arith, count)
