use Rattle.std.proofs.Common.{arith}
use Rattle.ilk_behave.proofs.RuleCounts.{cancel-count}
use Rattle.ilk_behave.proofs.counts.cancel_rule_count.Goals as goal

pub returns : goal.returns
returns c =
    let count = cancel-count c.args.plant.now c.args.r c.route-route.result.now c.route-route.ensures.route in
    omega (arith, count)
