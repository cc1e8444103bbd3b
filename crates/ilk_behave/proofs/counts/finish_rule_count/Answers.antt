use Rattle.std.proofs.Common.{arith}
use Rattle.ilk_behave.proofs.RuleCounts.{finish-count}
use Rattle.ilk_behave.proofs.counts.finish_rule_count.Goals as goal

pub returns : goal.returns
returns c =
    let count = finish-count c.args.plant.now c.args.r c.route-route.result.now c.route-route.ensures.route c.route-route.ensures.known.path_begins in
    omega (arith, count)
