use Rattle.std.proofs.Common.{None}
use Rattle.ilk_plant.specs.NetworkRules.{breaks_network_rule_at}
use Rattle.ilk_net_check.proofs.rules.push_broken.Goals as goal
use Rattle.ilk_base.proofs.Ranges.{grows_if}

pub loop-x-preserved : goal.loop-x-preserved
loop-x-preserved c =
    grows_if (λ x. record { rule = c.args.rule; first = x; second = None })
    (breaks_network_rule_at c.args.network.now.net.now c.args.rule) c.loop-x.x c.breaks.result c.args.broken.now
    c.loop-x.broken c.push_broken_if.new.found c.breaks.ensures c.loop-x.invariant c.in_ok-push_broken_if.ensures.ok
