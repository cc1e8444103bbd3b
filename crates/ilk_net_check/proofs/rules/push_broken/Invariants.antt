use Rattle.std.proofs.Common.{◌≡◌, ◌++◌}
use Rattle.ilk_plant.specs.Broken.{broken_below}
use Rattle.ilk_plant.specs.NetworkRules.{breaks_network_rule_at}
use Rattle.ilk_net_check.proofs.rules.push_broken.Given as goal

abbrev pub invariant-loop-x : goal.invariant-loop-x
invariant-loop-x l =
    l.broken ≡ l.initial.broken ++ broken_below l.rule l.x (breaks_network_rule_at l.network.net.now l.rule)
