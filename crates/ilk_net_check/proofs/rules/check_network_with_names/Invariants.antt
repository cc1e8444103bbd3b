use Rattle.std.proofs.Common.{◌≡◌, take}
use Rattle.ilk_plant.specs.Broken.{broken_for_rules}
use Rattle.ilk_plant.specs.NetworkRules.{breaks_network_rule_at, place_count_in_network, all_network_rules}
use Rattle.ilk_net_check.proofs.rules.check_network_with_names.Given as goal

abbrev pub invariant-loop-rule : goal.invariant-loop-rule
invariant-loop-rule l =
    l.broken ≡ broken_for_rules (take l.rule-index all_network_rules) (place_count_in_network l.net) (breaks_network_rule_at l.net)
