use Rattle.std.proofs.Common.{◌≡◌, ◌∙◌, ap, arith}
use Rattle.std.proofs.lemmas.List.{take_all}
use Rattle.ilk_base.proofs.FlatMaps.{flat_map-grows}
use Rattle.ilk_net_check.proofs.Returning.{listed-walks}
use Rattle.ilk_plant.specs.Broken.{broken_below, broken_for_rules, place_kind_of}
use Rattle.ilk_plant.specs.NetworkRules.{breaks_network_rule_at, place_count_in_network, all_network_rules, network_rules_broken}
use Rattle.ilk_net_check.proofs.rules.check_network_with_names.Goals as goal

pub loop-rule-preserved : goal.loop-rule-preserved
loop-rule-preserved c =
    flat_map-grows
    (λ rule. broken_below rule (place_count_in_network c.args.net.now (place_kind_of rule))
    (breaks_network_rule_at c.args.net.now rule)) all_network_rules
    c.loop-rule.rule-index _ c.loop-rule.broken c.push_broken.new.broken c.loop-rule-test.true
    c.loop-rule.invariant (rw c.in_ok-network.ensures.net at c.in_ok-push_broken.ensures)

pub returns-clause-walks : goal.returns-clause-walks
returns-clause-walks c x =
    let whole : c.loop-rule.broken ≡ network_rules_broken c.args.net.now =
    c.loop-rule.invariant ∙ ap (λ asked. broken_for_rules asked (place_count_in_network c.args.net.now) (breaks_network_rule_at c.args.net.now)) (take_all c.loop-rule.rule-index all_network_rules (omega (arith, c.loop-rule-test.false))) in
    listed-walks c.args.net.now x c.loop-rule.broken whole
