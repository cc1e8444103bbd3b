use Rattle.ilk_base.proofs.FlatMaps.{flat_map-grows}
use Rattle.ilk_plant.specs.Broken.{broken_below, place_kind_of}
use Rattle.ilk_plant.specs.TableRules.{breaks_table_rule_at, place_count_in_plant, all_table_rules}
use Rattle.ilk_table_check.proofs.table.check_numbered_table.Goals as goal

pub loop-rule-preserved : goal.loop-rule-preserved
loop-rule-preserved c =
    flat_map-grows
    (λ rule. broken_below rule (place_count_in_plant c.args.plant.now (place_kind_of rule))
    (breaks_table_rule_at c.args.plant.now rule)) all_table_rules
    c.loop-rule.rule-index _ c.loop-rule.found c.push_rule.new.found c.loop-rule-test.true
    c.loop-rule.invariant c.in_ok-push_rule.ensures
