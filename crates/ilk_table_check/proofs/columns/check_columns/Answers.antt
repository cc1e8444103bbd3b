use Rattle.ilk_base.proofs.FlatMaps.{flat_map-grows}
use Rattle.ilk_plant.specs.ColumnRules.{broken_for_column_rule, all_column_rules}
use Rattle.ilk_table_check.proofs.columns.check_columns.Goals as goal

pub loop-rule-preserved : goal.loop-rule-preserved
loop-rule-preserved c =
    flat_map-grows (broken_for_column_rule c.args.plant.now) all_column_rules c.loop-rule.rule-index _ c.loop-rule.found c.push_rule.new.found c.loop-rule-test.true c.loop-rule.invariant c.in_ok-push_rule.ensures
