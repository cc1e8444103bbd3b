use Rattle.std.proofs.Common.{◌≡◌, flat_map, take}
use Rattle.ilk_plant.specs.ColumnRules.{broken_for_column_rule, all_column_rules}
use Rattle.ilk_table_check.proofs.columns.check_columns.Given as goal

abbrev pub invariant-loop-rule : goal.invariant-loop-rule
invariant-loop-rule l = l.found ≡ flat_map (broken_for_column_rule l.plant) (take l.rule-index all_column_rules)
