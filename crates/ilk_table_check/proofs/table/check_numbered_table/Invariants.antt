use Rattle.std.proofs.Common.{◌≡◌, take}
use Rattle.ilk_plant.specs.Broken.{broken_for_rules}
use Rattle.ilk_plant.specs.TableRules.{breaks_table_rule_at, place_count_in_plant, all_table_rules}
use Rattle.ilk_table_check.proofs.table.check_numbered_table.Given as goal

abbrev pub invariant-loop-rule : goal.invariant-loop-rule
invariant-loop-rule l =
    l.found ≡ broken_for_rules (take l.rule-index all_table_rules) (place_count_in_plant l.plant) (breaks_table_rule_at l.plant)
