use Rattle.std.proofs.Common.{◌≡◌, ◌++◌}
use Rattle.ilk_plant.specs.Broken.{broken_below}
use Rattle.ilk_plant.specs.ColumnRules.{breaks_column_rule_at}
use Rattle.ilk_table_check.proofs.columns.push_places.Given as goal

abbrev pub invariant-loop-i : goal.invariant-loop-i
invariant-loop-i l = l.found ≡ l.fn.found ++ broken_below l.rule l.i (breaks_column_rule_at l.plant l.rule)
