use Rattle.std.proofs.Common.{◌≡◌, ◌++◌}
use Rattle.ilk_plant.specs.ColumnRules.{breaks_column_rule_at_pair}
use Rattle.ilk_table_check.specs.Columns.{broken_pairs_for_fixed_first}
use Rattle.ilk_table_check.proofs.columns.push_pairs_of.Given as goal

abbrev pub invariant-loop-j : goal.invariant-loop-j
invariant-loop-j l = l.found ≡ l.fn.found ++ broken_pairs_for_fixed_first l.rule l.j l.i (breaks_column_rule_at_pair l.plant l.rule l.i)
