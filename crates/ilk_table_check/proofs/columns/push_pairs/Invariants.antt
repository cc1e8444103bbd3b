use Rattle.std.proofs.Common.{◌≡◌, ◌++◌, length}
use Rattle.std.specs.List.{flat_map, range_with_len}
use Rattle.ilk_plant.specs.ColumnRules.{breaks_column_rule_at_pair}
use Rattle.ilk_table_check.specs.Columns.{broken_pairs_for_fixed_first}
use Rattle.ilk_table_check.proofs.columns.push_pairs.Given as goal

abbrev pub invariant-loop-i : goal.invariant-loop-i
invariant-loop-i l =
    l.found ≡ l.fn.found ++ flat_map (λ i. broken_pairs_for_fixed_first l.rule (length l.plant.routes) i (breaks_column_rule_at_pair l.plant l.rule i)) (range_with_len 0 l.i)
