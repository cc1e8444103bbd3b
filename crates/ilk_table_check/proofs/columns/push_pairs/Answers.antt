use Rattle.std.proofs.Common.{length}
use Rattle.ilk_plant.specs.ColumnRules.{breaks_column_rule_at_pair}
use Rattle.ilk_table_check.specs.Columns.{broken_pairs_for_fixed_first}
use Rattle.ilk_table_check.proofs.columns.push_pairs.Goals as goal
use Rattle.ilk_base.proofs.Ranges.{grows_all}

pub loop-i-preserved : goal.loop-i-preserved
loop-i-preserved c =
    grows_all (λ i. broken_pairs_for_fixed_first c.args.rule (length c.args.plant.now.routes) i (breaks_column_rule_at_pair c.args.plant.now c.args.rule i)) c.loop-i.i c.args.found.now c.loop-i.found c.push_pairs_of.new.found c.loop-i.invariant
    c.in_ok-push_pairs_of.ensures
