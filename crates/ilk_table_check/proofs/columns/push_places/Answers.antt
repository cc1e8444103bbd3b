use Rattle.std.proofs.Common.{None}
use Rattle.ilk_plant.specs.ColumnRules.{breaks_column_rule_at}
use Rattle.ilk_table_check.proofs.columns.push_places.Goals as goal
use Rattle.ilk_base.proofs.Ranges.{grows_if}

pub loop-i-preserved : goal.loop-i-preserved
loop-i-preserved c =
    grows_if (λ i. record { rule = c.args.rule; first = i; second = None })
    (breaks_column_rule_at c.args.plant.now c.args.rule) c.loop-i.i c.breaks.result c.args.found.now
    c.loop-i.found c.push_broken_if.new.found c.breaks.ensures c.loop-i.invariant c.in_ok-push_broken_if.ensures.ok
