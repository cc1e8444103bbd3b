use Rattle.std.proofs.Common.{None}
use Rattle.ilk_plant.specs.TableRules.{breaks_table_rule_at}
use Rattle.ilk_table_check.proofs.table.push_rule.Goals as goal
use Rattle.ilk_base.proofs.Ranges.{grows_if}

pub loop-i-preserved : goal.loop-i-preserved
loop-i-preserved c =
    grows_if (λ i. record { rule = c.args.rule; first = i; second = None })
    (breaks_table_rule_at c.args.plant.now c.args.rule) c.loop-i.i c.breaks_table_rule_at.result c.args.found.now
    c.loop-i.found c.push_broken_if.new.found c.breaks_table_rule_at.ensures c.loop-i.invariant
    c.in_ok-push_broken_if.ensures.ok
