use Rattle.std.proofs.Common.{◌≡◌, false, length, Some}
use Rattle.ilk_plant.specs.ColumnRules.{breaks_column_rule_at_pair}
use Rattle.ilk_table_check.proofs.Asked.{adds_none}
use Rattle.ilk_table_check.proofs.columns.push_pairs_of.Goals as goal
use Rattle.ilk_base.proofs.Ranges.{grows_if}

pub loop-j-preserved : goal.loop-j-preserved
loop-j-preserved c =
    grows_if (λ j. record { rule = c.args.rule; first = c.args.i; second = Some j })
    (breaks_column_rule_at_pair c.args.plant.now c.args.rule c.args.i) c.loop-j.j c.breaks_at_pair.result
    c.args.found.now c.loop-j.found c.push_broken_if.new.found c.breaks_at_pair.ensures c.loop-j.invariant
    c.in_ok-push_broken_if.ensures.ok

pub returns-then-not-may_break_with_first_route : goal.returns-then-not-may_break_with_first_route
returns-then-not-may_break_with_first_route c =
    let none : c.may_break_with_first_route.result ≡ false = c.if-not-may_break_with_first_route.true in
    adds_none c.args.rule (length c.args.plant.now.routes) c.args.i (breaks_column_rule_at_pair c.args.plant.now c.args.rule c.args.i) c.args.found.now (c.may_break_with_first_route.ensures none)
