use Rattle.std.proofs.Common.{Err, ◌+◌, arith, rules, ap, sym, ◌∙◌}
use Rattle.ilk_lines.proofs.InOrder.{item_missing, item_more}
use Rattle.ilk_lines.proofs.Leading.{takes_one}
use Rattle.ilk_lines.proofs.each.read_one_line_per_item.Goals as goal

pub returns-in_default-clause-told : goal.returns-in_default-clause-told
returns-in_default-clause-told g c value agrees =
    item_missing value _ _ _ c.loop-x.values c.loop-x.x-index _ c.loop-x.lines.lines (c.loop-x.invariant.at value agrees) (omega arith) c.in_default.ensures.none ∙ ap (λ n. Err n) (sym c.number-number.ensures)

pub loop-x-preserved : goal.loop-x-preserved
loop-x-preserved g c = record {
  at = λ value agrees. item_more value _ _ _ c.loop-x.values c.push.new.self c.loop-x.x-index _ _ c.in-Some.line.now c.loop-x.lines.lines _ c.in-Some-tell.value
      (c.loop-x.invariant.at value agrees) (omega arith) c.in-Some.ensures.line (agrees _ _ _ (omega (arith, c.type_inv.items c.loop-x.x-index)) c.in-Some-tell.ensures) (c.in_ok-push.ensures.ok) (omega (arith, c.in-Some.ensures.number));
  after = search rules;
  left = takes_one c.loop-x.x-index c.args.lines.now c.loop-x.lines _ c.in-Some.line.now c.loop-x.invariant.left c.in-Some.ensures.line c.in-Some.ensures.number c.in-Some.ensures.after;
}

pub returns-in_default-tell-clause-left : goal.returns-in_default-tell-clause-left
returns-in_default-tell-clause-left g c =
    (c.loop-x.x-index + 1, omega arith, takes_one c.loop-x.x-index c.args.lines.now c.loop-x.lines _ c.in-Some.line.now c.loop-x.invariant.left c.in-Some.ensures.line c.in-Some.ensures.number c.in-Some.ensures.after)

pub returns-in_err-push-clause-left : goal.returns-in_err-push-clause-left
returns-in_err-push-clause-left g c =
    (c.loop-x.x-index + 1, omega arith, takes_one c.loop-x.x-index c.args.lines.now c.loop-x.lines _ c.in-Some.line.now c.loop-x.invariant.left c.in-Some.ensures.line c.in-Some.ensures.number c.in-Some.ensures.after)
