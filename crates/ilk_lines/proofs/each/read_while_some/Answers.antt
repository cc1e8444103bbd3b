use Rattle.std.proofs.Common.{◌∙◌, ap, length, subst, sym}
use Rattle.std.proofs.lemmas.List.{length_push}
use Rattle.ilk_lines.specs.LinesLeft.{TookFirstLines}
use Rattle.ilk_lines.specs.Reading.{leading_values, prepend_or_empty}
use Rattle.ilk_lines.proofs.Leading.{enough_values, taken_one, takes_one}
use Rattle.ilk_lines.proofs.each.read_while_some.Goals as goal

pub loop-line-preserved : goal.loop-line-preserved
loop-line-preserved g c = record {
  values = λ value agrees. taken_one _ c.loop-line.values _ _ c.push.new.self c.in-Some-2.value (c.loop-line.invariant.values value agrees)
      (ap (leading_values value) c.in-Some.ensures.lines ∙ ap (λ o. prepend_or_empty o (leading_values value c.in-Some.after.lines)) (sym (agrees _ _ c.in_ok-value.ensures) ∙ c.in-Some-2.is)) c.in_ok-push.ensures.ok;
  left = subst (λ n. TookFirstLines n c.args.lines.now c.in-Some.after) (sym (ap length c.in_ok-push.ensures.ok ∙ length_push c.loop-line.values c.in-Some-2.value))
      (takes_one (length c.loop-line.values) c.args.lines.now c.loop-line.lines c.in-Some.after c.in-Some.line.now c.loop-line.invariant.left c.in-Some.ensures.lines c.in-Some.ensures.number c.in-Some.ensures.after);
}

pub returns-clause-left : goal.returns-clause-left
returns-clause-left g c =
    (length c.loop-line.values, c.loop-line.invariant.left, λ value agrees. enough_values _ _ _ (c.loop-line.invariant.values value agrees))
