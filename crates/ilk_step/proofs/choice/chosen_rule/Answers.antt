use Rattle.std.proofs.Common.{◌≡◌, ◌+◌, ◌≤◌, false, arith}
use Rattle.ilk_cnf.specs.Truth.{value}
use Rattle.ilk_step.proofs.ChoiceLaw.{chosen-here, chosen-only, chosen-past}
use Rattle.ilk_step.proofs.choice.chosen_rule.Goals as goal

pub returns-else-value-clause-chosen : goal.returns-else-value-clause-chosen
returns-else-value-clause-chosen c =
    let place = c.from.ensures in
    let says = c.value.ensures in
    let not_set = c.if-value.false in
    let is : value c.args.a.now (c.args.choice.first + c.loop-rule.rule) ≡ false = cc in
    chosen-here c.args.a.now c.args.choice.first c.args.choice.rules c.loop-rule.rule c.requires.one c.loop-rule-test.true is

pub returns-else-value-clause-only : goal.returns-else-value-clause-only
returns-else-value-clause-only c =
    let place = c.from.ensures in
    let says = c.value.ensures in
    let not_set = c.if-value.false in
    let is : value c.args.a.now (c.args.choice.first + c.loop-rule.rule) ≡ false = cc in
    λ r h. chosen-only c.args.a.now c.args.choice.first c.args.choice.rules r c.loop-rule.rule h c.loop-rule-test.true is

pub returns-after-loop-rule-clause-chosen : goal.returns-after-loop-rule-clause-chosen
returns-after-loop-rule-clause-chosen c =
    let past : c.args.choice.rules ≤ c.loop-rule.rule = omega arith in
    absurd (chosen-past c.args.a.now c.args.choice.first c.args.choice.rules c.loop-rule.rule c.requires.one past c.loop-rule.invariant.others)

pub returns-after-loop-rule-clause-only : goal.returns-after-loop-rule-clause-only
returns-after-loop-rule-clause-only c =
    let past : c.args.choice.rules ≤ c.loop-rule.rule = omega arith in
    absurd (chosen-past c.args.a.now c.args.choice.first c.args.choice.rules c.loop-rule.rule c.requires.one past c.loop-rule.invariant.others)
