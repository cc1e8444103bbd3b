use Rattle.std.proofs.Common.{ℕ, ◌+◌, ◌^◌, ◌++◌, List, drop, get_or, sym, ap, ◌∙◌, subst}
use Rattle.std.proofs.lemmas.List.{drop_all, drop_more}
use Rattle.ilk_step.specs.declared.choice.Choice.{Choice}
use Rattle.ilk_unroll.specs.Tables.{StepsChooseTheseRules, choices_begin_at_or_before}
use Rattle.ilk_unroll.proofs.ReadBack.{head, rules-next, no_rules-left, numbered-first}
use Rattle.ilk_unroll.proofs.reading.read_rules.Goals as goal

abbrev none : Choice
none = record { first = 0; rules = 0 }

pub loop-choice-init : goal.loop-choice-init
loop-choice-init c =
    λ rules h.
    record {
      rest = rules;
      whole = ap (λ (us : List ℕ). us ++ rules) c.new-rules.ensures;
      chosen = subst (λ (cs : List Choice). StepsChooseTheseRules c.args.a.now cs rules) (sym c.as_slice-choice-items.ensures) h;
    }

pub chosen_rule-requires-clause-numbered : goal.chosen_rule-requires-clause-numbered
chosen_rule-requires-clause-numbered c =
    let all = c.as_slice-choice-items.result.now in
    let i = c.loop-choice.choice-index in
    let choice : Choice = get_or all i none in
    numbered-first (2 ^ 62) all i choice (drop (i + 1) all) (ap (choices_begin_at_or_before (2 ^ 62)) c.as_slice-choice-items.ensures ∙ c.requires.numbered) (drop_more all i none c.loop-choice-test.true)

pub chosen_rule-requires-clause-one : goal.chosen_rule-requires-clause-one
chosen_rule-requires-clause-one c =
    let all = c.as_slice-choice-items.result.now in
    let i = c.loop-choice.choice-index in
    let choice : Choice = get_or all i none in
    let rules = c.requires.chosen in
    let left = c.loop-choice.invariant rules.0 rules.1 in
    let h = head c.args.a.now choice (drop i all) (drop (i + 1) all) left.rest (drop_more all i none c.loop-choice-test.true) left.chosen in
    (h.rule, h.chosen)

pub loop-choice-preserved : goal.loop-choice-preserved
loop-choice-preserved c =
    let all = c.as_slice-choice-items.result.now in
    let i = c.loop-choice.choice-index in
    let choice : Choice = get_or all i none in
    λ rules h. rules-next c.args.a.now choice (drop i all) (drop (i + 1) all) c.chosen_rule.result
    c.loop-choice.rules c.push.new.self rules (drop_more all i none c.loop-choice-test.true)
    c.chosen_rule.ensures.only c.in_ok-push.ensures.ok (c.loop-choice.invariant rules h)

pub returns : goal.returns
returns c =
    let all = c.as_slice-choice-items.result.now in
    let i = c.loop-choice.choice-index in
    let choice : Choice = get_or all i none in
    λ rules h. no_rules-left c.args.a.now (drop i all) c.loop-choice.rules rules (drop_all i all c.loop-choice-test.false) (c.loop-choice.invariant rules h)
