use Rattle.std.proofs.Common.{◌≡◌, ℕ, ◌∙◌, ◌+◌, ◌-◌, ◌++◌, ◌∷◌, [], List, drop, map, length, ap, sym, arith}
use Rattle.std.specs.List.{list_all}
use Rattle.std.proofs.lemmas.List.{append-nil, drop_more, length-map}
use Rattle.std.proofs.lemmas.Option.{slice_get_within, get_or_from_slice_get}
use Rattle.ilk_cnf.specs.Part.{with_part}
use Rattle.ilk_cnf.specs.Formula.{Formula}
use Rattle.ilk_ir.specs.System.{plain_rule, rule_valid, plain_system}
use Rattle.ilk_forms.specs.declared.copy.VarValueAndBoundLits.{VarValueAndBoundLits}
use Rattle.ilk_step.specs.declared.choice.Choice.{Choice}
use Rattle.ilk_step.specs.Step.{step_part}
use Rattle.ilk_unroll.specs.Query.{steps_part}
use Rattle.ilk_unroll.specs.Tables.{are_copies_within_vars, choice_variables_per_step}
use Rattle.ilk_unroll.proofs.CopiesLaw.{within-at, ranges-at, are_copies_within_vars-more}
use Rattle.ilk_unroll.proofs.StepsLaw.{one-fits, steps-next, few-steps, few-left}
use Rattle.ilk_unroll.proofs.DemandsLaw.{nothing-made}
use Rattle.ilk_unroll.proofs.QueryLaw.{rules-valid}
use Rattle.ilk_unroll.proofs.unroll.add_steps.Goals as goal

pub add_step-requires-clause-now : goal.add_step-requires-clause-now
add_step-requires-clause-now c = within-at c.args.tables.now c.loop-i.cnf.vars (c.loop-i.i - 1) c.at.result.now c.loop-i.invariant.within c.at.ensures

pub add_step-requires-clause-next : goal.add_step-requires-clause-next
add_step-requires-clause-next c = within-at c.args.tables.now c.loop-i.cnf.vars c.loop-i.i c.at-in-loop-i.result.now c.loop-i.invariant.within c.at-in-loop-i.ensures

pub add_step-requires-clause-same : goal.add_step-requires-clause-same
add_step-requires-clause-same c =
    ranges-at c.args.tables.now c.args.system.now.ranges c.loop-i.i c.at-in-loop-i.result.now c.requires.ranges c.at-in-loop-i.ensures
    ∙ sym (ranges-at c.args.tables.now c.args.system.now.ranges (c.loop-i.i - 1) c.at.result.now c.requires.ranges c.at.ensures)

pub add_step-requires-clause-valid : goal.add_step-requires-clause-valid
add_step-requires-clause-valid c =
    let s = c.args.system.now in
    ap (λ (rs : List ℕ). list_all (rule_valid rs) (map plain_rule s.rules)) (ranges-at c.args.tables.now s.ranges (c.loop-i.i - 1) c.at.result.now c.requires.ranges c.at.ensures)
    ∙ rules-valid (plain_system s) c.requires.valid

pub loop-i-preserved : goal.loop-i-preserved
loop-i-preserved c =
    let s = c.args.system.now in
    let rules = map plain_rule s.rules in
    let all = c.args.tables.now in
    let i = c.loop-i.i in
    let f = c.args.cnf.now in
    let g = c.loop-i.cnf in
    let h = c.add_step.new.cnf in
    let now = c.at.result.now in
    let next = c.at-in-loop-i.result.now in
    let before : i - 1 + 1 ≡ i = omega arith in
    let after : i + 1 - 1 ≡ i = omega arith in
    let rest = drop (i + 1) all in
    let there : drop i all ≡ next ∷ rest = drop_more all i next (slice_get_within all i next c.at-in-loop-i.ensures) ∙ ap (λ (y : List VarValueAndBoundLits). y ∷ rest) (get_or_from_slice_get all i next next c.at-in-loop-i.ensures) in
    let split : drop (i - 1) all ≡ now ∷ next ∷ rest =
    drop_more all (i - 1) now (slice_get_within all (i - 1) now c.at.ensures)
    ∙ ap (λ (y : List VarValueAndBoundLits). y ∷ drop (i - 1 + 1) all)
    (get_or_from_slice_get all (i - 1) now now c.at.ensures)
    ∙ ap (λ (k : ℕ). now ∷ drop k all) before ∙ ap (λ (ts : List (List VarValueAndBoundLits)). now ∷ ts) there in
    let seen : next ∷ rest ≡ drop (i + 1 - 1) all = sym there ∙ ap (λ (k : ℕ). drop k all) (sym after) in
    let made = c.in_ok-choice.ensures.made in
    let long : length s.rules ≡ length rules = sym (length-map s.rules plain_rule) in
    let step = steps-next g h rules c.loop-i.choices (choice_variables_per_step rules all f.vars) c.in_ok-choice.choice
    (with_part f (steps_part rules all f.vars)) (drop (i - 1) all) now next rest (length s.rules) split
    long c.in_ok-choice.ensures.choice made c.loop-i.invariant.choices c.loop-i.invariant.made in
    let fits = one-fits now next s.ranges rules g.vars
    (within-at all g.vars (i - 1) now c.loop-i.invariant.within c.at.ensures)
    (within-at all g.vars i next c.loop-i.invariant.within c.at-in-loop-i.ensures)
    (ranges-at all s.ranges (i - 1) now c.requires.ranges c.at.ensures)
    (ranges-at all s.ranges i next c.requires.ranges c.at-in-loop-i.ensures)
    (rules-valid (plain_system s) c.requires.valid) in
    let vars : h.vars ≡ (step_part rules now next g.vars).vars = ap (λ (u : Formula). u.vars) made in
    record {
      within = ap (λ (k : ℕ). are_copies_within_vars k all) vars ∙ are_copies_within_vars-more g.vars (step_part rules now next g.vars).vars all fits.low c.loop-i.invariant.within;
      choices = ap (λ (cs : List Choice). cs ++ choice_variables_per_step rules (drop (i + 1 - 1) all) h.vars) c.in_ok-push.ensures.ok
          ∙ ap (λ (ts : List (List VarValueAndBoundLits)). (c.loop-i.choices ++ c.in_ok-choice.choice ∷ []) ++ choice_variables_per_step rules ts h.vars) (sym seen)
          ∙ step.0;
      made = ap (λ (ts : List (List VarValueAndBoundLits)). with_part h (steps_part rules ts h.vars)) (sym seen) ∙ step.1;
    }

pub returns-clause-choices : goal.returns-clause-choices
returns-clause-choices c =
    let all = c.args.tables.now in
    let i = c.loop-i.i in
    let rules = map plain_rule c.args.system.now.rules in
    let left = few-steps rules (drop (i - 1) all) c.loop-i.cnf.vars (few-left all i (omega (arith, c.loop-i-test.false, c.len-i-end.ensures))) in
    sym (append-nil c.loop-i.choices) ∙ ap (λ (cs : List Choice). c.loop-i.choices ++ cs) (sym left.1) ∙ c.loop-i.invariant.choices

pub returns-clause-made : goal.returns-clause-made
returns-clause-made c =
    let all = c.args.tables.now in
    let i = c.loop-i.i in
    let g = c.loop-i.cnf in
    let rules = map plain_rule c.args.system.now.rules in
    let left = few-steps rules (drop (i - 1) all) g.vars (few-left all i (omega (arith, c.loop-i-test.false, c.len-i-end.ensures))) in
    nothing-made g ∙ ap (with_part g) (sym left.0) ∙ c.loop-i.invariant.made
