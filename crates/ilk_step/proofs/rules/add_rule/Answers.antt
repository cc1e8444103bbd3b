use Rattle.std.proofs.Common.{◌≡◌, ◌∷◌, [], ◌∙◌, ℕ, List, refl, ap}
use Rattle.ilk_cnf.specs.Formula.{Formula, is_clause_over}
use Rattle.ilk_cnf.proofs.Literals.{is_clause_over-more}
use Rattle.ilk_ir.specs.System.{plain_rule}
use Rattle.ilk_forms.specs.Leaf.{has_lits_within_vars}
use Rattle.ilk_forms.specs.Demand.{some_lit_or_form_part}
use Rattle.ilk_forms.proofs.Reading.{has_lits_within_vars-more}
use Rattle.ilk_forms.proofs.DemandLaw.{some_lit_or_form-fits}
use Rattle.ilk_step.specs.Rules.{settings_unless_skipped_part}
use Rattle.ilk_step.proofs.RulesLaw.{rule_valid-guard, rule_valid-settings, settings_valid}
use Rattle.ilk_step.proofs.RulesSteps.{next_part}
use Rattle.ilk_step.proofs.rules.add_rule.Goals as goal

pub demand_some_lit_or_form-requires-clause-valid : goal.demand_some_lit_or_form-requires-clause-valid
demand_some_lit_or_form-requires-clause-valid c = rule_valid-guard _ (plain_rule c.args.rule.now) c.requires.valid

pub add_settings-requires-clause-next : goal.add_settings-requires-clause-next
add_settings-requires-clause-next c =
    let n = c.args.cnf.now.vars in
    let r = plain_rule c.args.rule.now in
    let skip = c.args.skip ∷ [] in
    let p = some_lit_or_form_part c.args.now.now skip r.guard n in
    let fits = some_lit_or_form-fits r.guard c.args.now.now skip n c.requires.now c.requires.skip (rule_valid-guard _ r c.requires.valid) in
    ap (λ (f : Formula). has_lits_within_vars f.vars c.args.next.now) c.in_ok-demand_some_lit_or_form.ensures.made ∙ has_lits_within_vars-more n p.vars c.args.next.now fits.low c.requires.next

pub add_settings-requires-clause-skip : goal.add_settings-requires-clause-skip
add_settings-requires-clause-skip c =
    let n = c.args.cnf.now.vars in
    let r = plain_rule c.args.rule.now in
    let skip = c.args.skip ∷ [] in
    let p = some_lit_or_form_part c.args.now.now skip r.guard n in
    let fits = some_lit_or_form-fits r.guard c.args.now.now skip n c.requires.now c.requires.skip (rule_valid-guard _ r c.requires.valid) in
    ap (λ (f : Formula). is_clause_over f.vars skip) c.in_ok-demand_some_lit_or_form.ensures.made ∙ is_clause_over-more n p.vars skip fits.low c.requires.skip

pub add_settings-requires-clause-valid : goal.add_settings-requires-clause-valid
add_settings-requires-clause-valid c =
    let sets = c.args.rule.now.sets in
    let same : c.as_slice.result.now ≡ sets = c.as_slice.ensures in
    ap (λ (u : List ℕ). settings_valid u c.as_slice.result.now) c.requires.same ∙ ap (settings_valid _) same ∙ rule_valid-settings _ (plain_rule c.args.rule.now) c.requires.valid

pub returns : goal.returns
returns c =
    let n = c.args.cnf.now.vars in
    let r = plain_rule c.args.rule.now in
    let skip = c.args.skip ∷ [] in
    next_part c.args.cnf.now c.demand_some_lit_or_form.new.cnf c.add_settings.new.cnf
    (some_lit_or_form_part c.args.now.now skip r.guard n) (settings_unless_skipped_part c.args.next.now c.args.skip r.sets)
    c.in_ok-demand_some_lit_or_form.ensures.made (c.in_ok-add_settings.ensures ∙ rw c.as_slice.ensures refl)
