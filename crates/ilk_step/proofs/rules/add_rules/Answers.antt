use Rattle.std.proofs.Common.{◌≡◌, ◌∷◌, ◌+◌, ◌≤◌, ◌∙◌, ℕ, List, drop, map, length, sym, ap, arith}
use Rattle.std.specs.List.{list_all}
use Rattle.std.proofs.lemmas.Bool.{and_parts}
use Rattle.ilk_base.proofs.Lists.{drop_at}
use Rattle.ilk_cnf.specs.Literal.{Literal, positive_lit}
use Rattle.ilk_cnf.specs.Formula.{Formula}
use Rattle.ilk_cnf.specs.Part.{with_part}
use Rattle.ilk_ir.specs.System.{PlainRule, plain_rule, rule_valid}
use Rattle.ilk_ir.specs.declared.system.Rule.{Rule}
use Rattle.ilk_forms.specs.Leaf.{has_lits_within_vars, ranges_of_copy_lits}
use Rattle.ilk_forms.proofs.Reading.{has_lits_within_vars-more}
use Rattle.ilk_step.specs.Rules.{rule_unless_skipped_part}
use Rattle.ilk_step.proofs.RulesLaw.{rule-fits, skip-in}
use Rattle.ilk_step.proofs.RulesSteps.{rules_step}
use Rattle.ilk_step.proofs.rules.add_rules.Goals as goal

pub loop-rule-preserved : goal.loop-rule-preserved
loop-rule-preserved c =
    let all = c.args.rules.now in
    let i = c.loop-rule.rule-index in
    let k = c.loop-rule.k in
    let f = c.loop-rule.cnf in
    let g = c.add_rule.new.cnf in
    let n = f.vars in
    let now = c.args.now.now in
    let next = c.args.next.now in
    let ranges = ranges_of_copy_lits now in
    let r : PlainRule = plain_rule c.rule-item.result in
    let before = c.loop-rule.invariant in
    let split : drop i all ≡ c.rule-item.result ∷ drop (i + 1) all = drop_at all i c.rule-item.result c.loop-rule-test.true c.rule-item.is in
    let rest = drop (i + 1) all in
    let valid = and_parts (rule_valid ranges r) (list_all (rule_valid ranges) (map plain_rule rest)) (sym (ap (λ (rs : List Rule). list_all (rule_valid ranges) (map plain_rule rs)) split) ∙ before.valid) in
    let made : g ≡ with_part f (rule_unless_skipped_part now next (positive_lit k) r n) = c.in_ok-add_rule.ensures ∙ ap (λ (l : Literal). with_part f (rule_unless_skipped_part now next l r n)) c.new.ensures in
    let p = rule_unless_skipped_part now next (positive_lit k) r n in
    let long : length (drop i all) ≡ length rest + 1 = ap length split ∙ omega arith in
    let low = before.low in
    let room = before.fits in
    let small : k ≤ n = omega arith in
    let fits = rule-fits r now next (positive_lit k) n before.now before.next c.requires.same (skip-in k n low small) valid.0 in
    let grows = fits.low in
    let vars : g.vars ≡ p.vars = ap (λ (u : Formula). u.vars) made in
    record {
      now = ap (λ (u : ℕ). has_lits_within_vars u now) vars ∙ has_lits_within_vars-more n p.vars now grows before.now;
      next = ap (λ (u : ℕ). has_lits_within_vars u next) vars ∙ has_lits_within_vars-more n p.vars next grows before.next;
      low = omega arith;
      fits = omega (arith, vars, grows, long, room);
      valid = valid.1;
      made = rules_step f g now next k r (map plain_rule (drop i all)) (map plain_rule rest) (ap (λ (rs : List Rule). map plain_rule rs) split) made ∙ before.made;
    }
