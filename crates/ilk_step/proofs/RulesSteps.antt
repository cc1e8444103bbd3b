-- The steps of the calls that add settings, rules and parts, and the whole step.
use Rattle.std.proofs.Common.{◌≡◌, ℕ, ◌+◌, ◌≤◌, true, List, [], ◌∷◌, length, map, sym, ap, ◌∙◌, arith}
use Rattle.std.specs.List.{list_all}
use Rattle.std.proofs.lemmas.List.{length-map}
use Rattle.ilk_cnf.specs.Literal.{Literal, positive_lit}
use Rattle.ilk_cnf.specs.Formula.{Formula}
use Rattle.ilk_cnf.specs.Part.{FormulaPart, with_part, and_then}
use Rattle.ilk_cnf.proofs.Gates.{with_part-and_then}
use Rattle.ilk_ir.specs.Tree.{is}
use Rattle.ilk_ir.specs.System.{PlainRule, plain_rule, rule_valid}
use Rattle.ilk_ir.specs.declared.system.Rule.{Rule}
use Rattle.ilk_ir.specs.declared.system.Setting.{Setting}
use Rattle.ilk_forms.specs.declared.copy.VarValueAndBoundLits.{VarValueAndBoundLits}
use Rattle.ilk_forms.specs.Demand.{some_lit_or_form_part}
use Rattle.ilk_forms.specs.Leaf.{has_lits_within_vars, ranges_of_copy_lits}
use Rattle.ilk_forms.proofs.Reading.{has_lits_within_vars-more}
use Rattle.ilk_step.specs.Choice.{choice_part}
use Rattle.ilk_step.specs.Rules.{settings_unless_skipped_part, rule_unless_skipped_part, rules_part}
use Rattle.ilk_step.specs.Frame.{frame_axioms_part}
use Rattle.ilk_step.specs.Step.{step_part}
use Rattle.ilk_step.proofs.ChoiceLaw.{choice-low}
use Rattle.ilk_step.proofs.RulesLaw.{rules-fits}

pub next_part : (f g h : Formula) (p : FormulaPart) (q : ℕ → FormulaPart) → g ≡ with_part f p → h ≡ with_part g (q g.vars) → h ≡ with_part f (and_then p q)
next_part f g h p q first next = next ∙ ap (λ (k : Formula). with_part k (q k.vars)) first ∙ with_part-and_then f p q

pub settings_step :
    (f g : Formula) (next : List VarValueAndBoundLits) (skip : Literal) (s : Setting) (all rest : List Setting) →
    all ≡ s ∷ rest → g ≡ with_part f (some_lit_or_form_part next (skip ∷ []) (is s.var s.value) f.vars) →
    with_part g (settings_unless_skipped_part next skip rest g.vars) ≡ with_part f (settings_unless_skipped_part next skip all f.vars)
settings_step f g next skip s all rest split made =
    ap (λ (k : Formula). with_part k (settings_unless_skipped_part next skip rest k.vars)) made
    ∙ with_part-and_then f (some_lit_or_form_part next (skip ∷ []) (is s.var s.value) f.vars) (settings_unless_skipped_part next skip rest)
    ∙ ap (λ (ss : List Setting). with_part f (settings_unless_skipped_part next skip ss f.vars)) (sym split)

pub rules_step : (f g : Formula) (now next : List VarValueAndBoundLits) (k : ℕ) (r : PlainRule) (all rest : List PlainRule) →
    all ≡ r ∷ rest → g ≡ with_part f (rule_unless_skipped_part now next (positive_lit k) r f.vars) →
    with_part g (rules_part now next (k + 1) rest g.vars) ≡ with_part f (rules_part now next k all f.vars)
rules_step f g now next k r all rest split made =
    ap (λ (u : Formula). with_part u (rules_part now next (k + 1) rest u.vars)) made
    ∙ with_part-and_then f (rule_unless_skipped_part now next (positive_lit k) r f.vars) (rules_part now next (k + 1) rest)
    ∙ ap (λ (rs : List PlainRule). with_part f (rules_part now next k rs f.vars)) (sym split)

pub step_made : (f g h e : Formula) (rs : List PlainRule) (now next : List VarValueAndBoundLits) →
    g ≡ with_part f (choice_part (length rs) f.vars) →
    h ≡ with_part g (rules_part now next (f.vars + 1) rs g.vars) →
    e ≡ with_part h (frame_axioms_part rs (f.vars + 1) now next h.vars) →
    e ≡ with_part f (step_part rs now next f.vars)
step_made f g h e rs now next choice asked carried =
    next_part f g e (choice_part (length rs) f.vars)
    (λ m. and_then (rules_part now next (f.vars + 1) rs m) (frame_axioms_part rs (f.vars + 1) now next)) choice
    (next_part g h e (rules_part now next (f.vars + 1) rs g.vars) (frame_axioms_part rs (f.vars + 1) now next)
    asked carried)

pub choice_made : (f g : Formula) (rules : List Rule) (m : ℕ) → m ≡ length rules → g ≡ with_part f (choice_part m f.vars) → g ≡ with_part f (choice_part (length (map plain_rule rules)) f.vars)
choice_made f g rules m count made = made ∙ ap (λ (k : ℕ). with_part f (choice_part k f.vars)) (count ∙ sym (length-map rules plain_rule))

pub rules_made : (f g h : Formula) (now next : List VarValueAndBoundLits) (rules us : List Rule) (first : ℕ) →
    first ≡ f.vars → us ≡ rules →
    h ≡ with_part g (rules_part now next (first + 1) (map plain_rule us) g.vars) →
    h ≡ with_part g (rules_part now next (f.vars + 1) (map plain_rule rules) g.vars)
rules_made f g h now next rules us first begins same made =
    made
    ∙ ap (λ (k : ℕ). with_part g (rules_part now next (k + 1) (map plain_rule us) g.vars)) begins
    ∙ ap (λ (vs : List Rule). with_part g (rules_part now next (f.vars + 1) (map plain_rule vs) g.vars)) same

pub frames_made : (f h e : Formula) (now next : List VarValueAndBoundLits) (rules us : List Rule) (first : ℕ) →
    first ≡ f.vars → us ≡ rules →
    e ≡ with_part h (frame_axioms_part (map plain_rule us) (first + 1) now next h.vars) →
    e ≡ with_part h (frame_axioms_part (map plain_rule rules) (f.vars + 1) now next h.vars)
frames_made f h e now next rules us first begins same made =
    made
    ∙ ap (λ (k : ℕ). with_part h (frame_axioms_part (map plain_rule us) (k + 1) now next h.vars)) begins
    ∙ ap (λ (vs : List Rule). with_part h (frame_axioms_part (map plain_rule vs) (f.vars + 1) now next h.vars)) same

pub choice_room : (f g : Formula) (rs : List PlainRule) → g ≡ with_part f (choice_part (length rs) f.vars) → f.vars + length rs ≤ g.vars
choice_room f g rs made = let vars = ap (λ (u : Formula). u.vars) made in let low = choice-low (length rs) f.vars in omega (arith, vars, low)

pub rules_room : (f g h : Formula) (rs : List PlainRule) (now next : List VarValueAndBoundLits) →
    g ≡ with_part f (choice_part (length rs) f.vars) →
    h ≡ with_part g (rules_part now next (f.vars + 1) rs g.vars) → has_lits_within_vars f.vars now ≡ true →
    has_lits_within_vars f.vars next ≡ true → ranges_of_copy_lits next ≡ ranges_of_copy_lits now →
    list_all (rule_valid (ranges_of_copy_lits now)) rs ≡ true → g.vars ≤ h.vars
rules_room f g h rs now next choice asked hn hx same valid =
    let room = choice_room f g rs choice in
    let more : f.vars ≤ g.vars = omega arith in
    let vars = ap (λ (u : Formula). u.vars) asked in
    let fits = rules-fits rs now next (f.vars + 1) g.vars (has_lits_within_vars-more f.vars g.vars now more hn) (has_lits_within_vars-more f.vars g.vars next more hx) same (omega arith) (omega arith) valid in
    let grows = fits.low in
    omega (arith, vars, grows)
