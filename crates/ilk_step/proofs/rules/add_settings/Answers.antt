use Rattle.std.proofs.Common.{◌≡◌, [], ◌∷◌, ◌+◌, ◌∙◌, true, drop, get_or, sym, ap}
use Rattle.std.proofs.lemmas.Bool.{and_parts}
use Rattle.std.proofs.lemmas.List.{drop_more}
use Rattle.ilk_cnf.specs.Formula.{Formula}
use Rattle.ilk_cnf.specs.Part.{with_part}
use Rattle.ilk_ir.specs.Tree.{Tree, is, value_valid}
use Rattle.ilk_ir.specs.Form.{tree_of}
use Rattle.ilk_forms.specs.Demand.{some_lit_or_form_part}
use Rattle.ilk_ir.specs.declared.system.Setting.{Setting}
use Rattle.ilk_forms.specs.Leaf.{ranges_of_copy_lits}
use Rattle.ilk_step.proofs.RulesLaw.{settings_valid}
use Rattle.ilk_step.proofs.RulesSteps.{settings_step}
use Rattle.ilk_step.proofs.rules.add_settings.Goals as goal

pub loop-s-preserved : goal.loop-s-preserved
loop-s-preserved c =
    let all = c.args.sets.now in
    let i = c.loop-s.s-index in
    let none : Setting = record { var = 0; value = 0 } in
    let s : Setting = get_or all i none in
    let ranges = ranges_of_copy_lits c.args.next.now in
    let split : drop i all ≡ s ∷ drop (i + 1) all = drop_more all i none c.loop-s-test.true in
    let form : tree_of c.set_form.result ≡ is s.var s.value = c.set_form.ensures in
    let p = λ (t : Tree). with_part c.loop-s.cnf (some_lit_or_form_part c.args.next.now (c.args.skip ∷ []) t c.loop-s.cnf.vars) in
    let made : c.demand_some_lit_or_form.new.cnf ≡ with_part c.loop-s.cnf (some_lit_or_form_part c.args.next.now (c.args.skip ∷ []) (is s.var s.value) c.loop-s.cnf.vars) = c.in_ok-demand_some_lit_or_form.ensures.made ∙ ap p form in
    let valid : settings_valid ranges (s ∷ drop (i + 1) all) ≡ true = sym (ap (settings_valid ranges) split) ∙ c.loop-s.invariant.valid in
    record {
      vars = ap (λ (f : Formula). f.vars) made ∙ c.loop-s.invariant.vars;
      valid = (and_parts (value_valid ranges s.var s.value) (settings_valid ranges (drop (i + 1) all)) valid).1;
      made = settings_step c.loop-s.cnf c.demand_some_lit_or_form.new.cnf c.args.next.now c.args.skip s (drop i all) (drop (i + 1) all) split made ∙ c.loop-s.invariant.made;
    }
