use Rattle.std.proofs.Common.{◌+◌, ◌&&◌, ◌++◌, ◌∙◌, true, ap, drop, refl}
use Rattle.std.proofs.lemmas.Bool.{and_from}
use Rattle.ilk_cnf.specs.Formula.{is_lit_over}
use Rattle.ilk_cnf.specs.Literal.{Literal}
use Rattle.ilk_cnf.specs.Part.{with_part}
use Rattle.ilk_base.proofs.Lists.{drop_at}
use Rattle.ilk_ir.specs.Form.{tree_of, trees_of}
use Rattle.ilk_forms.specs.Demand.{demand_each}
use Rattle.ilk_forms.proofs.GatesLaw.{signed-in}
use Rattle.ilk_forms.proofs.DemandSteps.{demand_each-step}
use Rattle.ilk_forms.proofs.clauses.+demand_some_lit_or_form.Goals as goal

pub demand_each-loop-form-preserved : goal.demand_each-loop-form-preserved
demand_each-loop-form-preserved t c =
    let forms = c.args.forms.now in
    let i = c.loop-form.form-index in
    let form = c.form-item.result in
    let split = ap trees_of (drop_at forms i form c.loop-form-test.true c.form-item.is) in
    let whole = demand_each c.args.table.now c.args.first.now c.args.positive (trees_of forms) c.args.gates.now c.args.cnf.now.vars in
    demand_each-step c.args.table.now c.args.first.now c.args.positive c.loop-form.cnf c.demand_of.new.cnf
    (with_part c.args.cnf.now whole.part) c.loop-form.gates c.demand_of.new.gates (c.args.gates.now ++ whole.gates) (tree_of form)
    (trees_of (drop (i + 1) forms)) (trees_of (drop i forms)) split c.in_ok-demand_of.ensures.made c.in_ok-demand_of.ensures.gates
    c.loop-form.invariant

pub demand_of-add_clause_of_two_lists-requires-clause-others : goal.demand_of-add_clause_of_two_lists-requires-clause-others
demand_of-add_clause_of_two_lists-requires-clause-others t c =
    let n = c.args.cnf.now.vars in
    ap (λ (l : Literal). is_lit_over n l && true) c.with_sign-lit.ensures
    ∙ and_from _ _ (signed-in c.args.positive n c.value_lit.result (c.value_lit.ensures.within n c.requires.within)) refl
