use Rattle.std.proofs.Common.{◌+◌, ◌++◌, true, false, ap, drop}
use Rattle.ilk_base.proofs.Lists.{drop_at}
use Rattle.ilk_cnf.specs.Part.{with_part}
use Rattle.ilk_ir.specs.Form.{tree_of, trees_of}
use Rattle.ilk_forms.specs.Gates.{gates_part}
use Rattle.ilk_forms.specs.Gathered.{form_to_and_or_lits, forms_to_and_or_lits}
use Rattle.ilk_forms.proofs.GatheredFits.{form-fits, forms-fits}
use Rattle.ilk_forms.proofs.GatheredSteps.{lits-in, join-gates, join-made, marked-made, on_ok, form-step}
use Rattle.ilk_forms.proofs.literals.+form_to_and_or_lits.Goals as goal

pub join-take_in-requires : goal.join-take_in-requires
join-take_in-requires t c =
    let ts = trees_of c.args.forms.now in
    let cnf = c.args.cnf.now in
    let known = c.args.gates.now in
    let g = forms_to_and_or_lits c.args.table.now c.args.inner c.args.positive ts known cnf.vars in
    lits-in cnf c.forms_to_and_or_lits.new.cnf g c.in_ok-lits.lits
    (forms-fits ts c.args.table.now c.args.inner c.args.positive known cnf.vars c.requires.within c.requires.gates c.requires.valid)
    c.in_ok-lits.ensures.made c.in_ok-lits.ensures.lits

pub join-returns-clause-gates : goal.join-returns-clause-gates
join-returns-clause-gates t c =
    let cnf = c.args.cnf.now in
    let known = c.args.gates.now in
    let g = forms_to_and_or_lits c.args.table.now c.args.inner c.args.positive (trees_of c.args.forms.now) known cnf.vars in
    join-gates known c.forms_to_and_or_lits.new.gates cnf c.forms_to_and_or_lits.new.cnf c.args.all c.args.inner g c.in_ok-lits.lits c.take_in.new.gates
    c.in_ok-lits.ensures.gates c.in_ok-lits.ensures.made c.in_ok-lits.ensures.lits c.in_ok-taken.ensures.gates

pub join-returns-clause-made : goal.join-returns-clause-made
join-returns-clause-made t c =
    let cnf = c.args.cnf.now in
    let known = c.args.gates.now in
    let g = forms_to_and_or_lits c.args.table.now c.args.inner c.args.positive (trees_of c.args.forms.now) known cnf.vars in
    join-made known c.forms_to_and_or_lits.new.gates cnf c.forms_to_and_or_lits.new.cnf c.take_in.new.cnf c.args.all c.args.inner g c.in_ok-lits.lits
    c.in_ok-lits.ensures.gates c.in_ok-lits.ensures.made c.in_ok-lits.ensures.lits c.in_ok-taken.ensures.made

pub marked_to_lits-combined_lit-requires : goal.marked_to_lits-combined_lit-requires
marked_to_lits-combined_lit-requires t c =
    let form = tree_of c.args.form.now in
    let cnf = c.args.cnf.now in
    let known = c.args.gates.now in
    let g = form_to_and_or_lits c.args.table.now true false form known cnf.vars in
    rw c.as_slice.ensures
    (lits-in cnf c.form_to_and_or_lits.new.cnf g c.in_ok-lits.lits
    (form-fits form c.args.table.now true false known cnf.vars c.requires.within c.requires.gates c.requires.valid)
    c.in_ok-lits.ensures.made c.in_ok-lits.ensures.lits)

pub marked_to_lits-returns-clause-made : goal.marked_to_lits-returns-clause-made
marked_to_lits-returns-clause-made t c =
    let cnf = c.args.cnf.now in
    let known = c.args.gates.now in
    let g = form_to_and_or_lits c.args.table.now true false (tree_of c.args.form.now) known cnf.vars in
    on_ok c.one.result
    (marked-made known c.form_to_and_or_lits.new.gates cnf c.form_to_and_or_lits.new.cnf c.combined_lit.new.cnf true g c.as_slice.result.now c.in_ok-lits.lits
    c.in_ok-lits.ensures.gates c.in_ok-lits.ensures.made c.as_slice.ensures c.in_ok-lits.ensures.lits c.in_ok-lit.ensures.made)

pub forms_to_and_or_lits-loop-form-preserved : goal.forms_to_and_or_lits-loop-form-preserved
forms_to_and_or_lits-loop-form-preserved t c =
    let forms = c.args.forms.now in
    let cnf = c.args.cnf.now in
    let known = c.args.gates.now in
    let i = c.loop-form.form-index in
    let whole = forms_to_and_or_lits c.args.table.now c.args.all c.args.positive (trees_of forms) known cnf.vars in
    let form = c.form-item.result in
    let split = ap trees_of (drop_at forms i form c.loop-form-test.true c.form-item.is) in
    form-step c.args.table.now c.args.all c.args.positive c.loop-form.cnf c.form_to_and_or_lits.new.cnf
    c.loop-form.gates c.form_to_and_or_lits.new.gates c.loop-form.lits c.as_slice.result.now c.in_ok-more.more
    c.push_all.new.lits whole.lits (known ++ whole.gates) (with_part cnf (gates_part whole.gates cnf.vars)) (tree_of form)
    (trees_of (drop (i + 1) forms)) (trees_of (drop i forms)) split c.as_slice.ensures c.in_ok-more.ensures.lits
    c.in_ok-more.ensures.gates c.in_ok-more.ensures.made c.in_ok-push_all.ensures c.loop-form.invariant
