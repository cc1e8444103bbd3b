use Rattle.std.proofs.Common.{◌∙◌, false}
use Rattle.ilk_ir.specs.Form.{trees_of}
use Rattle.ilk_forms.specs.Gathered.{forms_to_and_or_lits}
use Rattle.ilk_forms.proofs.GatheredFits.{forms-fits}
use Rattle.ilk_forms.proofs.GatheredSteps.{lits-in}
use Rattle.ilk_forms.proofs.DemandSteps.{first-in, some-made}
use Rattle.ilk_forms.proofs.clauses.demand_some.Goals as goal

pub add_clause_of_two_lists-requires-clause-first : goal.add_clause_of_two_lists-requires-clause-first
add_clause_of_two_lists-requires-clause-first c =
    let g = forms_to_and_or_lits c.args.table.now false c.args.positive (trees_of c.args.forms.now) c.args.gates.now c.args.cnf.now.vars in
    first-in c.args.cnf.now c.forms_to_and_or_lits.new.cnf g c.args.first.now c.requires.first c.in_ok-lits.ensures.made

pub add_clause_of_two_lists-requires-clause-others : goal.add_clause_of_two_lists-requires-clause-others
add_clause_of_two_lists-requires-clause-others c =
    let n = c.args.cnf.now.vars in
    let ts = trees_of c.args.forms.now in
    let g = forms_to_and_or_lits c.args.table.now false c.args.positive ts c.args.gates.now n in
    lits-in c.args.cnf.now c.forms_to_and_or_lits.new.cnf g c.as_slice.result.now (forms-fits ts c.args.table.now false c.args.positive c.args.gates.now n c.requires.within c.requires.gates c.requires.valid)
    c.in_ok-lits.ensures.made (c.as_slice.ensures ∙ c.in_ok-lits.ensures.lits)

pub returns-clause-made : goal.returns-clause-made
returns-clause-made c =
    let g = forms_to_and_or_lits c.args.table.now false c.args.positive (trees_of c.args.forms.now) c.args.gates.now c.args.cnf.now.vars in
    some-made c.args.cnf.now c.forms_to_and_or_lits.new.cnf c.add_clause_of_two_lists.new.cnf g c.args.first.now c.as_slice.result.now c.in_ok-lits.ensures.made (c.as_slice.ensures ∙ c.in_ok-lits.ensures.lits) c.in_ok-add_clause_of_two_lists.ensures
