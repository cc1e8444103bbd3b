use Rattle.std.proofs.Common.{◌≡◌, ◌||◌, ◌*◌, ap}
use Rattle.ilk_cnf.specs.Truth.{is_clause_true}
use Rattle.ilk_cnf.specs.Extends.{PassesAndEqualsGivenValues}
use Rattle.ilk_cnf.specs.Part.{with_part}
use Rattle.ilk_cnf.proofs.Extending.{extends-clauses_from_lists}
use Rattle.ilk_ir.specs.Form.{tree_of}
use Rattle.ilk_ir.specs.Tree.{tree_holds}
use Rattle.ilk_forms.specs.Gates.{gates_within}
use Rattle.ilk_forms.specs.Demand.{some_lit_or_form_part, some_lit_or_form_bits}
use Rattle.ilk_forms.specs.Size.{tree_size}
use Rattle.ilk_forms.proofs.Few.{some_lit_or_form-few, with_part-few}
use Rattle.ilk_forms.proofs.Reading.{reads}
use Rattle.ilk_forms.proofs.DemandLaw.{some_lit_or_form-fits, some_lit_or_form-law}
use Rattle.ilk_forms.proofs.DemandSteps.{first-made}
use Rattle.ilk_forms.proofs.clauses.demand_some_lit_or_form.Goals as goal

pub demand_of-requires-clause-gates : goal.demand_of-requires-clause-gates
demand_of-requires-clause-gates c = ap (gates_within c.args.cnf.now.vars) c.new-gates.ensures

made : (c : goal.After-drop-gates-inside-2) → c.demand_of.new.cnf ≡ with_part c.args.cnf.now (some_lit_or_form_part c.args.table.now c.args.first.now (tree_of c.args.form.now) c.args.cnf.now.vars)
made c =
    (first-made c.args.table.now c.args.first.now (tree_of c.args.form.now) c.args.cnf.now c.demand_of.new.cnf c.new-gates.result c.demand_of.new.gates c.new-gates.ensures c.in_ok-demand_of.ensures.made c.in_ok-demand_of.ensures.gates).0

pub returns-clause-made : goal.returns-clause-made
returns-clause-made c = made c

pub returns-clause-law : goal.returns-clause-law
returns-clause-law c =
    λ a ranges ws size says fit.
    let n = c.args.cnf.now.vars in
    let columns = c.args.table.now in
    let first = c.args.first.now in
    let t = tree_of c.args.form.now in
    let part = some_lit_or_form_part columns first t n in
    extends-clauses_from_lists a part.vars part.clauses
    (PassesAndEqualsGivenValues (is_clause_true a first || tree_holds ws t) (some_lit_or_form_bits columns first t a))
    (some_lit_or_form-law t columns ranges ws first a n size
    (reads a columns ranges ws n size c.requires.within says fit) c.requires.first c.requires.valid)

pub returns-clause-vars : goal.returns-clause-vars
returns-clause-vars c =
    let part = made c in
    rw part (some_lit_or_form-few (tree_of c.args.form.now) c.args.table.now c.args.first.now c.args.cnf.now.vars).vars

pub returns-clause-clauses : goal.returns-clause-clauses
returns-clause-clauses c =
    let n = c.args.cnf.now.vars in
    let t = tree_of c.args.form.now in
    let part = made c in
    rw part (with_part-few c.args.cnf.now (some_lit_or_form_part c.args.table.now c.args.first.now t n) (2 * tree_size t) (some_lit_or_form-few t c.args.table.now c.args.first.now n).clauses)

pub returns-clause-more : goal.returns-clause-more
returns-clause-more c =
    let part = made c in
    rw part (some_lit_or_form-fits (tree_of c.args.form.now) c.args.table.now c.args.first.now c.args.cnf.now.vars c.requires.within c.requires.first c.requires.valid).low
