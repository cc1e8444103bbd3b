use Rattle.std.proofs.Common.{◌≡◌, true, [], ap, refl}
use Rattle.std.proofs.lemmas.Bool.{and_from}
use Rattle.ilk_cnf.specs.Extends.{PassesAndEqualsGivenValues}
use Rattle.ilk_cnf.specs.Part.{with_part}
use Rattle.ilk_cnf.proofs.Extending.{extends-clauses_from_lists}
use Rattle.ilk_ir.specs.Form.{tree_of, trees_of}
use Rattle.ilk_ir.specs.Tree.{Tree, all_of, more, tree_holds}
use Rattle.ilk_forms.specs.Gates.{gates_within}
use Rattle.ilk_forms.specs.Demand.{demand_of, demand_each, some_lit_or_form_part, some_lit_or_form_bits}
use Rattle.ilk_forms.proofs.Few.{some_lit_or_form-few}
use Rattle.ilk_forms.proofs.Reading.{reads}
use Rattle.ilk_forms.proofs.DemandLaw.{demand_of-fits, some_lit_or_form-fits, some_lit_or_form-law}
use Rattle.ilk_forms.proofs.DemandSteps.{Demanded, after-demand, first-made, then-made}
use Rattle.ilk_forms.proofs.clauses.demand_form_and_forms.Goals as goal

pub demand_of-requires-clause-gates : goal.demand_of-requires-clause-gates
demand_of-requires-clause-gates c = ap (gates_within c.args.cnf.now.vars) c.new-gates.ensures

after : (c : goal.After-demand_each-arg-2-1) → Demanded c.args.table.now [] c.demand_of.new.cnf c.demand_of.new.gates
after c =
    let n = c.args.cnf.now.vars in
    let columns = c.args.table.now in
    let t = tree_of c.args.form.now in
    let one = first-made columns [] t c.args.cnf.now c.demand_of.new.cnf c.new-gates.result c.demand_of.new.gates c.new-gates.ensures c.in_ok-demand_of.ensures.made c.in_ok-demand_of.ensures.gates in
    after-demand columns [] c.args.cnf.now c.demand_of.new.cnf [] c.demand_of.new.gates (demand_of columns [] true t [] n) c.requires.within refl refl (demand_of-fits t columns [] true [] n c.requires.within refl refl c.requires.form) one.0 one.1

pub demand_each-requires-clause-within : goal.demand_each-requires-clause-within
demand_each-requires-clause-within c = (after c).within

pub demand_each-requires-clause-gates : goal.demand_each-requires-clause-gates
demand_each-requires-clause-gates c = (after c).known_within

abbrev whole : goal.After-drop-gates-inside-2 → Tree
whole c = all_of (more (tree_of c.args.form.now) (trees_of c.args.forms.now))

made : (c : goal.After-drop-gates-inside-2) → c.demand_each.new.cnf ≡ with_part c.args.cnf.now (some_lit_or_form_part c.args.table.now [] (whole c) c.args.cnf.now.vars)
made c =
    let columns = c.args.table.now in
    let t = tree_of c.args.form.now in
    let one = first-made columns [] t c.args.cnf.now c.demand_of.new.cnf c.new-gates.result c.demand_of.new.gates c.new-gates.ensures c.in_ok-demand_of.ensures.made c.in_ok-demand_of.ensures.gates in
    then-made c.args.cnf.now c.demand_of.new.cnf c.demand_each.new.cnf [] c.demand_of.new.gates (demand_of columns [] true t [] c.args.cnf.now.vars)
    (λ gs m. demand_each columns [] true (trees_of c.args.forms.now) gs m) one.0 one.1 c.in_ok-demand_each.ensures.made

pub returns-clause-made : goal.returns-clause-made
returns-clause-made c = made c

pub returns-clause-law : goal.returns-clause-law
returns-clause-law c =
    λ a ranges ws size says fit.
    let n = c.args.cnf.now.vars in
    let columns = c.args.table.now in
    let t = whole c in
    let part = some_lit_or_form_part columns [] t n in
    extends-clauses_from_lists a part.vars part.clauses
    (PassesAndEqualsGivenValues (tree_holds ws t) (some_lit_or_form_bits columns [] t a))
    (some_lit_or_form-law t columns ranges ws [] a n size
    (reads a columns ranges ws n size c.requires.within says fit) refl (and_from _ _ c.requires.form c.requires.valid))

pub returns-clause-vars : goal.returns-clause-vars
returns-clause-vars c =
    let part = made c in
    rw part (some_lit_or_form-few (whole c) c.args.table.now [] c.args.cnf.now.vars).vars

pub returns-clause-more : goal.returns-clause-more
returns-clause-more c =
    let part = made c in
    rw part (some_lit_or_form-fits (whole c) c.args.table.now [] c.args.cnf.now.vars c.requires.within refl (and_from _ _ c.requires.form c.requires.valid)).low
