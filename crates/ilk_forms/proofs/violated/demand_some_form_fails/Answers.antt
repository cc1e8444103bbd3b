use Rattle.std.proofs.Common.{◌≡◌, ◌∙◌, true, not, List, [], ap, refl}
use Rattle.ilk_cnf.specs.Extends.{PassesAndEqualsGivenValues}
use Rattle.ilk_cnf.specs.Part.{with_part}
use Rattle.ilk_cnf.proofs.Extending.{extends-clauses_from_lists}
use Rattle.ilk_ir.specs.Form.{trees_of}
use Rattle.ilk_ir.specs.Tree.{all_of, tree_holds}
use Rattle.ilk_forms.specs.declared.gates.AndGate.{AndGate}
use Rattle.ilk_forms.specs.Gates.{gates_within}
use Rattle.ilk_forms.specs.Gathered.{LitsWithGates, forms_to_and_or_lits}
use Rattle.ilk_forms.specs.Violated.{form_fails_part, form_fails_bits}
use Rattle.ilk_forms.proofs.Reading.{reads}
use Rattle.ilk_forms.proofs.GatheredFits.{forms-fits}
use Rattle.ilk_forms.proofs.GatheredSteps.{lits-in}
use Rattle.ilk_forms.proofs.ViolatedLaw.{form_fails-fits, form_fails-law, form_fails-few}
use Rattle.ilk_forms.proofs.ViolatedSteps.{without-known, violated-made}
use Rattle.ilk_forms.proofs.violated.demand_some_form_fails.Goals as goal

pub forms_to_and_or_lits-requires-clause-gates : goal.forms_to_and_or_lits-requires-clause-gates
forms_to_and_or_lits-requires-clause-gates c = ap (gates_within c.args.cnf.now.vars) c.new-gates.ensures

pub demand_some_violated-requires : goal.demand_some_violated-requires
demand_some_violated-requires c =
    let n = c.args.cnf.now.vars in
    let columns = c.args.table.now in
    let ts = trees_of c.args.forms.now in
    let g : List AndGate → LitsWithGates = λ gs. forms_to_and_or_lits columns true true ts gs n in
    let one = without-known c.args.cnf.now c.forms_to_and_or_lits.new.cnf c.in_ok-kept.kept c.new-gates.result c.forms_to_and_or_lits.new.gates g c.new-gates.ensures c.in_ok-kept.ensures.made c.in_ok-kept.ensures.lits c.in_ok-kept.ensures.gates in
    lits-in c.args.cnf.now c.forms_to_and_or_lits.new.cnf (g []) c.as_slice.result.now (forms-fits ts columns true true [] n c.requires.within refl c.requires.valid) one.made (c.as_slice.ensures ∙ one.lits)

made : (c : goal.After-drop-gates-inside-2) → c.demand_some_violated.new.cnf ≡ with_part c.args.cnf.now (form_fails_part c.args.table.now (all_of (trees_of c.args.forms.now)) c.args.cnf.now.vars)
made c =
    let g : List AndGate → LitsWithGates = λ gs. forms_to_and_or_lits c.args.table.now true true (trees_of c.args.forms.now) gs c.args.cnf.now.vars in
    let one = without-known c.args.cnf.now c.forms_to_and_or_lits.new.cnf c.in_ok-kept.kept c.new-gates.result c.forms_to_and_or_lits.new.gates g c.new-gates.ensures c.in_ok-kept.ensures.made c.in_ok-kept.ensures.lits c.in_ok-kept.ensures.gates in
    violated-made c.args.cnf.now c.forms_to_and_or_lits.new.cnf c.demand_some_violated.new.cnf (g []) c.as_slice.result.now one.made (c.as_slice.ensures ∙ one.lits) c.in_ok-demand_some_violated.ensures

pub returns-clause-made : goal.returns-clause-made
returns-clause-made c = made c

pub returns-clause-law : goal.returns-clause-law
returns-clause-law c =
    λ a ranges ws size says fit.
    let n = c.args.cnf.now.vars in
    let columns = c.args.table.now in
    let t = all_of (trees_of c.args.forms.now) in
    let part = form_fails_part columns t n in
    extends-clauses_from_lists a part.vars part.clauses (PassesAndEqualsGivenValues (not (tree_holds ws t)) (form_fails_bits columns t a))
    (form_fails-law t columns ranges ws a n size (reads a columns ranges ws n size c.requires.within says fit) c.requires.valid)

pub returns-clause-vars : goal.returns-clause-vars
returns-clause-vars c =
    let part = made c in
    rw part (form_fails-few (all_of (trees_of c.args.forms.now)) c.args.table.now c.args.cnf.now.vars)

pub returns-clause-more : goal.returns-clause-more
returns-clause-more c =
    let part = made c in
    rw part (form_fails-fits (all_of (trees_of c.args.forms.now)) c.args.table.now c.args.cnf.now.vars c.requires.within c.requires.valid).low
