use Rattle.std.proofs.Common.{◌≡◌, ◌++◌, ◌∙◌, true, not, List, [], ap, refl}
use Rattle.std.proofs.lemmas.Bool.{and_from}
use Rattle.ilk_cnf.specs.Literal.{Literal}
use Rattle.ilk_cnf.specs.Formula.{Formula}
use Rattle.ilk_cnf.specs.Extends.{PassesAndEqualsGivenValues}
use Rattle.ilk_cnf.specs.Part.{with_part}
use Rattle.ilk_cnf.proofs.Extending.{extends-clauses_from_lists}
use Rattle.ilk_ir.specs.Form.{tree_of, trees_of}
use Rattle.ilk_ir.specs.Tree.{Tree, Trees, all_of, negation, more, tree_holds}
use Rattle.ilk_forms.specs.declared.copy.VarValueAndBoundLits.{VarValueAndBoundLits}
use Rattle.ilk_forms.specs.declared.gates.AndGate.{AndGate}
use Rattle.ilk_forms.specs.Gates.{gates_part, gates_within}
use Rattle.ilk_forms.specs.Gathered.{LitsWithGates, form_to_and_or_lits, forms_to_and_or_lits}
use Rattle.ilk_forms.specs.Violated.{one_lit_per_instance, form_fails_part, form_fails_bits}
use Rattle.ilk_forms.proofs.Reading.{reads}
use Rattle.ilk_forms.proofs.GatheredFits.{form-fits}
use Rattle.ilk_forms.proofs.GatheredSteps.{lits-in}
use Rattle.ilk_forms.proofs.ViolatedLaw.{form_fails-fits, form_fails-law, form_fails-few}
use Rattle.ilk_forms.proofs.ViolatedSteps.{GatheredWithoutKnown, without-known, gathered-within, gathered-known, gathered-append, violated-made}
use Rattle.ilk_forms.proofs.violated.demand_form_or_some_fail.Goals as goal

pub negation_to_and_or_lits-requires-clause-gates : goal.negation_to_and_or_lits-requires-clause-gates
negation_to_and_or_lits-requires-clause-gates c = ap (gates_within c.args.cnf.now.vars) c.new-gates.ensures

head : (c : goal.After-gates-2-1) → GatheredWithoutKnown c.args.cnf.now c.negation_to_and_or_lits.new.cnf c.in_ok-kept.kept c.negation_to_and_or_lits.new.gates
    (form_to_and_or_lits c.args.table.now true true (negation (tree_of c.args.form.now)) [] c.args.cnf.now.vars)
head c =
    let g : List AndGate → LitsWithGates = λ gs. form_to_and_or_lits c.args.table.now true true (negation (tree_of c.args.form.now)) gs c.args.cnf.now.vars in
    without-known c.args.cnf.now c.negation_to_and_or_lits.new.cnf c.in_ok-kept.kept c.new-gates.result c.negation_to_and_or_lits.new.gates g c.new-gates.ensures c.in_ok-kept.ensures.made c.in_ok-kept.ensures.lits c.in_ok-kept.ensures.gates

pub forms_to_and_or_lits-requires-clause-within : goal.forms_to_and_or_lits-requires-clause-within
forms_to_and_or_lits-requires-clause-within c =
    let g = form_to_and_or_lits c.args.table.now true true (negation (tree_of c.args.form.now)) [] c.args.cnf.now.vars in
    gathered-within c.args.table.now c.args.cnf.now c.negation_to_and_or_lits.new.cnf c.in_ok-kept.kept c.negation_to_and_or_lits.new.gates g (head c) c.requires.within

pub forms_to_and_or_lits-requires-clause-gates : goal.forms_to_and_or_lits-requires-clause-gates
forms_to_and_or_lits-requires-clause-gates c =
    let n = c.args.cnf.now.vars in
    let t = negation (tree_of c.args.form.now) in
    let g = form_to_and_or_lits c.args.table.now true true t [] n in
    gathered-known c.args.cnf.now c.negation_to_and_or_lits.new.cnf c.in_ok-kept.kept c.negation_to_and_or_lits.new.gates g (head c) (form-fits t c.args.table.now true true [] n c.requires.within refl c.requires.form)

abbrev whole : Tree → Trees → Tree
whole t ts = all_of (more (negation t) ts)

-- The literals and clauses of both calls are those of the whole.
both :
    (columns : List VarValueAndBoundLits) (t : Tree) (ts : Trees) (f h k : Formula) (empty gates : List AndGate) (ls ms : List Literal) → empty ≡ [] →
    h ≡ with_part f (gates_part (form_to_and_or_lits columns true true (negation t) empty f.vars).gates f.vars) → ls ≡ (form_to_and_or_lits columns true true (negation t) empty f.vars).lits →
    gates ≡ empty ++ (form_to_and_or_lits columns true true (negation t) empty f.vars).gates →
    k ≡ with_part h (gates_part (forms_to_and_or_lits columns true true ts gates h.vars).gates h.vars) → ms ≡ (forms_to_and_or_lits columns true true ts gates h.vars).lits →
    (k ≡ with_part f (gates_part (one_lit_per_instance columns (whole t ts) f.vars).gates f.vars)) × (ls ++ ms ≡ (one_lit_per_instance columns (whole t ts) f.vars).lits)
both columns t ts f h k empty gates ls ms is made lits pushed last others =
    let g : List AndGate → LitsWithGates = λ gs. form_to_and_or_lits columns true true (negation t) gs f.vars in
    gathered-append f h k gates ls ms (g []) (λ gs m. forms_to_and_or_lits columns true true ts gs m) (without-known f h ls empty gates g is made lits pushed) last others

pub demand_some_violated-requires : goal.demand_some_violated-requires
demand_some_violated-requires c =
    let n = c.args.cnf.now.vars in
    let columns = c.args.table.now in
    let t = tree_of c.args.form.now in
    let ts = trees_of c.args.forms.now in
    let lists = both columns t ts c.args.cnf.now c.negation_to_and_or_lits.new.cnf c.forms_to_and_or_lits.new.cnf c.new-gates.result c.negation_to_and_or_lits.new.gates c.in_ok-kept.kept c.in_ok-others.others c.new-gates.ensures
    c.in_ok-kept.ensures.made c.in_ok-kept.ensures.lits c.in_ok-kept.ensures.gates c.in_ok-others.ensures.made c.in_ok-others.ensures.lits in
    let seen = c.as_slice-2.ensures ∙ c.in_ok-push_all.ensures ∙ ap (λ (ls : List Literal). c.in_ok-kept.kept ++ ls) c.as_slice.ensures ∙ lists.1 in
    lits-in c.args.cnf.now c.forms_to_and_or_lits.new.cnf (one_lit_per_instance columns (whole t ts) n) c.as_slice-2.result.now
    (form-fits (whole t ts) columns true true [] n c.requires.within refl (and_from _ _ c.requires.form c.requires.valid)) lists.0 seen

made : (c : goal.After-drop-gates-inside-2) → c.demand_some_violated.new.cnf ≡ with_part c.args.cnf.now (form_fails_part c.args.table.now (whole (tree_of c.args.form.now) (trees_of c.args.forms.now)) c.args.cnf.now.vars)
made c =
    let columns = c.args.table.now in
    let t = tree_of c.args.form.now in
    let ts = trees_of c.args.forms.now in
    let lists = both columns t ts c.args.cnf.now c.negation_to_and_or_lits.new.cnf c.forms_to_and_or_lits.new.cnf c.new-gates.result c.negation_to_and_or_lits.new.gates c.in_ok-kept.kept c.in_ok-others.others c.new-gates.ensures
    c.in_ok-kept.ensures.made c.in_ok-kept.ensures.lits c.in_ok-kept.ensures.gates c.in_ok-others.ensures.made c.in_ok-others.ensures.lits in
    let seen = c.as_slice-2.ensures ∙ c.in_ok-push_all.ensures ∙ ap (λ (ls : List Literal). c.in_ok-kept.kept ++ ls) c.as_slice.ensures ∙ lists.1 in
    violated-made c.args.cnf.now c.forms_to_and_or_lits.new.cnf c.demand_some_violated.new.cnf (one_lit_per_instance columns (whole t ts) c.args.cnf.now.vars) c.as_slice-2.result.now lists.0 seen c.in_ok-demand_some_violated.ensures

pub returns-clause-made : goal.returns-clause-made
returns-clause-made c = made c

pub returns-clause-law : goal.returns-clause-law
returns-clause-law c =
    λ a ranges ws size says fit.
    let n = c.args.cnf.now.vars in
    let columns = c.args.table.now in
    let t = whole (tree_of c.args.form.now) (trees_of c.args.forms.now) in
    let part = form_fails_part columns t n in
    extends-clauses_from_lists a part.vars part.clauses (PassesAndEqualsGivenValues (not (tree_holds ws t)) (form_fails_bits columns t a))
    (form_fails-law t columns ranges ws a n size (reads a columns ranges ws n size c.requires.within says fit) (and_from _ _ c.requires.form c.requires.valid))

pub returns-clause-vars : goal.returns-clause-vars
returns-clause-vars c =
    let part = made c in
    rw part (form_fails-few (whole (tree_of c.args.form.now) (trees_of c.args.forms.now)) c.args.table.now c.args.cnf.now.vars)

pub returns-clause-more : goal.returns-clause-more
returns-clause-more c =
    let part = made c in
    rw part (form_fails-fits (whole (tree_of c.args.form.now) (trees_of c.args.forms.now)) c.args.table.now c.args.cnf.now.vars c.requires.within (and_from _ _ c.requires.form c.requires.valid)).low
