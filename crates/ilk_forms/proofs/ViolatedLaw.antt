-- A demand that a form fails extends exactly the assignments in which it fails, in one way each.
use Rattle.std.proofs.Common.{◌≡◌, ℕ, ◌+◌, ◌≤◌, Bool, true, not, List, [], ◌∷◌, ◌++◌, length, map, refl, sym, ap, ◌∙◌, subst, arith}
use Rattle.std.specs.List.{list_all}
use Rattle.std.proofs.lemmas.List.Folds.{list_all-append, list_all-map}
use Rattle.std.proofs.lemmas.Bool.{and_from}
use Rattle.ilk_base.proofs.Lengths.{longer}
use Rattle.ilk_cnf.specs.Literal.{negated_lit}
use Rattle.ilk_cnf.specs.Formula.{is_clause_over}
use Rattle.ilk_cnf.specs.Truth.{is_true, is_clause_true}
use Rattle.ilk_cnf.specs.Extends.{ExtensionsAreExactly, PassesAndEqualsGivenValues}
use Rattle.ilk_cnf.proofs.Gates.{opposites-in, is_clause_true-opposites}
use Rattle.ilk_ir.specs.Tree.{Tree, tree_holds, tree_valid}
use Rattle.ilk_forms.specs.declared.copy.VarValueAndBoundLits.{VarValueAndBoundLits}
use Rattle.ilk_forms.specs.Leaf.{has_lits_within_vars, ranges_of_copy_lits}
use Rattle.ilk_forms.specs.Size.{tree_size}
use Rattle.ilk_forms.specs.Gates.{gates_part, gate_values}
use Rattle.ilk_forms.specs.Violated.{one_lit_per_instance, form_fails_part, form_fails_bits}
use Rattle.ilk_forms.proofs.Reading.{Reads, reads-more}
use Rattle.ilk_forms.proofs.GatesLaw.{gates_part-in}
use Rattle.ilk_forms.proofs.GatheredFits.{form-fits, form-few}
use Rattle.ilk_forms.proofs.GatheredLaw.{form-means}
use Rattle.ilk_forms.proofs.DemandLaw.{PartFits, gates_then_clause-law, all-hold, here}

pub form_fails-fits : (t : Tree) (columns : List VarValueAndBoundLits) (n : ℕ) → has_lits_within_vars n columns ≡ true → tree_valid (ranges_of_copy_lits columns) t ≡ true → PartFits n (form_fails_part columns t n)
form_fails-fits t columns n h k =
    let g = one_lit_per_instance columns t n in
    let m = n + length g.gates in
    let fits = form-fits t columns true true [] n h refl k in
    record {
      low = omega arith;
      inside = list_all-append (is_clause_over m) (gates_part g.gates n).clauses (map negated_lit g.lits ∷ []) ∙ and_from _ _ (gates_part-in g.gates n fits.gates) (and_from _ _ (opposites-in m g.lits fits.lits) refl);
    }

pub form_fails-law : (t : Tree) (columns : List VarValueAndBoundLits) (ranges ws : List ℕ) (a : List Bool) (n : ℕ) →
    length a ≡ n → Reads a columns ranges ws → tree_valid (ranges_of_copy_lits columns) t ≡ true →
    ExtensionsAreExactly a (form_fails_part columns t n).vars (form_fails_part columns t n).clauses
    (PassesAndEqualsGivenValues (not (tree_holds ws t)) (form_fails_bits columns t a))
form_fails-law t columns ranges ws a n size r k =
    let p = form_fails_part columns t n in
    let g = one_lit_per_instance columns t n in
    let b = a ++ gate_values a g.gates in
    let fits = form-fits t columns true true [] n (here columns ranges ws a n size r) refl k in
    let hold = all-hold a [] g.gates n size refl tt fits.gates in
    let all : list_all (is_true b) g.lits ≡ tree_holds ws t = sym (list_all-map (λ (q : Bool). q) (is_true b) g.lits)
    ∙ form-means t b columns ranges ws true true [] n (reads-more a (gate_values a g.gates) columns ranges ws (longer a (gate_values a g.gates)) r) k tt hold.1 in
    let says : is_clause_true b (map negated_lit g.lits) ≡ not (tree_holds ws t) = is_clause_true-opposites b g.lits ∙ ap not all in
    subst (λ (m : ℕ). ExtensionsAreExactly a p.vars p.clauses (PassesAndEqualsGivenValues (not (tree_holds ws t)) (gate_values a (one_lit_per_instance columns t m).gates)))
    (sym size) (gates_then_clause-law a g.gates (map negated_lit g.lits) (not (tree_holds ws t)) n size fits.gates says)

pub form_fails-few : (t : Tree) (columns : List VarValueAndBoundLits) (n : ℕ) → (form_fails_part columns t n).vars ≤ n + tree_size t
form_fails-few t columns n = (let few = (form-few t columns true true [] n).vars in omega arith)
