-- At values of a copy, where the gates hold, the literals of a form are all (or some of them) true
-- exactly if the form is as required.
use Rattle.std.proofs.Common.{◌≡◌, ℕ, ◌+◌, Bool, true, false, not, List, [], ◌∷◌, ◌++◌, length, map, cond, Option, Some, None, refl, ap, ◌∙◌}
use Rattle.std.proofs.lemmas.List.{map-append}
use Rattle.std.proofs.lemmas.Bool.{and_parts}
use Rattle.ilk_cnf.specs.Literal.{Literal}
use Rattle.ilk_cnf.specs.Truth.{is_true}
use Rattle.ilk_ir.specs.Tree.{Tree, yes, no, is, all_of, any_of, negation, Trees, none, more, tree_holds, each_holds, some_holds, tree_valid, each_valid, is_value_of_var}
use Rattle.ilk_forms.specs.declared.copy.VarValueAndBoundLits.{VarValueAndBoundLits}
use Rattle.ilk_forms.specs.declared.gates.AndGate.{AndGate}
use Rattle.ilk_forms.specs.Leaf.{value_lit, ranges_of_copy_lits}
use Rattle.ilk_forms.specs.Bound.{bound_lit_stated_by_or, has_bound_lit_for_or}
use Rattle.ilk_forms.specs.Gates.{bools_are_equal, with_sign, GatesHold, combined_lit}
use Rattle.ilk_forms.specs.Gathered.{LitsWithGates, no_lits, optional_lit_or, append_lits, signed_lit_as_lits_with_gates, combine_lits_into_one, keep_lits_if_same_gate, is_negation_of_and_or_or, form_to_and_or_lits, forms_to_and_or_lits}
use Rattle.ilk_forms.proofs.BoundForms.{Stands}
use Rattle.ilk_forms.proofs.BoundLaw.{any-says}
use Rattle.ilk_forms.proofs.Reading.{Reads}
use Rattle.ilk_forms.proofs.GatesLaw.{gate_truth, alone, signed-says, GatesHold-append, GatesHold-parts, combined_lit-means}
use Rattle.ilk_forms.proofs.TruthsMean.{both_or_one, forms_are, gate_truth-append, none_means, all-are, some-are, constant, other_constant, turned}

combine-means :
    (b : List Bool) (known : List AndGate) (n : ℕ) (all : Bool) (g : LitsWithGates) → GatesHold b known →
    GatesHold b (combine_lits_into_one known n all g).gates →
    is_true b (combine_lits_into_one known n all g).lit ≡ gate_truth all (map (is_true b) g.lits)
combine-means b known n all g holds new =
    let c = combined_lit (known ++ g.gates) all g.lits (n + length g.gates) in
    let parts = GatesHold-parts g.gates c.gates b new in
    combined_lit-means b (known ++ g.gates) all g.lits (n + length g.gates) (GatesHold-append known g.gates b holds parts.0) parts.1

combine-hold :
    (b : List Bool) (known : List AndGate) (n : ℕ) (all : Bool) (g : LitsWithGates) →
    GatesHold b (combine_lits_into_one known n all g).gates → GatesHold b g.gates
combine-hold b known n all g new = (GatesHold-parts g.gates (combined_lit (known ++ g.gates) all g.lits (n + length g.gates)).gates b new).0

merge-means :
    (b : List Bool) (known : List AndGate) (n : ℕ) (outer inner truth : Bool) (g : LitsWithGates) → GatesHold b known →
    GatesHold b (keep_lits_if_same_gate known n outer inner g).gates →
    (GatesHold b g.gates → gate_truth inner (map (is_true b) g.lits) ≡ truth) →
    gate_truth outer (map (is_true b) (keep_lits_if_same_gate known n outer inner g).lits) ≡ truth
merge-means b known n true true truth g holds new means = means new
merge-means b known n true false truth g holds new means =
    alone true (is_true b (combine_lits_into_one known n false g).lit) ∙ combine-means b known n false g holds new ∙ means (combine-hold b known n false g new)
merge-means b known n false true truth g holds new means =
    alone false (is_true b (combine_lits_into_one known n true g).lit) ∙ combine-means b known n true g holds new ∙ means (combine-hold b known n true g new)
merge-means b known n false false truth g holds new means = means new

append-means :
    (b : List Bool) (all : Bool) (g : LitsWithGates) (h : List AndGate → ℕ → LitsWithGates) →
    gate_truth all (map (is_true b) (append_lits g h).lits)
    ≡ both_or_one all (gate_truth all (map (is_true b) g.lits)) (gate_truth all (map (is_true b) (h g.gates (length g.gates)).lits))
append-means b all g h =
    let later = (h g.gates (length g.gates)).lits in
    ap (gate_truth all) (map-append (is_true b) g.lits later) ∙ gate_truth-append all (map (is_true b) g.lits) (map (is_true b) later)

one_lit-means : (b : List Bool) (all positive truth : Bool) (l : Literal) → is_true b l ≡ truth → gate_truth all (is_true b (with_sign positive l) ∷ []) ≡ bools_are_equal positive truth
one_lit-means b all positive truth l means = alone all (is_true b (with_sign positive l)) ∙ signed-says b positive l ∙ ap (bools_are_equal positive) means

optional_lit-means :
    (b : List Bool) (all positive has truth : Bool) (o : Option Literal) (g : LitsWithGates) → Stands b o has truth →
    GatesHold b (optional_lit_or positive o g).gates →
    (GatesHold b g.gates → gate_truth all (map (is_true b) g.lits) ≡ bools_are_equal positive truth) →
    gate_truth all (map (is_true b) (optional_lit_or positive o g).lits) ≡ bools_are_equal positive truth
optional_lit-means b all positive has truth None g stands new means = means new
optional_lit-means b all positive has truth (Some l) g stands new means = one_lit-means b all positive truth l stands.1

negation-means :
    (b : List Bool) (known : List AndGate) (n : ℕ) (mark all positive truth : Bool) (g h : LitsWithGates) → GatesHold b known →
    GatesHold b (cond {A = LitsWithGates} mark (signed_lit_as_lits_with_gates positive (combine_lits_into_one known n true g)) h).gates →
    (GatesHold b g.gates → gate_truth true (map (is_true b) g.lits) ≡ not truth) →
    (GatesHold b h.gates → gate_truth all (map (is_true b) h.lits) ≡ bools_are_equal (not positive) truth) →
    gate_truth all (map (is_true b) (cond {A = LitsWithGates} mark (signed_lit_as_lits_with_gates positive (combine_lits_into_one known n true g)) h).lits) ≡ bools_are_equal positive (not truth)
negation-means b known n true all positive truth g h holds new marked other =
    one_lit-means b all positive (not truth) (combine_lits_into_one known n true g).lit (combine-means b known n true g holds new ∙ marked (combine-hold b known n true g new))
negation-means b known n false all positive truth g h holds new marked other = other new ∙ turned positive truth

mutual
  pub form-means :
      (t : Tree) (b : List Bool) (columns : List VarValueAndBoundLits) (ranges ws : List ℕ) (all positive : Bool) (known : List AndGate) (n : ℕ) →
      Reads b columns ranges ws → tree_valid (ranges_of_copy_lits columns) t ≡ true → GatesHold b known →
      GatesHold b (form_to_and_or_lits columns all positive t known n).gates →
      gate_truth all (map (is_true b) (form_to_and_or_lits columns all positive t known n).lits) ≡ bools_are_equal positive (tree_holds ws t)
  form-means yes b columns ranges ws all positive known n r valid holds new = merge-means b known n all positive (bools_are_equal positive true) no_lits holds new (λ _. none_means positive ∙ constant positive)
  form-means no b columns ranges ws all positive known n r valid holds new = merge-means b known n all (not positive) (bools_are_equal positive false) no_lits holds new (λ _. none_means (not positive) ∙ other_constant positive)
  form-means (is v c) b columns ranges ws all positive known n r valid holds new = one_lit-means b all positive (is_value_of_var ws v c) (value_lit columns v c) (r.says v c valid)
  form-means (all_of ts) b columns ranges ws all positive known n r valid holds new =
      merge-means b known n all positive (bools_are_equal positive (each_holds ws ts)) (forms_to_and_or_lits columns positive positive ts known n) holds new
      (λ made. forms-means ts b columns ranges ws positive positive known n r valid holds made ∙ all-are ws positive ts)
  form-means (any_of ts) b columns ranges ws all positive known n r valid holds new =
      let g = forms_to_and_or_lits columns (not positive) positive ts known n in
      optional_lit-means b all positive (has_bound_lit_for_or ranges ts) (some_holds ws ts) (bound_lit_stated_by_or columns ts) (keep_lits_if_same_gate known n all (not positive) g)
      (any-says ts b columns ranges ws r.bounded valid) new
      (λ kept. merge-means b known n all (not positive) (bools_are_equal positive (some_holds ws ts)) g holds kept
      (λ made. forms-means ts b columns ranges ws (not positive) positive known n r valid holds made ∙ some-are ws positive ts))
  form-means (negation t) b columns ranges ws all positive known n r valid holds new =
      negation-means b known n (is_negation_of_and_or_or t) all positive (tree_holds ws t) (form_to_and_or_lits columns true false t known n) (form_to_and_or_lits columns all (not positive) t known n) holds new
      (λ made. form-means t b columns ranges ws true false known n r valid holds made)
      (λ made. form-means t b columns ranges ws all (not positive) known n r valid holds made)

  pub forms-means :
      (ts : Trees) (b : List Bool) (columns : List VarValueAndBoundLits) (ranges ws : List ℕ) (all positive : Bool) (known : List AndGate) (n : ℕ) →
      Reads b columns ranges ws → each_valid (ranges_of_copy_lits columns) ts ≡ true → GatesHold b known →
      GatesHold b (forms_to_and_or_lits columns all positive ts known n).gates →
      gate_truth all (map (is_true b) (forms_to_and_or_lits columns all positive ts known n).lits) ≡ forms_are ws all positive ts
  forms-means none b columns ranges ws all positive known n r valid holds new = none_means all
  forms-means (more t ts) b columns ranges ws all positive known n r valid holds new =
      let parts = and_parts _ _ valid in
      let g = form_to_and_or_lits columns all positive t known n in
      let h = forms_to_and_or_lits columns all positive ts (known ++ g.gates) (n + length g.gates) in
      let both = GatesHold-parts g.gates h.gates b new in
      let one = form-means t b columns ranges ws all positive known n r parts.0 holds both.0 in
      let rest = forms-means ts b columns ranges ws all positive (known ++ g.gates) (n + length g.gates) r parts.1 (GatesHold-append known g.gates b holds both.0) both.1 in
      append-means b all g (λ gates m. forms_to_and_or_lits columns all positive ts (known ++ gates) (n + m)) ∙ rw (one, rest) refl
