-- A demand extends exactly the assignments in which a first literal is true or the form holds.
use Rattle.std.proofs.Common.{◌≡◌, ℕ, ◌+◌, ◌≤◌, Bool, true, false, not, ◌&&◌, ◌||◌, List, [], ◌∷◌, ◌++◌, length, Option, Some, None, refl, sym, ap, ◌∙◌, subst, arith, length-append}
use Rattle.std.proofs.lemmas.List.{append-nil}
use Rattle.std.proofs.lemmas.List.Folds.{list_all-append, list_any-append}
use Rattle.std.proofs.lemmas.Bool.{and_parts, and_from}
use Rattle.std.proofs.Math.Bool.{and-true, or-false}
use Rattle.ilk_base.proofs.Truth.{or-true}
use Rattle.ilk_base.proofs.Tested.{list_any-map}
use Rattle.ilk_base.proofs.Lengths.{longer}
use Rattle.ilk_cnf.specs.Literal.{Literal}
use Rattle.ilk_cnf.specs.Formula.{is_lit_over, is_clause_over, are_clauses_over}
use Rattle.ilk_cnf.specs.Truth.{is_true, is_clause_true}
use Rattle.ilk_cnf.specs.Extends.{ExtensionsAreExactly, PassesAndEqualsGivenValues}
use Rattle.ilk_cnf.specs.Part.{FormulaPart}
use Rattle.ilk_cnf.proofs.Literals.{is_clause_over-more, are_clauses_over-more}
use Rattle.ilk_cnf.proofs.Parts.{is_clause_true-left}
use Rattle.ilk_cnf.proofs.Extending.{no_more_if, if_from_only, if_then_if}
use Rattle.ilk_ir.specs.Tree.{Tree, yes, no, is, all_of, any_of, negation, Trees, none, more, tree_holds, each_holds, some_holds, tree_valid, each_valid, is_value_of_var}
use Rattle.ilk_forms.specs.declared.copy.VarValueAndBoundLits.{VarValueAndBoundLits}
use Rattle.ilk_forms.specs.declared.gates.AndGate.{AndGate}
use Rattle.ilk_forms.specs.Leaf.{value_lit, has_lits_within_vars, ranges_of_copy_lits}
use Rattle.ilk_forms.specs.Bound.{bound_lit_stated_by_or, has_bound_lit_for_or}
use Rattle.ilk_forms.specs.Gates.{bools_are_equal, with_sign, gates_part, gate_values, GatesHold, gates_within}
use Rattle.ilk_forms.specs.Gathered.{LitsWithGates, forms_to_and_or_lits}
use Rattle.ilk_forms.specs.Demand.{PartWithGates, no_demand, literal_clause_demand, some_lit_demand_with_gates, literal_clause_demand_or, then_demand, demand_of, demand_each, some_lit_or_form_part, some_lit_or_form_bits}
use Rattle.ilk_forms.proofs.BoundForms.{Stands}
use Rattle.ilk_forms.proofs.BoundLaw.{any-in, any-says}
use Rattle.ilk_forms.proofs.Reading.{Reads, reads-more, has_lits_within_vars-more, value_lit-in}
use Rattle.ilk_forms.proofs.GatesLaw.{gates_fit, signed-says, signed-in, gates_fit-append, gates_part-in, gate_values-append, gate_values-length, gates-law, gates-hold, GatesHold-left, GatesHold-append}
use Rattle.ilk_forms.proofs.TruthsMean.{forms_are, all-are, some-are, turned}
use Rattle.ilk_forms.proofs.GatheredFits.{Fits, known-more, forms-fits}
use Rattle.ilk_forms.proofs.GatheredLaw.{forms-means}

pub record PartFits (n : ℕ) (p : FormulaPart) : Type 0 where
  pub low : n ≤ p.vars
  pub inside : are_clauses_over p.vars p.clauses ≡ true

-- Holds if the clauses are over the variables, and the gates have the next ones.
pub record DemandFits (n : ℕ) (d : PartWithGates) : Type 0 where
  pub vars : d.part.vars ≡ n + length d.gates
  pub inside : are_clauses_over d.part.vars d.part.clauses ≡ true
  pub gates : gates_fit n d.gates ≡ true

pub joined-in : (first ls : List Literal) (n : ℕ) → is_clause_over n first ≡ true → is_clause_over n ls ≡ true → is_clause_over n (first ++ ls) ≡ true
joined-in first ls n h k = list_all-append (is_lit_over n) first ls ∙ and_from _ _ h k

no_demand-fits : (n : ℕ) → DemandFits n (no_demand n)
no_demand-fits n = record { vars = omega arith; inside = refl; gates = refl }

clause-fits : (ls : List Literal) (n : ℕ) → is_clause_over n ls ≡ true → DemandFits n (literal_clause_demand ls n)
clause-fits ls n h = record { vars = omega arith; inside = and_from _ _ h refl; gates = refl }

some-fits : (first : List Literal) (n : ℕ) (g : LitsWithGates) → is_clause_over n first ≡ true → Fits n g → DemandFits n (some_lit_demand_with_gates first g n)
some-fits first n g h fits =
    let m = n + length g.gates in
    let ls = first ++ g.lits in
    let low : n ≤ m = omega arith in
    record {
      vars = refl;
      inside = list_all-append (is_clause_over m) (gates_part g.gates n).clauses (ls ∷ []) ∙ and_from _ _ (gates_part-in g.gates n fits.gates) (and_from _ _ (joined-in first g.lits m (is_clause_over-more n m first low h) fits.lits) refl);
      gates = fits.gates;
    }

signed_clause-fits : (first : List Literal) (positive : Bool) (l : Literal) (n : ℕ) → is_clause_over n first ≡ true → is_lit_over n l ≡ true → DemandFits n (literal_clause_demand (first ++ with_sign positive l ∷ []) n)
signed_clause-fits first positive l n f h =
    clause-fits (first ++ with_sign positive l ∷ []) n (joined-in first (with_sign positive l ∷ []) n f (and_from _ _ (signed-in positive n l h) refl))

literal_clause_demand_or-fits : (first : List Literal) (positive : Bool) (o : Option Literal) (n : ℕ) (d : PartWithGates) → is_clause_over n first ≡ true → ((l : Literal) → o ≡ Some l → is_lit_over n l ≡ true) → DemandFits n d
    → DemandFits n (literal_clause_demand_or first positive o n d)
literal_clause_demand_or-fits first positive None n d f inside h = h
literal_clause_demand_or-fits first positive (Some l) n d f inside h = signed_clause-fits first positive l n f (inside l refl)

then_demand-fits : (n : ℕ) (d : PartWithGates) (e : List AndGate → ℕ → PartWithGates) → DemandFits n d → DemandFits d.part.vars (e d.gates d.part.vars) → DemandFits n (then_demand d e)
then_demand-fits n d e one two =
    let m = d.part.vars in
    let q = e d.gates m in
    let long = length-append d.gates q.gates in
    let first = one.vars in
    let next = two.vars in
    let low : m ≤ q.part.vars = omega arith in
    record {
      vars = omega arith;
      inside = list_all-append (is_clause_over q.part.vars) d.part.clauses q.part.clauses ∙ and_from _ _ (are_clauses_over-more m q.part.vars d.part.clauses low one.inside) two.inside;
      gates = gates_fit-append d.gates q.gates n ∙ and_from _ _ one.gates (ap (λ (k : ℕ). gates_fit k q.gates) (sym first) ∙ two.gates);
    }

pub after-known : (known : List AndGate) (n : ℕ) (d : PartWithGates) → gates_within n known ≡ true → DemandFits n d → gates_within d.part.vars (known ++ d.gates) ≡ true
after-known known n d inside fits = ap (λ (m : ℕ). gates_within m (known ++ d.gates)) fits.vars ∙ known-more known d.gates n inside fits.gates

pub demand-low : (n : ℕ) (d : PartWithGates) → DemandFits n d → n ≤ d.part.vars
demand-low n d fits = (let vars = fits.vars in omega arith)

mutual
  pub demand_of-fits :
      (t : Tree) (columns : List VarValueAndBoundLits) (first : List Literal) (positive : Bool) (known : List AndGate) (n : ℕ) →
      has_lits_within_vars n columns ≡ true → is_clause_over n first ≡ true → gates_within n known ≡ true →
      tree_valid (ranges_of_copy_lits columns) t ≡ true →
      DemandFits n (demand_of columns first positive t known n)
  demand_of-fits yes columns first true known n h f w k = no_demand-fits n
  demand_of-fits yes columns first false known n h f w k = clause-fits first n f
  demand_of-fits no columns first true known n h f w k = clause-fits first n f
  demand_of-fits no columns first false known n h f w k = no_demand-fits n
  demand_of-fits (is v c) columns first positive known n h f w k = signed_clause-fits first positive (value_lit columns v c) n f (value_lit-in columns v c n h k)
  demand_of-fits (all_of ts) columns first true known n h f w k = demand_each-fits ts columns first true known n h f w k
  demand_of-fits (all_of ts) columns first false known n h f w k = some-fits first n (forms_to_and_or_lits columns false false ts known n) f (forms-fits ts columns false false known n h w k)
  demand_of-fits (any_of ts) columns first true known n h f w k =
      let g = forms_to_and_or_lits columns false true ts known n in
      literal_clause_demand_or-fits first true (bound_lit_stated_by_or columns ts) n (some_lit_demand_with_gates first g n) f (λ l e. any-in ts columns n l h e) (some-fits first n g f (forms-fits ts columns false true known n h w k))
  demand_of-fits (any_of ts) columns first false known n h f w k =
      literal_clause_demand_or-fits first false (bound_lit_stated_by_or columns ts) n (demand_each columns first false ts known n) f (λ l e. any-in ts columns n l h e) (demand_each-fits ts columns first false known n h f w k)
  demand_of-fits (negation t) columns first positive known n h f w k = demand_of-fits t columns first (not positive) known n h f w k

  demand_each-fits :
      (ts : Trees) (columns : List VarValueAndBoundLits) (first : List Literal) (positive : Bool) (known : List AndGate) (n : ℕ) →
      has_lits_within_vars n columns ≡ true → is_clause_over n first ≡ true → gates_within n known ≡ true →
      each_valid (ranges_of_copy_lits columns) ts ≡ true →
      DemandFits n (demand_each columns first positive ts known n)
  demand_each-fits none columns first positive known n h f w k = no_demand-fits n
  demand_each-fits (more t ts) columns first positive known n h f w k =
      let parts = and_parts _ _ k in
      let d = demand_of columns first positive t known n in
      let m = d.part.vars in
      let one = demand_of-fits t columns first positive known n h f w parts.0 in
      let low = demand-low n d one in
      then_demand-fits n d (λ gates m. demand_each columns first positive ts (known ++ gates) m) one
      (demand_each-fits ts columns first positive (known ++ d.gates) m (has_lits_within_vars-more n m columns low h) (is_clause_over-more n m first low f) (after-known known n d w one) parts.1)

end : (b : Bool) → (b && true) ≡ (b || false)
end true = refl
end false = refl

no_clause-law : (a : List Bool) (first : List Literal) (n : ℕ) → length a ≡ n → ExtensionsAreExactly a n [] (PassesAndEqualsGivenValues (is_clause_true a first || true) [])
no_clause-law a first n size = no_more_if a n [] (is_clause_true a first || true) size (sym (or-true (is_clause_true a first)))

clause-law : (a : List Bool) (first : List Literal) (n : ℕ) → length a ≡ n → ExtensionsAreExactly a n (first ∷ []) (PassesAndEqualsGivenValues (is_clause_true a first || false) [])
clause-law a first n size = no_more_if a n (first ∷ []) (is_clause_true a first || false) size (end (is_clause_true a first))

value_lit-law : (a : List Bool) (first : List Literal) (l : Literal) (truth : Bool) (n : ℕ) → length a ≡ n → is_true a l ≡ truth → ExtensionsAreExactly a n ((first ++ l ∷ []) ∷ []) (PassesAndEqualsGivenValues (is_clause_true a first || truth) [])
value_lit-law a first l truth n size h =
    no_more_if a n ((first ++ l ∷ []) ∷ []) (is_clause_true a first || truth) size
    (and-true (is_clause_true a (first ++ l ∷ [])) ∙ list_any-append (is_true a) first (l ∷ [])
    ∙
    (let one : (is_true a l || false) ≡ truth = or-false (is_true a l) ∙ h in
    ap (λ (b : Bool). is_clause_true a first || b) one))

-- A clause after gates says what it says once their variables have their values.
pub gates_then_clause-law : (a : List Bool) (gs : List AndGate) (ls : List Literal) (truth : Bool) (n : ℕ) →
    length a ≡ n → gates_fit n gs ≡ true → is_clause_true (a ++ gate_values a gs) ls ≡ truth →
    ExtensionsAreExactly a (n + length gs) ((gates_part gs n).clauses ++ ls ∷ []) (PassesAndEqualsGivenValues truth (gate_values a gs))
gates_then_clause-law a gs ls truth n size fit says =
    let m = n + length gs in
    let e = gate_values a gs in
    let cs = (gates_part gs n).clauses in
    let long : length (a ++ e) ≡ m = omega (arith, length-append a e, gate_values-length gs a, size) in
    let low : length a ≤ m = omega (arith, size) in
    let same : m ≤ m = omega arith in
    let both : ExtensionsAreExactly a m (cs ++ ls ∷ []) (PassesAndEqualsGivenValues truth (e ++ [])) = if_then_if a e [] true truth m m cs (ls ∷ []) low same (gates_part-in gs n fit) (if_from_only a m cs e (gates-law gs a n size fit))
    (λ _. no_more_if (a ++ e) m (ls ∷ []) truth long (and-true (is_clause_true (a ++ e) ls) ∙ says)) in
    subst (λ (d : List Bool). ExtensionsAreExactly a m (cs ++ ls ∷ []) (PassesAndEqualsGivenValues truth d)) (append-nil e) both

pub here : (columns : List VarValueAndBoundLits) (ranges ws : List ℕ) (a : List Bool) (n : ℕ) → length a ≡ n → Reads a columns ranges ws → has_lits_within_vars n columns ≡ true
here columns ranges ws a n size r = ap (λ (m : ℕ). has_lits_within_vars m columns) (sym size) ∙ r.within

-- The known gates and new ones hold once the new variables have their values.
pub all-hold : (a : List Bool) (known gs : List AndGate) (n : ℕ) → length a ≡ n → gates_within n known ≡ true → GatesHold a known → gates_fit n gs ≡ true → GatesHold (a ++ gate_values a gs) known × GatesHold (a ++ gate_values a gs) gs
all-hold a known gs n size w holds fit = (GatesHold-left known a (gate_values a gs) (rw size w) holds, gates-hold gs a n size fit)

some-law : (a : List Bool) (first : List Literal) (ts : Trees) (columns : List VarValueAndBoundLits) (ranges ws : List ℕ) (positive truth : Bool) (known : List AndGate) (n : ℕ) →
    length a ≡ n → Reads a columns ranges ws → is_clause_over n first ≡ true → gates_within n known ≡ true → GatesHold a known →
    each_valid (ranges_of_copy_lits columns) ts ≡ true → forms_are ws false positive ts ≡ truth →
    ExtensionsAreExactly a (some_lit_demand_with_gates first (forms_to_and_or_lits columns false positive ts known n) n).part.vars
    (some_lit_demand_with_gates first (forms_to_and_or_lits columns false positive ts known n) n).part.clauses
    (PassesAndEqualsGivenValues (is_clause_true a first || truth) (gate_values a (forms_to_and_or_lits columns false positive ts known n).gates))
some-law a first ts columns ranges ws positive truth known n size r f w holds k means =
    let g = forms_to_and_or_lits columns false positive ts known n in
    let e = gate_values a g.gates in
    let fits : Fits n g = forms-fits ts columns false positive known n (here columns ranges ws a n size r) w k in
    let hold = all-hold a known g.gates n size w holds fits.gates in
    let old : is_clause_true (a ++ e) first ≡ is_clause_true a first = is_clause_true-left a e first (rw size f) in
    let new : is_clause_true (a ++ e) g.lits ≡ truth = sym (list_any-map (λ (q : Bool). q) (is_true (a ++ e)) g.lits)
    ∙ forms-means ts (a ++ e) columns ranges ws false positive known n (reads-more a e columns ranges ws (longer a e) r) k hold.0 hold.1 ∙ means in
    gates_then_clause-law a g.gates (first ++ g.lits) (is_clause_true a first || truth) n size fits.gates (list_any-append (is_true (a ++ e)) first g.lits ∙ rw (old, new) refl)

literal_clause_demand_or-law :
    (a : List Bool) (first : List Literal) (positive : Bool) (o : Option Literal) (has truth : Bool) (n : ℕ) (d : PartWithGates) →
    length a ≡ n → Stands a o has truth →
    ExtensionsAreExactly a d.part.vars d.part.clauses (PassesAndEqualsGivenValues (is_clause_true a first || bools_are_equal positive truth) (gate_values a d.gates)) →
    ExtensionsAreExactly a (literal_clause_demand_or first positive o n d).part.vars (literal_clause_demand_or first positive o n d).part.clauses
    (PassesAndEqualsGivenValues (is_clause_true a first || bools_are_equal positive truth) (gate_values a (literal_clause_demand_or first positive o n d).gates))
literal_clause_demand_or-law a first positive None has truth n d size h law = law
literal_clause_demand_or-law a first positive (Some l) has truth n d size h law = value_lit-law a first (with_sign positive l) (bools_are_equal positive truth) n size (signed-says a positive l ∙ ap (bools_are_equal positive) h.1)

share : (x p q : Bool) → ((x || p) && (x || q)) ≡ (x || (p && q))
share true p q = refl
share false p q = refl

mutual
  demand_of-law :
      (t : Tree) (columns : List VarValueAndBoundLits) (ranges ws : List ℕ) (first : List Literal) (positive : Bool)
      (known : List AndGate) (a : List Bool) (n : ℕ) → length a ≡ n →
      Reads a columns ranges ws → is_clause_over n first ≡ true → gates_within n known ≡ true → GatesHold a known →
      tree_valid (ranges_of_copy_lits columns) t ≡ true →
      ExtensionsAreExactly a (demand_of columns first positive t known n).part.vars (demand_of columns first positive t known n).part.clauses
      (PassesAndEqualsGivenValues (is_clause_true a first || bools_are_equal positive (tree_holds ws t))
      (gate_values a (demand_of columns first positive t known n).gates))
  demand_of-law yes columns ranges ws first true known a n size r f w holds k = no_clause-law a first n size
  demand_of-law yes columns ranges ws first false known a n size r f w holds k = clause-law a first n size
  demand_of-law no columns ranges ws first true known a n size r f w holds k = clause-law a first n size
  demand_of-law no columns ranges ws first false known a n size r f w holds k = no_clause-law a first n size
  demand_of-law (is v c) columns ranges ws first positive known a n size r f w holds k =
      value_lit-law a first (with_sign positive (value_lit columns v c)) (bools_are_equal positive (is_value_of_var ws v c)) n size (signed-says a positive (value_lit columns v c) ∙ ap (bools_are_equal positive) (r.says v c k))
  demand_of-law (all_of ts) columns ranges ws first true known a n size r f w holds k =
      let d = demand_each columns first true ts known n in
      subst (λ (q : Bool). ExtensionsAreExactly a d.part.vars d.part.clauses (PassesAndEqualsGivenValues (is_clause_true a first || q) (gate_values a d.gates)))
      (all-are ws true ts) (demand_each-law ts columns ranges ws first true known a n size r f w holds k)
  demand_of-law (all_of ts) columns ranges ws first false known a n size r f w holds k =
      some-law a first ts columns ranges ws false (not (each_holds ws ts)) known n size r f w holds k (all-are ws false ts)
  demand_of-law (any_of ts) columns ranges ws first true known a n size r f w holds k =
      literal_clause_demand_or-law a first true (bound_lit_stated_by_or columns ts) (has_bound_lit_for_or ranges ts) (some_holds ws ts) n
      (some_lit_demand_with_gates first (forms_to_and_or_lits columns false true ts known n) n) size (any-says ts a columns ranges ws r.bounded k)
      (some-law a first ts columns ranges ws true (some_holds ws ts) known n size r f w holds k (some-are ws true ts))
  demand_of-law (any_of ts) columns ranges ws first false known a n size r f w holds k =
      let d = demand_each columns first false ts known n in
      literal_clause_demand_or-law a first false (bound_lit_stated_by_or columns ts) (has_bound_lit_for_or ranges ts) (some_holds ws ts) n d
      size (any-says ts a columns ranges ws r.bounded k)
      (subst (λ (q : Bool). ExtensionsAreExactly a d.part.vars d.part.clauses (PassesAndEqualsGivenValues (is_clause_true a first || q) (gate_values a d.gates)))
      (some-are ws false ts) (demand_each-law ts columns ranges ws first false known a n size r f w holds k))
  demand_of-law (negation t) columns ranges ws first positive known a n size r f w holds k =
      let d = demand_of columns first (not positive) t known n in
      subst (λ (q : Bool). ExtensionsAreExactly a d.part.vars d.part.clauses (PassesAndEqualsGivenValues (is_clause_true a first || q) (gate_values a d.gates)))
      (turned positive (tree_holds ws t))
      (demand_of-law t columns ranges ws first (not positive) known a n size r f w holds k)

  demand_each-law :
      (ts : Trees) (columns : List VarValueAndBoundLits) (ranges ws : List ℕ) (first : List Literal) (positive : Bool)
      (known : List AndGate) (a : List Bool) (n : ℕ) → length a ≡ n →
      Reads a columns ranges ws → is_clause_over n first ≡ true → gates_within n known ≡ true → GatesHold a known →
      each_valid (ranges_of_copy_lits columns) ts ≡ true →
      ExtensionsAreExactly a (demand_each columns first positive ts known n).part.vars
      (demand_each columns first positive ts known n).part.clauses
      (PassesAndEqualsGivenValues (is_clause_true a first || forms_are ws true positive ts)
      (gate_values a (demand_each columns first positive ts known n).gates))
  demand_each-law none columns ranges ws first positive known a n size r f w holds k = no_clause-law a first n size
  demand_each-law (more t ts) columns ranges ws first positive known a n size r f w holds k =
      let parts = and_parts _ _ k in
      let d = demand_of columns first positive t known n in
      let m = d.part.vars in
      let q = demand_each columns first positive ts (known ++ d.gates) m in
      let e = gate_values a d.gates in
      let v = gate_values (a ++ e) q.gates in
      let x = is_clause_true a first in
      let truth = bools_are_equal positive (tree_holds ws t) in
      let others = forms_are ws true positive ts in
      let inside = here columns ranges ws a n size r in
      let one = demand_of-law t columns ranges ws first positive known a n size r f w holds parts.0 in
      let fits = demand_of-fits t columns first positive known n inside f w parts.0 in
      let grows = demand-low n d fits in
      let low : length a ≤ m = rw size grows in
      let next_first = is_clause_over-more n m first grows f in
      let next_known = after-known known n d w fits in
      let rest = demand_each-fits ts columns first positive (known ++ d.gates) m (has_lits_within_vars-more n m columns grows inside) next_first next_known parts.1 in
      let hold = all-hold a known d.gates n size w holds fits.gates in
      let old : is_clause_true (a ++ e) first ≡ x = is_clause_true-left a e first (rw size f) in
      let two : (x || truth) ≡ true → ExtensionsAreExactly (a ++ e) q.part.vars q.part.clauses (PassesAndEqualsGivenValues (x || others) v) =
      λ ok. subst (λ (b : Bool). ExtensionsAreExactly (a ++ e) q.part.vars q.part.clauses (PassesAndEqualsGivenValues (b || others) v)) old
      (demand_each-law ts columns ranges ws first positive (known ++ d.gates) (a ++ e) m (one.sized e (ok, refl))
      (reads-more a e columns ranges ws (longer a e) r) next_first next_known (GatesHold-append known d.gates (a ++ e) hold.0 hold.1) parts.1)
      in
      let both = if_then_if a e v (x || truth) (x || others) m q.part.vars d.part.clauses q.part.clauses low (demand-low m q rest) fits.inside one two in
      let said = subst (λ (b : Bool). ExtensionsAreExactly a q.part.vars (d.part.clauses ++ q.part.clauses) (PassesAndEqualsGivenValues b (e ++ v))) (share x truth others) both in
      subst (λ (u : List Bool). ExtensionsAreExactly a q.part.vars (d.part.clauses ++ q.part.clauses) (PassesAndEqualsGivenValues (x || (truth && others)) u)) (sym (gate_values-append d.gates q.gates a)) said

pub some_lit_or_form-fits : (t : Tree) (columns : List VarValueAndBoundLits) (first : List Literal) (n : ℕ) →
    has_lits_within_vars n columns ≡ true → is_clause_over n first ≡ true → tree_valid (ranges_of_copy_lits columns) t ≡ true →
    PartFits n (some_lit_or_form_part columns first t n)
some_lit_or_form-fits t columns first n h f k =
    let fits = demand_of-fits t columns first true [] n h f refl k in
    record { low = demand-low n (demand_of columns first true t [] n) fits; inside = fits.inside }

pub some_lit_or_form-law : (t : Tree) (columns : List VarValueAndBoundLits) (ranges ws : List ℕ) (first : List Literal) (a : List Bool) (n : ℕ) → length a ≡ n →
    Reads a columns ranges ws → is_clause_over n first ≡ true → tree_valid (ranges_of_copy_lits columns) t ≡ true →
    ExtensionsAreExactly a (some_lit_or_form_part columns first t n).vars (some_lit_or_form_part columns first t n).clauses
    (PassesAndEqualsGivenValues (is_clause_true a first || tree_holds ws t) (some_lit_or_form_bits columns first t a))
some_lit_or_form-law t columns ranges ws first a n size r f k =
    let p = some_lit_or_form_part columns first t n in
    subst (λ (m : ℕ). ExtensionsAreExactly a p.vars p.clauses (PassesAndEqualsGivenValues (is_clause_true a first || tree_holds ws t) (gate_values a (demand_of columns first true t [] m).gates)))
    (sym size) (demand_of-law t columns ranges ws first true [] a n size r f refl tt k)
