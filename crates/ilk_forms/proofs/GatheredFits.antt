-- The gates of a form have the next variables, and its literals are over these and earlier ones.
-- There are few of both.
use Rattle.std.proofs.Common.{◌≡◌, ℕ, ◌+◌, ◌*◌, ◌≤◌, Bool, true, false, not, List, [], ◌∷◌, ◌++◌, length, map, cond, Option, Some, None, refl, sym, ap, ◌∙◌, arith, length-append}
use Rattle.std.proofs.lemmas.List.{append-nil, length-map}
use Rattle.std.proofs.lemmas.List.Folds.{list_all-append}
use Rattle.std.proofs.lemmas.Bool.{and_parts, and_from}
use Rattle.ilk_cnf.specs.Literal.{Literal, negated_lit}
use Rattle.ilk_cnf.specs.Formula.{is_lit_over, is_clause_over}
use Rattle.ilk_cnf.specs.Part.{FormulaPart, and_gate_clauses}
use Rattle.ilk_cnf.proofs.Literals.{is_clause_over-more}
use Rattle.ilk_ir.specs.Tree.{Tree, yes, no, is, all_of, any_of, negation, Trees, none, more, tree_valid, each_valid}
use Rattle.ilk_forms.specs.declared.copy.VarValueAndBoundLits.{VarValueAndBoundLits}
use Rattle.ilk_forms.specs.declared.gates.AndGate.{AndGate}
use Rattle.ilk_forms.specs.Leaf.{value_lit, has_lits_within_vars, ranges_of_copy_lits}
use Rattle.ilk_forms.specs.Bound.{bound_lit_stated_by_or}
use Rattle.ilk_forms.specs.Size.{tree_size, trees_size}
use Rattle.ilk_forms.specs.Gates.{bools_are_equal, gates_part, gates_within, LitWithGates, lits_negated_unless_all, new_gate, lit_or_new_gate, lit_of_known_gate, combined_lit}
use Rattle.ilk_forms.specs.Gathered.{LitsWithGates, no_lits, one_lit, optional_lit_or, append_lits, signed_lit_as_lits_with_gates, combine_lits_into_one, keep_lits_if_same_gate, is_negation_of_and_or_or, form_to_and_or_lits, forms_to_and_or_lits}
use Rattle.ilk_forms.proofs.BoundLaw.{any-in}
use Rattle.ilk_forms.proofs.Reading.{has_lits_within_vars-more, value_lit-in}
use Rattle.ilk_forms.proofs.GatesLaw.{gates_fit, signed-in, gates_fit-append, gates_within-append, gates_within-more, gates_fit-within, gates_part-append, combined_lit-fits, combined_lit-in}

-- Holds if the gates are new after the first `n` variables, and the literals are over all of these.
pub record Fits (n : ℕ) (g : LitsWithGates) : Type 0 where
  pub gates : gates_fit n g.gates ≡ true
  pub lits : is_clause_over (n + length g.gates) g.lits ≡ true

-- The same with one literal.
pub record OneFits (n : ℕ) (g : LitWithGates) : Type 0 where
  pub gates : gates_fit n g.gates ≡ true
  pub lit : is_lit_over (n + length g.gates) g.lit ≡ true

pub known-more : (known gates : List AndGate) (n : ℕ) → gates_within n known ≡ true → gates_fit n gates ≡ true → gates_within (n + length gates) (known ++ gates) ≡ true
known-more known gates n inside fit =
    gates_within-append known gates (n + length gates) ∙ and_from _ _ (gates_within-more n (n + length gates) known (omega arith) inside) (gates_fit-within gates n fit)

no_lits-fits : (n : ℕ) → Fits n no_lits
no_lits-fits n = record { gates = refl; lits = refl }

append-fits : (n : ℕ) (g : LitsWithGates) (h : List AndGate → ℕ → LitsWithGates) → Fits n g → Fits (n + length g.gates) (h g.gates (length g.gates)) → Fits n (append_lits g h)
append-fits n g h one two =
    let m = length g.gates in
    let later = h g.gates m in
    let k : n + m + length later.gates ≡ n + length (g.gates ++ later.gates) = omega (arith, length-append g.gates later.gates) in
    let first : is_clause_over (n + length (g.gates ++ later.gates)) g.lits ≡ true = is_clause_over-more (n + m) (n + length (g.gates ++ later.gates)) g.lits (omega (arith, length-append g.gates later.gates)) one.lits in
    let next : is_clause_over (n + length (g.gates ++ later.gates)) later.lits ≡ true = ap (λ (v : ℕ). is_clause_over v later.lits) (sym k) ∙ two.lits in
    record {
      gates = gates_fit-append g.gates later.gates n ∙ and_from _ _ one.gates two.gates;
      lits = list_all-append (is_lit_over (n + length (g.gates ++ later.gates))) g.lits later.lits ∙ and_from _ _ first next;
    }

combine-fits : (known : List AndGate) (n : ℕ) (all : Bool) (g : LitsWithGates) → gates_within n known ≡ true → Fits n g → OneFits n (combine_lits_into_one known n all g)
combine-fits known n all g inside fits =
    let m = n + length g.gates in
    let c = combined_lit (known ++ g.gates) all g.lits m in
    let grown = known-more known g.gates n inside fits.gates in
    let k : m + length c.gates ≡ n + length (g.gates ++ c.gates) = omega (arith, length-append g.gates c.gates) in
    record {
      gates = gates_fit-append g.gates c.gates n ∙ and_from _ _ fits.gates (combined_lit-fits (known ++ g.gates) all g.lits m grown fits.lits);
      lit = ap (λ (v : ℕ). is_lit_over v c.lit) (sym k) ∙ combined_lit-in (known ++ g.gates) all g.lits m grown fits.lits;
    }

signed_lit_as_lits_with_gates-fits : (positive : Bool) (n : ℕ) (g : LitWithGates) → OneFits n g → Fits n (signed_lit_as_lits_with_gates positive g)
signed_lit_as_lits_with_gates-fits positive n g h = record { gates = h.gates; lits = and_from _ _ (signed-in positive (n + length g.gates) g.lit h.lit) refl }

merge-fits : (known : List AndGate) (n : ℕ) (outer inner : Bool) (g : LitsWithGates) → gates_within n known ≡ true → Fits n g → Fits n (keep_lits_if_same_gate known n outer inner g)
merge-fits known n outer inner g inside fits = by_case (bools_are_equal outer inner)
  where
    by_case : (b : Bool) → Fits n (cond {A = LitsWithGates} b g (signed_lit_as_lits_with_gates true (combine_lits_into_one known n inner g)))
    by_case true = fits
    by_case false = signed_lit_as_lits_with_gates-fits true n (combine_lits_into_one known n inner g) (combine-fits known n inner g inside fits)

one_lit-fits : (positive : Bool) (l : Literal) (n : ℕ) → is_lit_over n l ≡ true → Fits n (one_lit positive l)
one_lit-fits positive l n h = signed_lit_as_lits_with_gates-fits positive n (record { gates = []; lit = l }) (record { gates = refl; lit = ap (λ (v : ℕ). is_lit_over v l) (omega arith) ∙ h })

optional_lit-fits : (positive : Bool) (o : Option Literal) (n : ℕ) (g : LitsWithGates) → ((l : Literal) → o ≡ Some l → is_lit_over n l ≡ true) → Fits n g → Fits n (optional_lit_or positive o g)
optional_lit-fits positive None n g inside h = h
optional_lit-fits positive (Some l) n g inside h = one_lit-fits positive l n (inside l refl)

negation-fits :
    (known : List AndGate) (n : ℕ) (mark positive : Bool) (g h : LitsWithGates) → gates_within n known ≡ true → Fits n g → Fits n h →
    Fits n (cond {A = LitsWithGates} mark (signed_lit_as_lits_with_gates positive (combine_lits_into_one known n true g)) h)
negation-fits known n true positive g h inside marked other = signed_lit_as_lits_with_gates-fits positive n (combine_lits_into_one known n true g) (combine-fits known n true g inside marked)
negation-fits known n false positive g h inside marked other = other

mutual
  pub form-fits :
      (t : Tree) (columns : List VarValueAndBoundLits) (all positive : Bool) (known : List AndGate) (n : ℕ) →
      has_lits_within_vars n columns ≡ true → gates_within n known ≡ true → tree_valid (ranges_of_copy_lits columns) t ≡ true →
      Fits n (form_to_and_or_lits columns all positive t known n)
  form-fits yes columns all positive known n within inside valid = merge-fits known n all positive no_lits inside (no_lits-fits n)
  form-fits no columns all positive known n within inside valid = merge-fits known n all (not positive) no_lits inside (no_lits-fits n)
  form-fits (is v c) columns all positive known n within inside valid = one_lit-fits positive (value_lit columns v c) n (value_lit-in columns v c n within valid)
  form-fits (all_of ts) columns all positive known n within inside valid =
      merge-fits known n all positive (forms_to_and_or_lits columns positive positive ts known n) inside (forms-fits ts columns positive positive known n within inside valid)
  form-fits (any_of ts) columns all positive known n within inside valid =
      let g = forms_to_and_or_lits columns (not positive) positive ts known n in
      optional_lit-fits positive (bound_lit_stated_by_or columns ts) n (keep_lits_if_same_gate known n all (not positive) g) (λ l e. any-in ts columns n l within e)
      (merge-fits known n all (not positive) g inside (forms-fits ts columns (not positive) positive known n within inside valid))
  form-fits (negation t) columns all positive known n within inside valid =
      negation-fits known n (is_negation_of_and_or_or t) positive (form_to_and_or_lits columns true false t known n) (form_to_and_or_lits columns all (not positive) t known n) inside
      (form-fits t columns true false known n within inside valid) (form-fits t columns all (not positive) known n within inside valid)

  pub forms-fits :
      (ts : Trees) (columns : List VarValueAndBoundLits) (all positive : Bool) (known : List AndGate) (n : ℕ) →
      has_lits_within_vars n columns ≡ true → gates_within n known ≡ true → each_valid (ranges_of_copy_lits columns) ts ≡ true →
      Fits n (forms_to_and_or_lits columns all positive ts known n)
  forms-fits none columns all positive known n within inside valid = no_lits-fits n
  forms-fits (more t ts) columns all positive known n within inside valid =
      let parts = and_parts _ _ valid in
      let g = form_to_and_or_lits columns all positive t known n in
      let first = form-fits t columns all positive known n within inside parts.0 in
      let m = n + length g.gates in
      append-fits n g (λ gates k. forms_to_and_or_lits columns all positive ts (known ++ gates) (n + k)) first
      (forms-fits ts columns all positive (known ++ g.gates) m (has_lits_within_vars-more n m columns (omega arith) within) (known-more known g.gates n inside first.gates) parts.1)

-- Holds if at most `k` gates are new, and their clauses and the literals are at most 2 `k`.
pub record Few (k : ℕ) (g : LitsWithGates) : Type 0 where
  pub vars : length g.gates ≤ k
  pub clauses : length (gates_part g.gates 0).clauses + length g.lits ≤ 2 * k

clauses-append : (gs hs : List AndGate) → length (gates_part (gs ++ hs) 0).clauses ≡ length (gates_part gs 0).clauses + length (gates_part hs 0).clauses
clauses-append gs hs =
    ap (λ (p : FormulaPart). length p.clauses) (gates_part-append gs hs 0) ∙ length-append (gates_part gs 0).clauses (gates_part hs 0).clauses

gate-few : (g : AndGate) → length (gates_part (g ∷ []) 0).clauses ≡ length g.lits + 1
gate-few g =
    ap length (append-nil (and_gate_clauses g.lit g.lits))
    ∙ length-append (map (λ l. negated_lit g.lit ∷ l ∷ []) g.lits) ((g.lit ∷ map negated_lit g.lits) ∷ [])
    ∙ ap (λ (k : ℕ). k + 1) (length-map g.lits (λ l. negated_lit g.lit ∷ l ∷ []))

lits_negated_unless_all-length : (all : Bool) (ls : List Literal) → length (lits_negated_unless_all all ls) ≡ length ls
lits_negated_unless_all-length true ls = refl
lits_negated_unless_all-length false ls = length-map ls negated_lit

lit_or_new_gate-few : (all : Bool) (ls : List Literal) (n : ℕ) (o : Option Literal) → (length (lit_or_new_gate all ls n o).gates ≤ 1) × (length (gates_part (lit_or_new_gate all ls n o).gates 0).clauses ≤ length ls + 1)
lit_or_new_gate-few all ls n (Some l) = (omega arith, omega arith)
lit_or_new_gate-few all ls n None = (omega arith, omega (arith, gate-few (new_gate all ls n), lits_negated_unless_all-length all ls))

combined_lit-few :
    (known : List AndGate) (all : Bool) (ls : List Literal) (n : ℕ) →
    (length (combined_lit known all ls n).gates ≤ 1) × (length (gates_part (combined_lit known all ls n).gates 0).clauses ≤ length ls + 1)
combined_lit-few known all [] n = lit_or_new_gate-few all [] n (lit_of_known_gate known (lits_negated_unless_all all []))
combined_lit-few known all (l ∷ []) n = (omega arith, omega arith)
combined_lit-few known all (l ∷ m ∷ ls) n = lit_or_new_gate-few all (l ∷ m ∷ ls) n (lit_of_known_gate known (lits_negated_unless_all all (l ∷ m ∷ ls)))

combine-few : (known : List AndGate) (n : ℕ) (all positive : Bool) (k : ℕ) (g : LitsWithGates) → Few k g → Few (k + 1) (signed_lit_as_lits_with_gates positive (combine_lits_into_one known n all g))
combine-few known n all positive k g h =
    let c = combined_lit (known ++ g.gates) all g.lits (n + length g.gates) in
    let last = combined_lit-few (known ++ g.gates) all g.lits (n + length g.gates) in
    let vars = h.vars in
    let clauses = h.clauses in
    let one = last.0 in
    let two = last.1 in
    record { vars = omega (arith, length-append g.gates c.gates); clauses = omega (arith, clauses-append g.gates c.gates) }

more-few : (k : ℕ) (g : LitsWithGates) → Few k g → Few (k + 1) g
more-few k g h = let vars = h.vars in let clauses = h.clauses in record { vars = omega arith; clauses = omega arith }

merge-few : (known : List AndGate) (n : ℕ) (outer inner : Bool) (k : ℕ) (g : LitsWithGates) → Few k g → Few (k + 1) (keep_lits_if_same_gate known n outer inner g)
merge-few known n outer inner k g h = by_case (bools_are_equal outer inner)
  where
    by_case : (b : Bool) → Few (k + 1) (cond {A = LitsWithGates} b g (signed_lit_as_lits_with_gates true (combine_lits_into_one known n inner g)))
    by_case true = more-few k g h
    by_case false = combine-few known n inner true k g h

no_lits-few : Few 0 no_lits
no_lits-few = record { vars = omega arith; clauses = omega arith }

append-few : (j k : ℕ) (g : LitsWithGates) (h : List AndGate → ℕ → LitsWithGates) → Few j g → Few k (h g.gates (length g.gates)) → Few (j + k) (append_lits g h)
append-few j k g h one two =
    let later = h g.gates (length g.gates) in
    let v = one.vars in
    let c = one.clauses in
    let w = two.vars in
    let d = two.clauses in
    record { vars = omega (arith, length-append g.gates later.gates); clauses = omega (arith, clauses-append g.gates later.gates, length-append g.lits later.lits) }

optional_lit-few : (positive : Bool) (o : Option Literal) (k : ℕ) (g : LitsWithGates) → Few (k + 1) g → Few (k + 1) (optional_lit_or positive o g)
optional_lit-few positive None k g h = h
optional_lit-few positive (Some l) k g h = record { vars = omega arith; clauses = omega arith }

negation-few :
    (known : List AndGate) (n : ℕ) (mark positive : Bool) (k : ℕ) (g h : LitsWithGates) → Few k g → Few k h →
    Few (k + 1) (cond {A = LitsWithGates} mark (signed_lit_as_lits_with_gates positive (combine_lits_into_one known n true g)) h)
negation-few known n true positive k g h marked other = combine-few known n true positive k g marked
negation-few known n false positive k g h marked other = more-few k h other

mutual
  pub form-few : (t : Tree) (columns : List VarValueAndBoundLits) (all positive : Bool) (known : List AndGate) (n : ℕ) → Few (tree_size t) (form_to_and_or_lits columns all positive t known n)
  form-few yes columns all positive known n = merge-few known n all positive 0 no_lits no_lits-few
  form-few no columns all positive known n = merge-few known n all (not positive) 0 no_lits no_lits-few
  form-few (is v c) columns all positive known n = record { vars = omega arith; clauses = omega arith }
  form-few (all_of ts) columns all positive known n =
      merge-few known n all positive (trees_size ts) (forms_to_and_or_lits columns positive positive ts known n) (forms-few ts columns positive positive known n)
  form-few (any_of ts) columns all positive known n =
      let g = forms_to_and_or_lits columns (not positive) positive ts known n in
      optional_lit-few positive (bound_lit_stated_by_or columns ts) (trees_size ts) (keep_lits_if_same_gate known n all (not positive) g)
      (merge-few known n all (not positive) (trees_size ts) g (forms-few ts columns (not positive) positive known n))
  form-few (negation t) columns all positive known n =
      negation-few known n (is_negation_of_and_or_or t) positive (tree_size t) (form_to_and_or_lits columns true false t known n) (form_to_and_or_lits columns all (not positive) t known n)
      (form-few t columns true false known n) (form-few t columns all (not positive) known n)

  pub forms-few : (ts : Trees) (columns : List VarValueAndBoundLits) (all positive : Bool) (known : List AndGate) (n : ℕ) → Few (trees_size ts) (forms_to_and_or_lits columns all positive ts known n)
  forms-few none columns all positive known n = no_lits-few
  forms-few (more t ts) columns all positive known n =
      let g = form_to_and_or_lits columns all positive t known n in
      append-few (tree_size t) (trees_size ts) g (λ gates k. forms_to_and_or_lits columns all positive ts (known ++ gates) (n + k)) (form-few t columns all positive known n)
      (forms-few ts columns all positive (known ++ g.gates) (n + length g.gates))
