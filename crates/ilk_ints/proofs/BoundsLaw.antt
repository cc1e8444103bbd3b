-- The literals of an integer's bounds.
use Rattle.std.proofs.Common.{◌≡◌, ℕ, ◌+◌, ◌-◌, ◌^◌, ◌<◌, ◌≤◌, Bool, true, false, List, [], ◌∷◌, ◌++◌, length, map, cond, refl, inl, inr, sym, ap, ◌∙◌, subst, arith, eqb, leb, ltb, append_assoc}
use Rattle.std.proofs.lemmas.List.Folds.{list_all-append}
use Rattle.std.proofs.lemmas.Bool.{and_parts, and_from, cases_lt, le-leb, lt-leb, lt-ltb, le-ltb, leb-true}
use Rattle.ilk_cnf.specs.Literal.{Literal, positive_lit, negative_lit}
use Rattle.ilk_cnf.specs.Formula.{Formula, is_lit_over, is_clause_over, are_clauses_over}
use Rattle.ilk_cnf.specs.Truth.{is_true}
use Rattle.ilk_cnf.specs.Extends.{ExtensionsAreExactly, EqualsGivenValues}
use Rattle.ilk_cnf.specs.Part.{empty_part, with_part, or_gate_part}
use Rattle.ilk_cnf.proofs.Literals.{is_clause_over-more, are_clauses_over-more}
use Rattle.ilk_cnf.proofs.Parts.{is_true-left, one_by_one}
use Rattle.ilk_cnf.proofs.Gates.{new-in, any_of-in, with_part-and_then}
use Rattle.ilk_cnf.proofs.Extending.{no_more_if, only_from_if}
use Rattle.ilk_ints.specs.Bits.{bit_count, lowest_bits_of, assigned_bits_from_var}
use Rattle.ilk_ints.specs.AtMost.{highest_bit_decides, at_most_lit_part, at_most_lit, at_most_bits}
use Rattle.ilk_ints.specs.Named.{one_hot_bits, bound_lits_part_from, bound_bits, at_most_vars_bits}
use Rattle.ilk_ints.proofs.OneOfLaw.{map-left, first-two}
use Rattle.ilk_ints.proofs.ValuesLaw.{assigned_bits_from_var-left}
use Rattle.ilk_ints.proofs.AtMostLaw.{at_most-law, at_most-exact}

pub at_most-low : (range k n : ℕ) (below equal : Literal) → n ≤ (at_most_lit_part range k below equal n).vars
at_most-low range k n below equal = by_case (highest_bit_decides range k)
  where
    by_case : (h : Bool) → n ≤ (cond h (empty_part n) (or_gate_part (below ∷ equal ∷ []) n)).vars
    by_case true = omega arith
    by_case false = omega arith

pub at_most-in : (range k n : ℕ) (below equal : Literal) → is_clause_over n (below ∷ equal ∷ []) ≡ true → are_clauses_over (at_most_lit_part range k below equal n).vars (at_most_lit_part range k below equal n).clauses ≡ true
at_most-in range k n below equal h = by_case (highest_bit_decides range k)
  where
    by_case : (b : Bool) → are_clauses_over (cond b (empty_part n) (or_gate_part (below ∷ equal ∷ []) n)).vars (cond b (empty_part n) (or_gate_part (below ∷ equal ∷ []) n)).clauses ≡ true
    by_case true = refl
    by_case false = any_of-in n (below ∷ equal ∷ []) h

pub at_most-is_lit_over : (first range k n : ℕ) (below equal : Literal) → 0 < first → 0 < bit_count range → first + bit_count range ≤ n + 1 → is_lit_over (at_most_lit_part range k below equal n).vars (at_most_lit first range k n) ≡ true
at_most-is_lit_over first range k n below equal low some high = by_case (highest_bit_decides range k)
  where
    by_case : (b : Bool) → is_lit_over (cond b (empty_part n) (or_gate_part (below ∷ equal ∷ []) n)).vars (cond b (negative_lit (first + (bit_count range - 1))) (positive_lit (n + 1))) ≡ true
    by_case true = and_from _ _ (lt-ltb 0 (first + (bit_count range - 1)) (omega arith)) (le-leb (first + (bit_count range - 1)) n (omega arith))
    by_case false = new-in n true

below_next : (w k : ℕ) → leb w k ≡ ltb w (k + 1)
below_next w k =
    elim (cases_lt k w) [
      | inl past ↦ lt-leb w k past ∙ sym (le-ltb w (k + 1) (omega arith))
      | inr upto ↦ le-leb w k upto ∙ sym (lt-ltb w (k + 1) (omega arith))
    ]

pub bounds-low : (es : List Literal) (first range k n : ℕ) (below : Literal) → n ≤ (bound_lits_part_from first range below k es n).part.vars
bounds-low [] first range k n below = omega arith
bounds-low (e ∷ es) first range k n below =
    let one = at_most-low range k n below e in
    let rest = bounds-low es first range (k + 1) (at_most_lit_part range k below e n).vars (at_most_lit first range k n) in
    omega arith

pub next-inside : (first range k n : ℕ) (below e : Literal) (es : List Literal) → 0 < first →
    0 < bit_count range → first + bit_count range ≤ n + 1 → is_clause_over n (below ∷ e ∷ es) ≡ true →
    is_clause_over (at_most_lit_part range k below e n).vars (at_most_lit first range k n ∷ es) ≡ true
next-inside first range k n below e es low some high h =
    let rest = (and_parts _ _ (and_parts _ _ h).1).1 in
    and_from _ _ (at_most-is_lit_over first range k n below e low some high) (is_clause_over-more n (at_most_lit_part range k below e n).vars es (at_most-low range k n below e) rest)

pub bounds-in : (es : List Literal) (first range k n : ℕ) (below : Literal) → 0 < first →
    0 < bit_count range → first + bit_count range ≤ n + 1 → is_clause_over n (below ∷ es) ≡ true →
    are_clauses_over (bound_lits_part_from first range below k es n).part.vars
    (bound_lits_part_from first range below k es n).part.clauses ≡ true
bounds-in [] first range k n below low some high h = refl
bounds-in (e ∷ es) first range k n below low some high h =
    let p = at_most_lit_part range k below e n in
    let l = at_most_lit first range k n in
    let rest = bound_lits_part_from first range l (k + 1) es p.vars in
    let grows = at_most-low range k n below e in
    let end = bounds-low es first range (k + 1) p.vars l in
    list_all-append (is_clause_over rest.part.vars) p.clauses rest.part.clauses
    ∙ and_from _ _
    (are_clauses_over-more p.vars rest.part.vars p.clauses end
    (at_most-in range k n below e (first-two n below e es h)))
    (bounds-in es first range (k + 1) p.vars l low some (omega arith)
    (next-inside first range k n below e es low some high h))

pub bounds-law : (es : List Literal) (a : List Bool) (first range k w n : ℕ) (below : Literal) →
    length a ≡ n → 0 < first → 0 < bit_count range → first + bit_count range ≤ n + 1 →
    range ≤ 2 ^ bit_count range → w < range →
    assigned_bits_from_var a first (bit_count range) ≡ lowest_bits_of (bit_count range) w → is_clause_over n (below ∷ es) ≡ true →
    is_true a below ≡ ltb w k → map (is_true a) es ≡ one_hot_bits w k (length es) →
    ExtensionsAreExactly a (bound_lits_part_from first range below k es n).part.vars
    (bound_lits_part_from first range below k es n).part.clauses (EqualsGivenValues (at_most_vars_bits range w k (length es)))
bounds-law [] a first range k w n below size low some high enough less is inside under same = only_from_if a n [] [] (no_more_if a n [] true size refl)
bounds-law (e ∷ es) a first range k w n below size low some high enough less is inside under same =
    let p = at_most_lit_part range k below e n in
    let l = at_most_lit first range k n in
    let b = at_most_bits range k w in
    let rest = bound_lits_part_from first range l (k + 1) es p.vars in
    let here : is_true a e ≡ eqb w k = first_of (is_true a e) (eqb w k) (map (is_true a) es) (one_hot_bits w (k + 1) (length es)) same in
    let others : map (is_true a) es ≡ one_hot_bits w (k + 1) (length es) = rest_of (is_true a e) (eqb w k) (map (is_true a) es) (one_hot_bits w (k + 1) (length es)) same in
    let one : ExtensionsAreExactly a p.vars p.clauses (EqualsGivenValues b) = at_most-law a range k w n below e size (first-two n below e es inside) under here in
    let long : length (a ++ b) ≡ p.vars = one.sized b refl in
    let grows : n ≤ p.vars = at_most-low range k n below e in
    let kept : assigned_bits_from_var (a ++ b) first (bit_count range) ≡ lowest_bits_of (bit_count range) w = assigned_bits_from_var-left (bit_count range) a b first (rw size high) ∙ is in
    let next_under : is_true (a ++ b) l ≡ ltb w (k + 1) = at_most-exact a first range k w n size some enough less is ∙ below_next w k in
    let next_same : map (is_true (a ++ b)) es ≡ one_hot_bits w (k + 1) (length es) = map-left a b es (rw size (and_parts _ _ (and_parts _ _ inside).1).1) ∙ others in
    let next = bounds-law es (a ++ b) first range (k + 1) w p.vars l long low some (omega (arith, high, grows)) enough less kept (next-inside first range k n below e es low some high inside) next_under next_same in
    let fits : length a ≤ p.vars = rw size grows in
    one_by_one a b (at_most_vars_bits range w (k + 1) (length es)) p.vars rest.part.vars p.clauses rest.part.clauses fits (bounds-low es first range (k + 1) p.vars l) (at_most-in range k n below e (first-two n below e es inside)) one next
  where
    first_of : (p q : Bool) (ps qs : List Bool) → p ∷ ps ≡ q ∷ qs → p ≡ q
    first_of p q ps qs h = cc

    rest_of : (p q : Bool) (ps qs : List Bool) → p ∷ ps ≡ q ∷ qs → ps ≡ qs
    rest_of p q ps qs h = cc

-- The literals keep their meaning under any extension c.
pub bounds-say : (es : List Literal) (a c : List Bool) (first range k w n : ℕ) (below : Literal) →
    length a ≡ n → 0 < first → 0 < bit_count range → first + bit_count range ≤ n + 1 →
    range ≤ 2 ^ bit_count range → w < range →
    assigned_bits_from_var a first (bit_count range) ≡ lowest_bits_of (bit_count range) w → is_clause_over n (below ∷ es) ≡ true →
    is_true a below ≡ ltb w k → map (is_true a) es ≡ one_hot_bits w k (length es) →
    map (is_true (a ++ (at_most_vars_bits range w k (length es) ++ c))) (bound_lits_part_from first range below k es n).lits
    ≡ bound_bits w k (length es)
bounds-say [] a c first range k w n below size low some high enough less is inside under same = refl
bounds-say (e ∷ es) a c first range k w n below size low some high enough less is inside under same =
    let p = at_most_lit_part range k below e n in
    let l = at_most_lit first range k n in
    let b = at_most_bits range k w in
    let d = at_most_vars_bits range w (k + 1) (length es) in
    let here : is_true a e ≡ eqb w k = first_of (is_true a e) (eqb w k) (map (is_true a) es) (one_hot_bits w (k + 1) (length es)) same in
    let others : map (is_true a) es ≡ one_hot_bits w (k + 1) (length es) = rest_of (is_true a e) (eqb w k) (map (is_true a) es) (one_hot_bits w (k + 1) (length es)) same in
    let one : ExtensionsAreExactly a p.vars p.clauses (EqualsGivenValues b) = at_most-law a range k w n below e size (first-two n below e es inside) under here in
    let long : length (a ++ b) ≡ p.vars = one.sized b refl in
    let grows : n ≤ p.vars = at_most-low range k n below e in
    let kept : assigned_bits_from_var (a ++ b) first (bit_count range) ≡ lowest_bits_of (bit_count range) w = assigned_bits_from_var-left (bit_count range) a b first (rw size high) ∙ is in
    let says : is_true (a ++ b) l ≡ leb w k = at_most-exact a first range k w n size some enough less is in
    let next_same : map (is_true (a ++ b)) es ≡ one_hot_bits w (k + 1) (length es) = map-left a b es (rw size (and_parts _ _ (and_parts _ _ inside).1).1) ∙ others in
    let rest = bounds-say es (a ++ b) c first range (k + 1) w p.vars l long low some (omega (arith, high, grows)) enough less kept (next-inside first range k n below e es low some high inside) (says ∙ below_next w k) next_same in
    let whole : (a ++ b) ++ (d ++ c) ≡ a ++ ((b ++ d) ++ c) = append_assoc a b (d ++ c) ∙ ap (λ (u : List Bool). a ++ u) (sym (append_assoc b d c)) in
    let var_in : l.var ≤ length (a ++ b) = rw long (leb-true _ _ (and_parts _ _ (at_most-is_lit_over first range k n below e low some high)).1) in
    let head : is_true (a ++ ((b ++ d) ++ c)) l ≡ leb w k = subst (λ (u : List Bool). is_true u l ≡ leb w k) whole (is_true-left (a ++ b) (d ++ c) l var_in ∙ says) in
    let tail : map (is_true (a ++ ((b ++ d) ++ c))) (bound_lits_part_from first range l (k + 1) es p.vars).lits
    ≡ bound_bits w (k + 1) (length es) =
    subst
    (λ (u : List Bool). map (is_true u) (bound_lits_part_from first range l (k + 1) es p.vars).lits
    ≡ bound_bits w (k + 1) (length es)) whole rest in
    join head tail
  where
    first_of : (p q : Bool) (ps qs : List Bool) → p ∷ ps ≡ q ∷ qs → p ≡ q
    first_of p q ps qs h = cc

    rest_of : (p q : Bool) (ps qs : List Bool) → p ∷ ps ≡ q ∷ qs → ps ≡ qs
    rest_of p q ps qs h = cc

    join : {p q : Bool} {ps qs : List Bool} → p ≡ q → ps ≡ qs → p ∷ ps ≡ q ∷ qs
    join h k = cc

pub bounds_step :
    (f g : Formula) (lits whole : List Literal) (first range k : ℕ) (below l e : Literal)
    (es rest : List Literal) → es ≡ e ∷ rest → 0 < first →
    0 < bit_count range → first + bit_count range ≤ f.vars + 1 → is_clause_over f.vars (below ∷ es) ≡ true →
    l ≡ at_most_lit first range k f.vars → g ≡ with_part f (at_most_lit_part range k below e f.vars) →
    lits ++ (bound_lits_part_from first range below k es f.vars).lits ≡ whole →
    (first + bit_count range ≤ g.vars + 1) × (is_clause_over g.vars (l ∷ rest) ≡ true) ×
    ((lits ++ l ∷ []) ++ (bound_lits_part_from first range l (k + 1) rest g.vars).lits ≡ whole) ×
    (with_part g (bound_lits_part_from first range l (k + 1) rest g.vars).part
    ≡ with_part f (bound_lits_part_from first range below k es f.vars).part)
bounds_step f g lits whole first range k below l e es rest split low some high inside is made h =
    let n = f.vars in
    let p = at_most_lit_part range k below e n in
    let m = at_most_lit first range k n in
    let vars : g.vars ≡ p.vars = ap (λ (u : Formula). u.vars) made in
    let grows : n ≤ p.vars = at_most-low range k n below e in
    let whole_in : is_clause_over n (below ∷ e ∷ rest) ≡ true = ap (λ (us : List Literal). is_clause_over n (below ∷ us)) (sym split) ∙ inside in
    let next_in : is_clause_over p.vars (m ∷ rest) ≡ true = next-inside first range k n below e rest low some high whole_in in (
      omega (arith, vars, grows, high),
      ap (λ (u : ℕ). is_clause_over u (l ∷ rest)) vars ∙ ap (λ (u : Literal). is_clause_over p.vars (u ∷ rest)) is ∙ next_in,
      append_assoc lits (l ∷ []) (bound_lits_part_from first range l (k + 1) rest g.vars).lits
          ∙ ap (λ (u : Literal). lits ++ u ∷ (bound_lits_part_from first range u (k + 1) rest g.vars).lits) is
          ∙ ap (λ (u : ℕ). lits ++ m ∷ (bound_lits_part_from first range m (k + 1) rest u).lits) vars
          ∙ ap (λ (us : List Literal). lits ++ (bound_lits_part_from first range below k us n).lits) (sym split)
          ∙ h,
      ap (λ (u : Literal). with_part g (bound_lits_part_from first range u (k + 1) rest g.vars).part) is
          ∙ ap (λ (u : Formula). with_part u (bound_lits_part_from first range m (k + 1) rest u.vars).part) made
          ∙ with_part-and_then f p (λ u. (bound_lits_part_from first range m (k + 1) rest u).part)
          ∙ ap (λ (us : List Literal). with_part f (bound_lits_part_from first range below k us n).part) (sym split),
    )
