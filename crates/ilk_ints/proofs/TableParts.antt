-- The ends of the parts for values and bounds, and the range of their variables.
use Rattle.std.proofs.Common.{◌≡◌, ◌==◌, ℕ, ◌+◌, ◌^◌, ◌<◌, ◌≤◌, zero, suc, Bool, true, false, List, [], ◌∷◌, Option, Some, None, unwrap_or, length, take, cond, refl, inl, inr, sym, ap, ◌∙◌, subst, arith, leb}
use Rattle.std.specs.Prelude.{if◌then◌else◌}
use Rattle.std.specs.List.{find, range_with_len}
use Rattle.std.proofs.lemmas.List.{length-take}
use Rattle.std.proofs.lemmas.Bool.{and_from, eqb-true, lt-ltb, le-leb, leb-true, cases_lt}
use Rattle.ilk_cnf.specs.Literal.{Literal, positive_lit}
use Rattle.ilk_cnf.specs.Formula.{is_lit_over, is_clause_over, are_clauses_over}
use Rattle.ilk_cnf.specs.Part.{FormulaPart, empty_part, or_gate_part}
use Rattle.ilk_ints.specs.Bits.{bit_count}
use Rattle.ilk_ints.specs.Named.{PartWithLits, value_lits_part_from, value_lits_part, value_var_count, bound_count, bound_lits_part_from, bound_lits_part, bound_var_count, value_bound_var_count}
use Rattle.ilk_ints.specs.AtMost.{highest_bit_decides, at_most_lit_part, at_most_lit}
use Rattle.ilk_ints.proofs.AtMostLaw.{bits_some}
use Rattle.ilk_ints.proofs.ValuesLaw.{values-low, values-in, values-lits_in}
use Rattle.ilk_ints.proofs.BoundsLaw.{bounds-low, bounds-in}
use Rattle.ilk_ints.proofs.BoundsPart.{few_bounds, some-inside}

find-passes : (p : ℕ → Bool) (xs : List ℕ) (k : ℕ) → find p xs ≡ Some k → p k ≡ true
find-passes p [] k h = cc
find-passes p (x ∷ xs) k h = by_case (p x) refl h (find-passes p xs k)
  where
    by_case : (b : Bool) → p x ≡ b → cond b (Some x) (find p xs) ≡ Some k → (find p xs ≡ Some k → p k ≡ true) → p k ≡ true
    by_case true here e rest = (let same : x ≡ k = cc in ap p (sym same) ∙ here)
    by_case false here e rest = rest e

pub bit_count-enough : (range : ℕ) → range ≤ 256 → range ≤ 2 ^ bit_count range
bit_count-enough range high = by_case (find (λ b. leb range (2 ^ b)) (range_with_len 0 8)) refl
  where
    by_case : (o : Option ℕ) → find (λ b. leb range (2 ^ b)) (range_with_len 0 8) ≡ o → range ≤ 2 ^ unwrap_or o 8
    by_case None h = high
    by_case (Some b) h = leb-true range (2 ^ b) (find-passes (λ b. leb range (2 ^ b)) (range_with_len 0 8) b h)

abbrev two : ℕ → ℕ → PartWithLits
two first n =
    record {
      part = empty_part n;
      lits = (record { var = first; positive = (0 == 1) }) ∷ (record { var = first; positive = (1 == 1) }) ∷ [];
    }

pub value_lits_part-in : (first range n : ℕ) → 0 < first → first + bit_count range ≤ n + 1 → are_clauses_over (value_lits_part first range n).part.vars (value_lits_part first range n).part.clauses ≡ true
value_lits_part-in first range n low high = by_case (range == 2)
  where
    by_case : (h : Bool) → are_clauses_over (cond h (two first n) (value_lits_part_from first range 0 range n)).part.vars (cond h (two first n) (value_lits_part_from first range 0 range n)).part.clauses ≡ true
    by_case true = refl
    by_case false = values-in range first range 0 n low high

pub value_lits_part-lits_in : (first range n : ℕ) → 0 < first → first + bit_count range ≤ n + 1 → is_clause_over (value_lits_part first range n).part.vars (value_lits_part first range n).lits ≡ true
value_lits_part-lits_in first range n low high = by_case (range == 2) refl
  where
    by_case : (h : Bool) → (range == 2) ≡ h → is_clause_over (cond h (two first n) (value_lits_part_from first range 0 range n)).part.vars (cond h (two first n) (value_lits_part_from first range 0 range n)).lits ≡ true
    by_case true h =
        let one : bit_count range ≡ 1 = ap bit_count (eqb-true range 2 h) in
        let var_in : is_lit_over n (positive_lit first) ≡ true = and_from _ _ (lt-ltb 0 first low) (le-leb first n (omega (arith, high, one))) in
        and_from _ _ var_in (and_from _ _ var_in refl)
    by_case false h = values-lits_in range first range 0 n (value_lits_part_from first range 0 range n).part.vars (omega (arith, values-low range first range 0 n))

length-value_lits_part_from : (j first range v n : ℕ) → length (value_lits_part_from first range v j n).lits ≡ j
length-value_lits_part_from zero first range v n = refl
length-value_lits_part_from (suc j) first range v n = ap suc (length-value_lits_part_from j first range (v + 1) (n + 1))

pub length-value_lits_part : (first range n : ℕ) → length (value_lits_part first range n).lits ≡ range
length-value_lits_part first range n = by_case (range == 2) refl
  where
    by_case : (h : Bool) → (range == 2) ≡ h → length (cond h (two first n) (value_lits_part_from first range 0 range n)).lits ≡ range
    by_case true h = sym (eqb-true range 2 h)
    by_case false h = length-value_lits_part_from range first range 0 n

pub bound_lits_part-low : (values : List Literal) (first range n : ℕ) → n ≤ (bound_lits_part first range values n).part.vars
bound_lits_part-low [] first range n = omega arith
bound_lits_part-low (e ∷ es) first range n = bounds-low (take (bound_count range) es) first range 1 n e

pub bound_lits_part-in : (values : List Literal) (first range n : ℕ) → 0 < first →
    first + bit_count range ≤ n + 1 → range ≤ 2 ^ bit_count range → is_clause_over n values ≡ true →
    are_clauses_over (bound_lits_part first range values n).part.vars (bound_lits_part first range values n).part.clauses
    ≡ true
bound_lits_part-in [] first range n low high enough h = refl
bound_lits_part-in (e ∷ es) first range n low high enough h =
    elim (cases_lt 1 range) [
      | inl more ↦ bounds-in (take (bound_count range) es) first range 1 n e low (bits_some range (bit_count range) more enough) high (some-inside n (bound_count range) e es h)
      | inr one ↦
          (let none : 0 ≡ bound_count range = omega arith in
          subst (λ (j : ℕ). are_clauses_over (bound_lits_part_from first range e 1 (take j es) n).part.vars (bound_lits_part_from first range e 1 (take j es) n).part.clauses ≡ true) none refl)
    ]

pub at_most-there : (first range k n m : ℕ) (below e : Literal) (es rest : List Literal) → es ≡ e ∷ rest → (bound_lits_part_from first range below k es n).part.vars ≤ m → (at_most_lit_part range k below e n).vars ≤ m
at_most-there first range k n m below e es rest split high =
    let whole : (bound_lits_part_from first range below k (e ∷ rest) n).part.vars ≤ m = subst (λ (ls : List Literal). (bound_lits_part_from first range below k ls n).part.vars ≤ m) split high in
    let low = bounds-low rest first range (k + 1) (at_most_lit_part range k below e n).vars (at_most_lit first range k n) in
    omega arith

pub value_lits_part-end : (first range n : ℕ) → (value_lits_part first range n).part.vars ≡ n + value_var_count range
value_lits_part-end first range n = by_case (range == 2)
  where
    by_case : (h : Bool) → (cond h (two first n) (value_lits_part_from first range 0 range n)).part.vars ≡ n + cond h 0 range
    by_case true = omega arith
    by_case false = values-low range first range 0 n

at_most-end : (range k n : ℕ) (below equal : Literal) → (at_most_lit_part range k below equal n).vars ≡ n + (if highest_bit_decides range k then 0 else 1)
at_most-end range k n below equal = by_case (highest_bit_decides range k)
  where
    by_case : (b : Bool) → (cond {A = FormulaPart} b (empty_part n) (or_gate_part (below ∷ equal ∷ []) n)).vars ≡ n + cond b 0 1
    by_case true = omega arith
    by_case false = refl

bound_lits_part_from-end : (es : List Literal) (first range k n : ℕ) (below : Literal) → (bound_lits_part_from first range below k es n).part.vars ≡ n + bound_var_count range k (length es)
bound_lits_part_from-end [] first range k n below = omega arith
bound_lits_part_from-end (e ∷ es) first range k n below =
    let m = (at_most_lit_part range k below e n).vars in
    let one = at_most-end range k n below e in
    let rest = bound_lits_part_from-end es first range (k + 1) m (at_most_lit first range k n) in
    omega arith

pub bound_lits_part-end : (values : List Literal) (first range n : ℕ) → length values ≡ range → (bound_lits_part first range values n).part.vars ≡ n + bound_var_count range 1 (bound_count range)
bound_lits_part-end [] first range n all =
    let none : bound_count range ≡ 0 = omega (arith, few_bounds range, all) in
    let no_vars : bound_var_count range 1 (bound_count range) ≡ 0 = ap (bound_var_count range 1) none in
    omega (arith, no_vars)
bound_lits_part-end (e ∷ es) first range n all =
    let few : length (take (bound_count range) es) ≡ bound_count range = omega (arith, length-take (bound_count range) es, few_bounds range, all) in
    bound_lits_part_from-end (take (bound_count range) es) first range 1 n e ∙ ap (λ (j : ℕ). n + bound_var_count range 1 j) few

pub named-end : (first range n : ℕ) → (bound_lits_part first range (value_lits_part first range n).lits (value_lits_part first range n).part.vars).part.vars ≡ n + value_bound_var_count range
named-end first range n =
    let one = value_lits_part-end first range n in
    let two = bound_lits_part-end (value_lits_part first range n).lits first range (value_lits_part first range n).part.vars (length-value_lits_part first range n) in
    omega arith

pub bound_var_count-one : (range k j m : ℕ) (says : Bool) → highest_bit_decides range k ≡ says → suc j ≡ m → bound_var_count range k m ≡ cond says 0 1 + bound_var_count range (k + 1) j
bound_var_count-one range k j m says is more =
    ap (bound_var_count range k) (sym more) ∙ ap (λ (b : Bool). cond b 0 1 + bound_var_count range (k + 1) j) is
