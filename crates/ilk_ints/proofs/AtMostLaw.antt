-- A literal that is true if and only if an integer is at most some value.
use Rattle.std.proofs.Common.{◌≡◌, ◌==◌, ℕ, ◌+◌, ◌-◌, ◌/◌, ◌%◌, ◌^◌, ◌<◌, ◌≤◌, zero, suc, Bool, true, false, not, ◌||◌, List, [], ◌∷◌, ◌++◌, length, cond, refl, inl, inr, sym, ap, ◌∙◌, subst, arith, eqb, leb, ltb}
use Rattle.std.specs.List.{list_any}
use Rattle.std.proofs.lemmas.List.{append-nil}
use Rattle.std.proofs.lemmas.Bool.{eqb-true, eq-eqb, ne_eqb, cases_eq, cases_lt, cases_order, lt-leb, le-leb, lt-ltb, le-ltb}
use Rattle.std.proofs.Math.Nat.{pow-succ'}
use Rattle.ilk_cnf.specs.Literal.{Literal, positive_lit, negative_lit}
use Rattle.ilk_cnf.specs.Formula.{is_clause_over}
use Rattle.ilk_cnf.specs.Truth.{value, is_true}
use Rattle.ilk_cnf.specs.Extends.{ExtensionsAreExactly, EqualsGivenValues}
use Rattle.ilk_cnf.specs.Part.{empty_part, or_gate_part}
use Rattle.ilk_cnf.proofs.Parts.{value-new}
use Rattle.ilk_cnf.proofs.Extending.{any_of-law, no_more_if, only_from_if}
use Rattle.ilk_ints.specs.Bits.{bit_count, lowest_bits_of, assigned_bits_from_var}
use Rattle.ilk_ints.specs.AtMost.{highest_bit_decides, at_most_lit_part, at_most_lit, at_most_bits}

pub bits_some : (range b : ℕ) → 1 < range → range ≤ 2 ^ b → 0 < b
bits_some range zero more h = absurd (omega arith)
bits_some range (suc b) more h = omega arith

first_item : (p q : Bool) (ps qs : List Bool) → p ∷ ps ≡ q ∷ qs → p ≡ q
first_item p q ps qs h = cc

other_items : (p q : Bool) (ps qs : List Bool) → p ∷ ps ≡ q ∷ qs → ps ≡ qs
other_items p q ps qs h = cc

highest_bit : (m v : ℕ) (a : List Bool) (first : ℕ) → v < 2 ^ suc m → assigned_bits_from_var a first (suc m) ≡ lowest_bits_of (suc m) v → value a (first + m) ≡ leb (2 ^ m) v
highest_bit zero v a first less h =
    let one : value a first ≡ (v % 2 == 1) = first_item (value a first) (v % 2 == 1) [] [] h in
    let here : first + 0 ≡ first = omega arith in
    ap (value a) here ∙ one ∙ (elim (cases_eq v 1) [
      | inl is ↦ (let odd : v % 2 ≡ 1 = omega arith in eq-eqb (v % 2) 1 odd ∙ sym (le-leb (2 ^ 0) v (omega arith)))
      | inr other ↦ (let low : v < 1 = omega (arith, pow-succ' 2 0) in ne_eqb (v % 2) 1 (λ e. absurd (omega arith)) ∙ sym (lt-leb (2 ^ 0) v (omega arith)))
    ])
highest_bit (suc m) v a first less h =
    let rest : assigned_bits_from_var a (first + 1) (suc m) ≡ lowest_bits_of (suc m) (v / 2) = other_items (value a first) (v % 2 == 1) (assigned_bits_from_var a (first + 1) (suc m)) (lowest_bits_of (suc m) (v / 2)) h in
    let step = highest_bit m (v / 2) a (first + 1) (omega (arith, pow-succ' 2 (suc m))) rest in
    let here : first + suc m ≡ first + 1 + m = omega arith in
    ap (value a) here ∙ step ∙ (elim (cases_lt v (2 ^ suc m)) [
      | inl low ↦ lt-leb (2 ^ m) (v / 2) (omega (arith, pow-succ' 2 m)) ∙ sym (lt-leb (2 ^ suc m) v low)
      | inr high ↦ le-leb (2 ^ m) (v / 2) (omega (arith, pow-succ' 2 m)) ∙ sym (le-leb (2 ^ suc m) v high)
    ])

highest_bit-says : (b v k : ℕ) (a : List Bool) (first : ℕ) → 0 < b → v < 2 ^ b → k + 1 ≡ 2 ^ (b - 1) → assigned_bits_from_var a first b ≡ lowest_bits_of b v → not (value a (first + (b - 1))) ≡ leb v k
highest_bit-says zero v k a first some less half h = absurd (omega arith)
highest_bit-says (suc m) v k a first some less half h =
    let one : suc m - 1 ≡ m = omega arith in
    let half' : k + 1 ≡ 2 ^ m = half ∙ ap (λ (u : ℕ). 2 ^ u) one in
    let bit = highest_bit m v a first less h in
    ap (λ (u : ℕ). not (value a (first + u))) one ∙ ap not bit ∙ (elim (cases_lt k v) [
      | inl high ↦ ap not (le-leb (2 ^ m) v (omega arith)) ∙ sym (lt-leb v k high)
      | inr low ↦ ap not (lt-leb (2 ^ m) v (omega arith)) ∙ sym (le-leb v k low)
    ])

below_or_equal : (v k : ℕ) → (ltb v k || (eqb v k || false)) ≡ leb v k
below_or_equal v k =
    elim (cases_order v k) [
      | inl same ↦ (let a = le-ltb v k (omega arith) in let b = eq-eqb v k same in let c = le-leb v k (omega arith) in rw (a, b, c) refl)
      | inr other ↦ (elim other [
        | inl less ↦ (let a = lt-ltb v k less in let c = le-leb v k (omega arith) in rw (a, c) refl)
        | inr more ↦ (let a = le-ltb v k (omega arith) in let b = ne_eqb v k (λ e. absurd (omega arith)) in let c = lt-leb v k more in rw (a, b, c) refl)
      ])
    ]

pub at_most-law : (a : List Bool) (range k v n : ℕ) (below equal : Literal) → length a ≡ n →
    is_clause_over n (below ∷ equal ∷ []) ≡ true → is_true a below ≡ ltb v k → is_true a equal ≡ eqb v k →
    ExtensionsAreExactly a (at_most_lit_part range k below equal n).vars (at_most_lit_part range k below equal n).clauses
    (EqualsGivenValues (at_most_bits range k v))
at_most-law a range k v n below equal size inside low same = by_case (highest_bit_decides range k)
  where
    some : list_any (is_true a) (below ∷ equal ∷ []) ≡ leb v k
    some = rw (low, same) (below_or_equal v k)

    by_case : (h : Bool) → ExtensionsAreExactly a (cond h (empty_part n) (or_gate_part (below ∷ equal ∷ []) n)).vars (cond h (empty_part n) (or_gate_part (below ∷ equal ∷ []) n)).clauses (EqualsGivenValues (cond h [] (leb v k ∷ [])))
    by_case true = only_from_if a n [] [] (no_more_if a n [] true size refl)
    by_case false = subst (λ (e : Bool). ExtensionsAreExactly a (n + 1) (or_gate_part (below ∷ equal ∷ []) n).clauses (EqualsGivenValues (e ∷ []))) some (any_of-law a n (below ∷ equal ∷ []) size inside)

pub at_most-exact : (a : List Bool) (first range k v n : ℕ) → length a ≡ n → 0 < bit_count range →
    range ≤ 2 ^ bit_count range → v < range →
    assigned_bits_from_var a first (bit_count range) ≡ lowest_bits_of (bit_count range) v →
    is_true (a ++ at_most_bits range k v) (at_most_lit first range k n) ≡ leb v k
at_most-exact a first range k v n size some enough less is = by_case (highest_bit_decides range k) refl
  where
    b : ℕ
    b = bit_count range

    by_case : (h : Bool) → highest_bit_decides range k ≡ h → is_true (a ++ cond h [] (leb v k ∷ [])) (cond h (negative_lit (first + (b - 1))) (positive_lit (n + 1))) ≡ leb v k
    by_case true h =
        ap (λ (u : List Bool). not (value u (first + (b - 1)))) (append-nil a) ∙ highest_bit-says b v k a first some (omega (arith, less, enough)) (eqb-true (k + 1) (2 ^ (b - 1)) h) is
    by_case false h = value-new a [] (leb v k) (n + 1) (ap (λ (u : ℕ). u + 1) size)
