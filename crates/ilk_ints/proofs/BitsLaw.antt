-- Numbers and their bits, and the meaning of their literals.
use Rattle.std.proofs.Common.{◌≡◌, ◌==◌, ℕ, ◌+◌, ◌-◌, ◌*◌, ◌/◌, ◌%◌, ◌^◌, ◌<◌, ◌≤◌, zero, suc, Bool, true, false, not, ◌&&◌, List, [], ◌∷◌, ◌++◌, length, cond, refl, inl, inr, sym, ap, ◌∙◌, subst, arith, eqb, leb, append_assoc}
use Rattle.std.specs.List.{list_all}
use Rattle.std.proofs.lemmas.Bool.{and_parts, and_from, eq-eqb, ne_eqb, cases_eq, false≢true, lt-leb, le-leb, lt-ltb}
use Rattle.std.proofs.Math.Nat.{pow-succ'}
use Rattle.ilk_base.proofs.Ranges.{find-least}
use Rattle.ilk_cnf.specs.Literal.{Literal}
use Rattle.ilk_cnf.specs.Formula.{is_clause_over}
use Rattle.ilk_cnf.specs.Truth.{value, is_true}
use Rattle.ilk_cnf.specs.Extends.{ExtensionsAreExactly, EqualsGivenValues}
use Rattle.ilk_cnf.proofs.Extending.{all_of-law}
use Rattle.ilk_ints.specs.Bits.{bit_count, lowest_bits_of, assigned_bits_from_var, bit_pattern_lits, same_bits}
use Rattle.ilk_ints.specs.Number.{value_bit_lits, value_lit_part, bits_have_value}

pub bit_count-first : (range k : ℕ) → k < 8 → ((b : ℕ) → b < k → 2 ^ b < range) → range ≤ 2 ^ k → k ≡ bit_count range
bit_count-first range k few below enough =
    let found = find-least (λ b. leb range (2 ^ b)) 0 8 k (omega arith) (omega arith) (le-leb range (2 ^ k) enough) (λ b _ less. lt-leb range (2 ^ b) (below b less)) in
    rw found refl

pub length-bits : (b v : ℕ) → length (lowest_bits_of b v) ≡ b
length-bits zero v = refl
length-bits (suc b) v = ap suc (length-bits b (v / 2))

-- The number with these bits.
abbrev pub number_of : List Bool → ℕ
number_of [] = 0
number_of (q ∷ qs) = cond q 1 0 + 2 * number_of qs

pub number-bits : (b v : ℕ) → v < 2 ^ b → number_of (lowest_bits_of b v) ≡ v
number-bits zero v h = omega arith
number-bits (suc b) v h =
    let rest = number-bits b (v / 2) (omega (arith, pow-succ' 2 b)) in
    elim (cases_eq (v % 2) 1) [
      | inl odd ↦ (let t = eq-eqb (v % 2) 1 odd in rw t (omega (arith, rest, odd)))
      | inr even ↦ (let t = ne_eqb (v % 2) 1 even in rw t (omega (arith, rest, even)))
    ]

pub number-less : (qs : List Bool) → number_of qs < 2 ^ length qs
number-less [] = omega arith
number-less (true ∷ qs) = let h = number-less qs in omega (arith, pow-succ' 2 (length qs))
number-less (false ∷ qs) = let h = number-less qs in omega (arith, pow-succ' 2 (length qs))

pub bits-twice : (b v : ℕ) (q : Bool) → lowest_bits_of (suc b) (2 * v + cond q 1 0) ≡ q ∷ lowest_bits_of b v
bits-twice b v true =
    let half : (2 * v + 1) / 2 ≡ v = omega arith in
    let odd : (2 * v + 1) % 2 ≡ 1 = omega arith in
    let t = eq-eqb ((2 * v + 1) % 2) 1 odd in
    rw (t, half) refl
bits-twice b v false =
    let half : (2 * v + 0) / 2 ≡ v = omega arith in
    let even : (2 * v + 0) % 2 ≡ 0 = omega arith in
    let t = ne_eqb ((2 * v + 0) % 2) 1 (λ e. absurd (omega arith)) in
    rw (t, half) refl

pub bits-number : (qs : List Bool) → lowest_bits_of (length qs) (number_of qs) ≡ qs
bits-number [] = refl
bits-number (q ∷ qs) =
    let swap : cond q 1 0 + 2 * number_of qs ≡ 2 * number_of qs + cond q 1 0 = omega arith in
    ap (λ (k : ℕ). lowest_bits_of (suc (length qs)) k) swap ∙ bits-twice (length qs) (number_of qs) q ∙ ap (λ (u : List Bool). q ∷ u) (bits-number qs)

same_bits-is : (ws qs : List Bool) → same_bits ws qs ≡ true → ws ≡ qs
same_bits-is [] [] h = refl
same_bits-is [] (q ∷ qs) h = absurd (false≢true h)
same_bits-is (w ∷ ws) [] h = absurd (false≢true h)
same_bits-is (w ∷ ws) (q ∷ qs) h =
    let parts = and_parts _ _ h in
    let one : w ≡ q = bit q w parts.0 in
    let two = same_bits-is ws qs parts.1 in
    rw (one, two) refl
  where
    bit : (q w : Bool) → cond q w (not w) ≡ true → w ≡ q
    bit true true h = refl
    bit true false h = absurd (false≢true h)
    bit false true h = absurd (false≢true h)
    bit false false h = refl

pub same_bits-self : (ws : List Bool) → same_bits ws ws ≡ true
same_bits-self [] = refl
same_bits-self (true ∷ ws) = same_bits-self ws
same_bits-self (false ∷ ws) = same_bits-self ws

pub bits-test : (b v e : ℕ) → v < 2 ^ b → e < 2 ^ b → same_bits (lowest_bits_of b v) (lowest_bits_of b e) ≡ eqb v e
bits-test b v e hv he =
    elim (cases_eq v e) [
      | inl same ↦ (let t = eq-eqb v e same in rw t (subst (λ (u : ℕ). same_bits (lowest_bits_of b v) (lowest_bits_of b u) ≡ true) same (same_bits-self (lowest_bits_of b v))))
      | inr other ↦ (let t = ne_eqb v e other in rw t (by_case (same_bits (lowest_bits_of b v) (lowest_bits_of b e)) refl other))
    ]
  where
    by_case : (k : Bool) → same_bits (lowest_bits_of b v) (lowest_bits_of b e) ≡ k → (v ≡ e → ⊥) → k ≡ false
    by_case false h other = refl
    by_case true h other = absurd (other (sym (number-bits b v hv) ∙ ap number_of (same_bits-is (lowest_bits_of b v) (lowest_bits_of b e) h) ∙ number-bits b e he))

pub lits_step : (first count i rest : ℕ) (ls whole : List Literal) (l : Literal) → i < count →
    l ≡ record { var = first + i; positive = (rest % 2 == 1) } →
    ls ++ bit_pattern_lits (first + i) (lowest_bits_of (count - i) rest) ≡ whole →
    (ls ++ l ∷ []) ++ bit_pattern_lits (first + (i + 1)) (lowest_bits_of (count - (i + 1)) (rest / 2)) ≡ whole
lits_step first count i rest ls whole l less is h =
    let more : count - i ≡ suc (count - (i + 1)) = omega arith in
    let next : first + i + 1 ≡ first + (i + 1) = omega arith in
    append_assoc ls (l ∷ []) (bit_pattern_lits (first + (i + 1)) (lowest_bits_of (count - (i + 1)) (rest / 2)))
    ∙ ap (λ (m : Literal). ls ++ m ∷ bit_pattern_lits (first + (i + 1)) (lowest_bits_of (count - (i + 1)) (rest / 2))) is
    ∙ ap (λ (k : ℕ). ls ++ (record { var = first + i; positive = (rest % 2 == 1) }) ∷ bit_pattern_lits k (lowest_bits_of (count - (i + 1)) (rest / 2))) (sym next)
    ∙ ap (λ (k : ℕ). ls ++ bit_pattern_lits (first + i) (lowest_bits_of k rest)) (sym more)
    ∙ h

pub lits-say : (a : List Bool) (qs : List Bool) (first : ℕ) → list_all (is_true a) (bit_pattern_lits first qs) ≡ same_bits (assigned_bits_from_var a first (length qs)) qs
lits-say a [] first = refl
lits-say a (q ∷ qs) first = ap (λ (r : Bool). cond q (value a first) (not (value a first)) && r) (lits-say a qs (first + 1))

pub value_bit_lits-say : (a : List Bool) (first range v : ℕ) → list_all (is_true a) (value_bit_lits first range v) ≡ bits_have_value a first range v
value_bit_lits-say a first range v =
    let b = bit_count range in
    lits-say a (lowest_bits_of b v) first ∙ ap (λ (k : ℕ). same_bits (assigned_bits_from_var a first k) (lowest_bits_of b v)) (length-bits b v)

pub bit_pattern_lits-in : (n : ℕ) (qs : List Bool) (first : ℕ) → 0 < first → first + length qs ≤ n + 1 → is_clause_over n (bit_pattern_lits first qs) ≡ true
bit_pattern_lits-in n [] first low high = refl
bit_pattern_lits-in n (q ∷ qs) first low high =
    and_from _ _ (and_from _ _ (lt-ltb 0 first low) (le-leb first n (omega arith))) (bit_pattern_lits-in n qs (first + 1) (omega arith) (omega arith))

pub value_bit_lits-in : (n first range v : ℕ) → 0 < first → first + bit_count range ≤ n + 1 → is_clause_over n (value_bit_lits first range v) ≡ true
value_bit_lits-in n first range v low high =
    let b = bit_count range in
    bit_pattern_lits-in n (lowest_bits_of b v) first low (subst (λ (k : ℕ). first + k ≤ n + 1) (sym (length-bits b v)) high)

pub is-law : (a : List Bool) (first range v n : ℕ) → length a ≡ n → 0 < first → first + bit_count range ≤ n + 1 → ExtensionsAreExactly a (n + 1) (value_lit_part first range v n).clauses (EqualsGivenValues (bits_have_value a first range v ∷ []))
is-law a first range v n size low high =
    subst (λ (e : Bool). ExtensionsAreExactly a (n + 1) (value_lit_part first range v n).clauses (EqualsGivenValues (e ∷ []))) (value_bit_lits-say a first range v)
    (all_of-law a n (value_bit_lits first range v) size (value_bit_lits-in n first range v low high))

pub has_value-exact : (a : List Bool) (first range v w : ℕ) → range ≤ 2 ^ bit_count range → v < range → w < range → assigned_bits_from_var a first (bit_count range) ≡ lowest_bits_of (bit_count range) w → bits_have_value a first range v ≡ eqb w v
has_value-exact a first range v w enough hv hw is =
    let b = bit_count range in
    ap (λ (u : List Bool). same_bits u (lowest_bits_of b v)) is ∙ bits-test b w v (omega arith) (omega arith)

pub bit_is-exact : (a : List Bool) (first v : ℕ) → v < 2 → is_true a (record { var = first; positive = (v == 1) }) ≡ bits_have_value a first 2 v
bit_is-exact a first v less =
    elim (cases_eq v 1) [
      | inl is ↦ (let one : (v == 1) ≡ true = eq-eqb v 1 is in let odd : (v % 2 == 1) ≡ true = eq-eqb (v % 2) 1 (omega arith) in rw (one, odd) (and_end (value a first)))
      | inr other ↦ (let one : (v == 1) ≡ false = ne_eqb v 1 other in let even : (v % 2 == 1) ≡ false = ne_eqb (v % 2) 1 (λ e. absurd (omega arith)) in rw (one, even) (and_end (not (value a first))))
    ]
  where
    and_end : (p : Bool) → p ≡ (p && true)
    and_end true = refl
    and_end false = refl
