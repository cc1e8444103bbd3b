-- A bounded integer has exactly the values below its range.
use Rattle.std.proofs.Common.{◌≡◌, ℕ, ◌+◌, ◌-◌, ◌*◌, ◌^◌, ◌<◌, ◌≤◌, zero, suc, Bool, true, false, not, ◌&&◌, List, [], ◌∷◌, ◌++◌, length, map, cond, refl, inl, inr, sym, ap, ◌∙◌, subst, arith, add-one, length-append, append_assoc}
use mir.Val.{bool_byte}
use Rattle.std.specs.List.{list_all, range_with_len}
use Rattle.std.proofs.Math.Pow.{pow_mono}
use Rattle.std.proofs.lemmas.Bool.{and_parts, and_from, ne_eqb, cases_eq, cases_lt, false≢true}
use Rattle.std.proofs.Math.Nat.{pow-succ'}
use Rattle.ilk_cnf.specs.Literal.{Literal, negated_lit}
use Rattle.ilk_cnf.specs.Formula.{Formula, with_var_count_and_clauses, clause_unless_tautology, is_clause_over, are_clauses_over}
use Rattle.ilk_cnf.specs.Truth.{value, is_clause_true, satisfies}
use Rattle.ilk_cnf.specs.Extends.{ExtensionsAreExactly}
use Rattle.ilk_cnf.specs.Part.{clauses_from_lists}
use Rattle.ilk_cnf.proofs.Parts.{value-new}
use Rattle.ilk_cnf.proofs.Gates.{is_clause_true-opposites, opposites-in, satisfies-clauses_from_lists}
use Rattle.ilk_ints.specs.Bits.{bit_count, lowest_bits_of, assigned_bits_from_var, bit_pattern_lits, same_bits}
use Rattle.ilk_ints.specs.Number.{value_bit_lits, non_value_clauses, number_part, bits_have_value, AreBitsInRange}
use Rattle.ilk_ints.proofs.BitsLaw.{number_of, number-less, number-bits, bits-number, bits-twice, length-bits, same_bits-self, bits-test, value_bit_lits-say, value_bit_lits-in}

each-range : (p : ℕ → Bool) (n a i : ℕ) → list_all p (range_with_len a n) ≡ true → a ≤ i → i < a + n → p i ≡ true
each-range p zero a i h low high = absurd (omega arith)
each-range p (suc n) a i h low high =
    elim (cases_eq a i) [
      | inl same ↦ subst (λ (u : ℕ). p u ≡ true) same (and_parts _ _ h).0
      | inr other ↦ each-range p n (a + 1) i (and_parts _ _ h).1 (omega arith) (omega arith)
    ]

range-each : (p : ℕ → Bool) (n a : ℕ) → ((i : ℕ) → a ≤ i → i < a + n → p i ≡ true) → list_all p (range_with_len a n) ≡ true
range-each p zero a h = refl
range-each p (suc n) a h = and_from _ _ (h a (omega arith) (omega arith)) (range-each p n (a + 1) (λ i low high. h i (omega arith) (omega arith)))

satisfies-map : (a : List Bool) (f : ℕ → List Literal) (vs : List ℕ) → satisfies a (map f vs) ≡ list_all (λ v. is_clause_true a (f v)) vs
satisfies-map a f [] = refl
satisfies-map a f (v ∷ vs) = ap (λ (r : Bool). is_clause_true a (f v) && r) (satisfies-map a f vs)

are_clauses_over-map : (n : ℕ) (f : ℕ → List Literal) (vs : List ℕ) → ((v : ℕ) → is_clause_over n (f v) ≡ true) → are_clauses_over n (map f vs) ≡ true
are_clauses_over-map n f [] h = refl
are_clauses_over-map n f (v ∷ vs) h = and_from _ _ (h v) (are_clauses_over-map n f vs h)

length-assigned_bits_from_var : (a : List Bool) (b first : ℕ) → length (assigned_bits_from_var a first b) ≡ b
length-assigned_bits_from_var a zero first = refl
length-assigned_bits_from_var a (suc b) first = ap suc (length-assigned_bits_from_var a b (first + 1))

pub assigned_bits_from_var-new : (d a : List Bool) (first : ℕ) → length a + 1 ≡ first → assigned_bits_from_var (a ++ d) first (length d) ≡ d
assigned_bits_from_var-new [] a first size = refl
assigned_bits_from_var-new (q ∷ d) a first size =
    let here : value (a ++ q ∷ d) first ≡ q = value-new a d q first size in
    let longer : length (a ++ q ∷ []) + 1 ≡ first + 1 = omega (arith, length-append a (q ∷ []), size) in
    let rest : assigned_bits_from_var (a ++ q ∷ d) (first + 1) (length d) ≡ d = subst (λ (u : List Bool). assigned_bits_from_var u (first + 1) (length d) ≡ d) (append_assoc a (q ∷ []) d)
    (assigned_bits_from_var-new d (a ++ q ∷ []) (first + 1) longer) in
    rw (here, rest) refl

ruled-says : (a : List Bool) (first range v : ℕ) → is_clause_true a (map negated_lit (value_bit_lits first range v)) ≡ not (bits_have_value a first range v)
ruled-says a first range v = is_clause_true-opposites a (value_bit_lits first range v) ∙ ap not (value_bit_lits-say a first range v)

pub value-below : (a : List Bool) (first range : ℕ) → range ≤ 2 ^ bit_count range → satisfies a (non_value_clauses first range) ≡ true → AreBitsInRange range (assigned_bits_from_var a first (bit_count range))
value-below a first range enough sat = below
  where
    b : ℕ
    b = bit_count range

    v : ℕ
    v = number_of (assigned_bits_from_var a first b)

    is : assigned_bits_from_var a first b ≡ lowest_bits_of b v
    is = sym (bits-number (assigned_bits_from_var a first b)) ∙ ap (λ (k : ℕ). lowest_bits_of k v) (length-assigned_bits_from_var a b first)

    less : v < 2 ^ b
    less = subst (λ (k : ℕ). v < 2 ^ k) (length-assigned_bits_from_var a b first) (number-less (assigned_bits_from_var a first b))

    same : bits_have_value a first range v ≡ true
    same = ap (λ (u : List Bool). same_bits u (lowest_bits_of b v)) is ∙ same_bits-self (lowest_bits_of b v)

    past : range ≤ v → ⊥
    past h =
        let each :
        list_all (λ u. is_clause_true a (map negated_lit (value_bit_lits first range u)))
        (range_with_len range (2 ^ b - range)) ≡ true =
        sym
        (satisfies-map a (λ u. map negated_lit (value_bit_lits first range u))
        (range_with_len range (2 ^ b - range))) ∙ sat in
        let here : is_clause_true a (map negated_lit (value_bit_lits first range v)) ≡ true = each-range (λ u. is_clause_true a (map negated_lit (value_bit_lits first range u))) (2 ^ b - range) range v each h (omega (arith, less, enough)) in
        false≢true (sym (ap not same) ∙ (sym (ruled-says a first range v) ∙ here))

    below : AreBitsInRange range (assigned_bits_from_var a first b)
    below = elim (cases_lt v range) [ inl low ↦ (v, low, is) | inr high ↦ absurd (past high) ]

pub value-passes : (a : List Bool) (first range w : ℕ) → range ≤ 2 ^ bit_count range → w < range → assigned_bits_from_var a first (bit_count range) ≡ lowest_bits_of (bit_count range) w → satisfies a (non_value_clauses first range) ≡ true
value-passes a first range w enough less bits =
    satisfies-map a (λ v. map negated_lit (value_bit_lits first range v)) (range_with_len range (2 ^ b - range))
    ∙ range-each (λ v. is_clause_true a (map negated_lit (value_bit_lits first range v))) (2 ^ b - range) range (λ i low high. other i low (omega arith))
  where
    b : ℕ
    b = bit_count range

    other : (i : ℕ) → range ≤ i → i < 2 ^ b → is_clause_true a (map negated_lit (value_bit_lits first range i)) ≡ true
    other i low high =
        let differs : bits_have_value a first range i ≡ false = ap (λ (u : List Bool). same_bits u (lowest_bits_of b i)) bits ∙ bits-test b w i (omega arith) high ∙ ne_eqb w i (λ k. absurd (omega arith)) in
        ruled-says a first range i ∙ ap not differs

pub number-law : (a : List Bool) (range n : ℕ) → range ≤ 2 ^ bit_count range → length a ≡ n → ExtensionsAreExactly a (number_part range n).vars (number_part range n).clauses (AreBitsInRange range)
number-law a range n enough size = record {
  sized = λ d h. (let is = h.2 in omega (arith, length-append a d, size, ap length is, length-bits (bit_count range) h.0));
  all_satisfy = λ d h. value-passes (a ++ d) (n + 1) range h.0 enough h.1 (at d (ap length h.2 ∙ length-bits (bit_count range) h.0) ∙ h.2);
  only = λ d long sat. value d (omega (arith, length-append a d, size, long)) sat;
}
  where
    at : (d : List Bool) → length d ≡ bit_count range → assigned_bits_from_var (a ++ d) (n + 1) (bit_count range) ≡ d
    at d l = ap (λ (k : ℕ). assigned_bits_from_var (a ++ d) (n + 1) k) (sym l) ∙ assigned_bits_from_var-new d a (n + 1) (ap (λ (k : ℕ). k + 1) size)

    value : (d : List Bool) → length d ≡ bit_count range → satisfies (a ++ d) (non_value_clauses (n + 1) range) ≡ true → AreBitsInRange range d
    value d l sat = subst (AreBitsInRange range) (at d l) (value-below (a ++ d) (n + 1) range enough sat)

pub non_value_clauses-in : (n first range : ℕ) → 0 < first → first + bit_count range ≤ n + 1 → are_clauses_over n (non_value_clauses first range) ≡ true
non_value_clauses-in n first range low high =
    are_clauses_over-map n (λ v. map negated_lit (value_bit_lits first range v)) (range_with_len range (2 ^ bit_count range - range)) (λ v. opposites-in n (value_bit_lits first range v) (value_bit_lits-in n first range v low high))

pub ruled_step : (f g : Formula) (whole : List (List Literal)) (first b v : ℕ) → v < 2 ^ b →
    g ≡ with_var_count_and_clauses f f.vars (clause_unless_tautology (map negated_lit (bit_pattern_lits first (lowest_bits_of b v)))) →
    f.clauses
    ++ clauses_from_lists (map (λ u. map negated_lit (bit_pattern_lits first (lowest_bits_of b u))) (range_with_len v (2 ^ b - v)))
    ≡ whole →
    g.clauses
    ++ clauses_from_lists
    (map (λ u. map negated_lit (bit_pattern_lits first (lowest_bits_of b u)))
    (range_with_len (v + 1) (2 ^ b - (v + 1)))) ≡ whole
ruled_step f g whole first b v less made h =
    let more : 2 ^ b - v ≡ suc (2 ^ b - (v + 1)) = omega arith in
    let rest = clauses_from_lists (map (λ u. map negated_lit (bit_pattern_lits first (lowest_bits_of b u))) (range_with_len (v + 1) (2 ^ b - (v + 1)))) in
    ap (λ (k : Formula). k.clauses ++ rest) made
    ∙ append_assoc f.clauses (clause_unless_tautology (map negated_lit (bit_pattern_lits first (lowest_bits_of b v)))) rest
    ∙ ap (λ (k : ℕ). f.clauses ++ clauses_from_lists (map (λ u. map negated_lit (bit_pattern_lits first (lowest_bits_of b u))) (range_with_len v k))) (sym more)
    ∙ h

pub value_step : (a : List Bool) (first count k v q : ℕ) → k < count → count ≤ 8 →
    q ≡ cond (value a (first + (count - 1 - k))) 1 0 → lowest_bits_of k v ≡ assigned_bits_from_var a (first + (count - k)) k →
    v < 2 ^ k →
    (lowest_bits_of (k + 1) (2 * v + q) ≡ assigned_bits_from_var a (first + (count - (k + 1))) (k + 1)) ×
    (2 * v + q < 2 ^ (k + 1)) × (2 * v + q < 256)
value_step a first count k v q less few is bits small =
    let f : ℕ = first + (count - 1 - k) in
    let here : f ≡ first + (count - suc k) = omega arith in
    let next : first + (count - k) ≡ f + 1 = omega arith in
    let at : lowest_bits_of (suc k) (2 * v + q) ≡ assigned_bits_from_var a (first + (count - suc k)) (suc k) =
    ap (λ (u : ℕ). lowest_bits_of (suc k) (2 * v + u)) is ∙ bits-twice k v (value a f) ∙ ap (λ (u : List Bool). value a f ∷ u) (bits ∙ ap (λ (g : ℕ). assigned_bits_from_var a g k) next)
    ∙ ap (λ (g : ℕ). assigned_bits_from_var a g (suc k)) here in
    let one : q ≤ 1 = rw is (at_most_one (value a f)) in
    let fits : 2 * v + q < 2 ^ suc k = omega (arith, pow-succ' 2 k, small, one) in
    let upto : suc k ≤ 8 = omega (arith, less, few) in
    let high : 2 ^ suc k ≤ 2 ^ 8 = pow_mono upto in
    (rw add-one at, rw add-one fits, omega (arith, fits, high))
  where
    at_most_one : (b : Bool) → cond b 1 0 ≤ 1
    at_most_one true = omega arith
    at_most_one false = omega arith

pub value_read : (a : List Bool) (first range v : ℕ) → range ≤ 2 ^ bit_count range → satisfies a (clauses_from_lists (non_value_clauses first range)) ≡ true → lowest_bits_of (bit_count range) v ≡ assigned_bits_from_var a first (bit_count range) →
    v < 2 ^ bit_count range
    → v < range
value_read a first range v enough sat is small =
    let b = bit_count range in
    let h = value-below a first range enough (sym (satisfies-clauses_from_lists a (non_value_clauses first range)) ∙ sat) in
    let less = h.1 in
    let same : v ≡ h.0 = sym (number-bits b v small) ∙ ap number_of (is ∙ h.2) ∙ number-bits b h.0 (omega arith) in
    omega arith

pub byte_of : (b : Bool) → bool_byte b ≡ cond b 1 0
byte_of true = refl
byte_of false = refl

pub value_end : (a : List Bool) (first b count k v : ℕ) → k ≡ count → count ≡ b → lowest_bits_of k v ≡ assigned_bits_from_var a (first + (count - k)) k → v < 2 ^ k → (lowest_bits_of b v ≡ assigned_bits_from_var a first b) × (v < 2 ^ b)
value_end a first b count k v end is bits small =
    let all : k ≡ b = end ∙ is in
    let start : first + (count - k) ≡ first = omega arith in
    (ap (λ (u : ℕ). lowest_bits_of u v) (sym all) ∙ bits ∙ ap (λ (f : ℕ). assigned_bits_from_var a f k) start ∙ ap (λ (u : ℕ). assigned_bits_from_var a first u) all, subst (λ (u : ℕ). v < 2 ^ u) all small)
