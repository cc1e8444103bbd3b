-- The bounds of a range and their literals.
use Rattle.std.proofs.Common.{◌≡◌, ℕ, ◌+◌, ◌-◌, ◌^◌, ◌<◌, ◌≤◌, zero, suc, Bool, true, List, [], ◌∷◌, ◌++◌, length, take, drop, get_or, map, refl, inl, inr, sym, ap, ◌∙◌, subst, arith, eqb, ltb}
use Rattle.std.proofs.lemmas.List.{length-take-le}
use Rattle.std.proofs.lemmas.Bool.{and_parts, and_from, cases_lt, lt-ltb, le-ltb, eq-eqb, ne_eqb}
use Rattle.ilk_cnf.specs.Literal.{Literal}
use Rattle.ilk_cnf.specs.Formula.{is_lit_over, is_clause_over}
use Rattle.ilk_cnf.specs.Truth.{is_true}
use Rattle.ilk_cnf.specs.Extends.{ExtensionsAreExactly, EqualsGivenValues}
use Rattle.ilk_cnf.proofs.Extending.{no_more_if, only_from_if}
use Rattle.ilk_ints.specs.Bits.{bit_count, lowest_bits_of, assigned_bits_from_var}
use Rattle.ilk_ints.specs.Named.{one_hot_bits, bound_count, bound_lits_part_from, bound_lits_part, bound_bits, at_most_vars_bits}
use Rattle.ilk_ints.proofs.AtMostLaw.{bits_some}
use Rattle.ilk_ints.proofs.BoundsLaw.{bounds-law, bounds-say}

pub few_bounds : (range : ℕ) → bound_count range ≤ range - 3
few_bounds range = omega arith

is_clause_over-take : (n k : ℕ) (ls : List Literal) → is_clause_over n ls ≡ true → is_clause_over n (take k ls) ≡ true
is_clause_over-take n zero ls h = refl
is_clause_over-take n (suc k) [] h = refl
is_clause_over-take n (suc k) (l ∷ ls) h = let parts = and_parts _ _ h in and_from _ _ parts.0 (is_clause_over-take n k ls parts.1)

pub some-inside : (n k : ℕ) (e : Literal) (es : List Literal) → is_clause_over n (e ∷ es) ≡ true → is_clause_over n (e ∷ take k es) ≡ true
some-inside n k e es h = let parts = and_parts _ _ h in and_from _ _ parts.0 (is_clause_over-take n k es parts.1)

take-says : (k : ℕ) (a : List Bool) (w v r : ℕ) (es : List Literal) → map (is_true a) es ≡ one_hot_bits w v r → map (is_true a) (take k es) ≡ one_hot_bits w v (length (take k es))
take-says zero a w v r es h = refl
take-says (suc k) a w v r [] h = refl
take-says (suc k) a w v zero (e ∷ es) h = cc
take-says (suc k) a w v (suc r) (e ∷ es) h =
    let here : is_true a e ≡ eqb w v = head_of (is_true a e) (eqb w v) (map (is_true a) es) (one_hot_bits w (v + 1) r) h in
    let rest = take-says k a w (v + 1) r es (tail_of (is_true a e) (eqb w v) (map (is_true a) es) (one_hot_bits w (v + 1) r) h) in
    join here rest
  where
    head_of : (p q : Bool) (ps qs : List Bool) → p ∷ ps ≡ q ∷ qs → p ≡ q
    head_of p q ps qs h = cc

    tail_of : (p q : Bool) (ps qs : List Bool) → p ∷ ps ≡ q ∷ qs → ps ≡ qs
    tail_of p q ps qs h = cc

    join : {p q : Bool} {ps qs : List Bool} → p ≡ q → ps ≡ qs → p ∷ ps ≡ q ∷ qs
    join h k = cc

-- The common conditions of both theorems on the literals of the values.
record Ready (a : List Bool) (first range w n : ℕ) (e : Literal) (es : List Literal) : Type 0 where
  pub count : length (take (bound_count range) es) ≡ bound_count range
  pub inside : is_clause_over n (e ∷ take (bound_count range) es) ≡ true
  pub under : is_true a e ≡ ltb w 1
  pub same : map (is_true a) (take (bound_count range) es) ≡ one_hot_bits w 1 (length (take (bound_count range) es))

ready : (a : List Bool) (first range w n : ℕ) (e : Literal) (es : List Literal) → length (e ∷ es) ≡ range → is_clause_over n (e ∷ es) ≡ true → map (is_true a) (e ∷ es) ≡ one_hot_bits w 0 range → Ready a first range w n e es
ready a first range w n e es all inside says =
    let whole : is_true a e ∷ map (is_true a) es ≡ eqb w 0 ∷ one_hot_bits w 1 (length es) = says ∙ ap (one_hot_bits w 0) (sym all) in
    record {
      count = length-take-le (bound_count range) es (omega (arith, few_bounds range, all));
      inside = some-inside n (bound_count range) e es inside;
      under = head_of (is_true a e) (eqb w 0) (map (is_true a) es) (one_hot_bits w 1 (length es)) whole ∙ zero_below w;
      same = take-says (bound_count range) a w 1 (length es) es (tail_of (is_true a e) (eqb w 0) (map (is_true a) es) (one_hot_bits w 1 (length es)) whole);
    }
  where
    head_of : (p q : Bool) (ps qs : List Bool) → p ∷ ps ≡ q ∷ qs → p ≡ q
    head_of p q ps qs h = cc

    tail_of : (p q : Bool) (ps qs : List Bool) → p ∷ ps ≡ q ∷ qs → ps ≡ qs
    tail_of p q ps qs h = cc

    zero_below : (w : ℕ) → eqb w 0 ≡ ltb w 1
    zero_below w = elim (cases_lt w 1) [ inl low ↦ eq-eqb w 0 (omega arith) ∙ sym (lt-ltb w 1 low) | inr high ↦ ne_eqb w 0 (λ e. absurd (omega arith)) ∙ sym (le-ltb w 1 high) ]

pub bound_lits_part-law : (values : List Literal) (a : List Bool) (first range w n : ℕ) → length a ≡ n →
    0 < first → first + bit_count range ≤ n + 1 → range ≤ 2 ^ bit_count range → length values ≡ range →
    is_clause_over n values ≡ true → w < range → assigned_bits_from_var a first (bit_count range) ≡ lowest_bits_of (bit_count range) w →
    map (is_true a) values ≡ one_hot_bits w 0 range →
    ExtensionsAreExactly a (bound_lits_part first range values n).part.vars (bound_lits_part first range values n).part.clauses
    (EqualsGivenValues (at_most_vars_bits range w 1 (bound_count range)))
bound_lits_part-law [] a first range w n size low high enough all inside less is says = absurd (omega arith)
bound_lits_part-law (e ∷ es) a first range w n size low high enough all inside less is says =
    elim (cases_lt 1 range) [
      | inl more ↦
          (let r = ready a first range w n e es all inside says in
          subst
          (λ (j : ℕ). ExtensionsAreExactly a (bound_lits_part first range (e ∷ es) n).part.vars
          (bound_lits_part first range (e ∷ es) n).part.clauses (EqualsGivenValues (at_most_vars_bits range w 1 j))) r.count
          (bounds-law (take (bound_count range) es) a first range 1 w n e size low
          (bits_some range (bit_count range) more enough) high enough less is r.inside r.under
          r.same))
      | inr one ↦
          (let none : 0 ≡ bound_count range = omega (arith, few_bounds range) in
          subst (λ (j : ℕ). ExtensionsAreExactly a (bound_lits_part_from first range e 1 (take j es) n).part.vars (bound_lits_part_from first range e 1 (take j es) n).part.clauses (EqualsGivenValues (at_most_vars_bits range w 1 j))) none
          (only_from_if a n [] [] (no_more_if a n [] true size refl)))
    ]

pub bound_lits_part-say : (values : List Literal) (a c : List Bool) (first range w n : ℕ) → length a ≡ n →
    0 < first → first + bit_count range ≤ n + 1 → range ≤ 2 ^ bit_count range → length values ≡ range →
    is_clause_over n values ≡ true → w < range → assigned_bits_from_var a first (bit_count range) ≡ lowest_bits_of (bit_count range) w →
    map (is_true a) values ≡ one_hot_bits w 0 range →
    map (is_true (a ++ (at_most_vars_bits range w 1 (bound_count range) ++ c)))
    (bound_lits_part first range values n).lits
    ≡ bound_bits w 1 (bound_count range)
bound_lits_part-say [] a c first range w n size low high enough all inside less is says = absurd (omega arith)
bound_lits_part-say (e ∷ es) a c first range w n size low high enough all inside less is says =
    elim (cases_lt 1 range) [
      | inl more ↦
          (let r = ready a first range w n e es all inside says in
          subst
          (λ (j : ℕ).
          map (is_true (a ++ (at_most_vars_bits range w 1 j ++ c)))
          (bound_lits_part first range (e ∷ es) n).lits
          ≡ bound_bits w 1 j) r.count
          (bounds-say (take (bound_count range) es) a c first range 1 w n e size low
          (bits_some range (bit_count range) more enough) high enough less is r.inside r.under
          r.same))
      | inr one ↦
          (let none : 0 ≡ bound_count range = omega (arith, few_bounds range) in
          subst (λ (j : ℕ). map (is_true (a ++ (at_most_vars_bits range w 1 j ++ c))) (bound_lits_part_from first range e 1 (take j es) n).lits ≡ bound_bits w 1 j) none refl)
    ]

pub split-inside : (n k m : ℕ) (values : List Literal) (e : Literal) → 1 ≤ length values → e ≡ get_or values 0 e → is_clause_over n values ≡ true → is_clause_over n (e ∷ take k (take m (drop 1 values))) ≡ true
split-inside n k m [] e some is h = absurd (omega arith)
split-inside n k m (x ∷ xs) e some is h =
    let parts = and_parts _ _ h in
    and_from _ _ (ap (is_lit_over n) is ∙ parts.0) (is_clause_over-take n k (take m xs) (is_clause_over-take n m xs parts.1))
