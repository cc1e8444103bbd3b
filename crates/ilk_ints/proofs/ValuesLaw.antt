-- The literals of an integer's values.
use Rattle.std.proofs.Common.{◌≡◌, ◌==◌, ℕ, ◌+◌, ◌-◌, ◌^◌, ◌<◌, ◌≤◌, zero, suc, Bool, true, false, List, [], ◌∷◌, ◌++◌, length, map, cond, refl, sym, ap, ◌∙◌, subst, arith, eqb, length-append, append_assoc}
use Rattle.std.proofs.lemmas.List.Folds.{list_all-append}
use Rattle.std.proofs.lemmas.Bool.{and_from, eqb-true}
use Rattle.ilk_cnf.specs.Literal.{Literal, positive_lit}
use Rattle.ilk_cnf.specs.Formula.{Formula, is_clause_over, are_clauses_over}
use Rattle.ilk_cnf.specs.Truth.{value, is_true}
use Rattle.ilk_cnf.specs.Extends.{ExtensionsAreExactly, EqualsGivenValues}
use Rattle.ilk_cnf.specs.Part.{empty_part, with_part}
use Rattle.ilk_cnf.proofs.Literals.{is_lit_over-more, are_clauses_over-more}
use Rattle.ilk_cnf.proofs.Parts.{value-new, value-left, one_by_one}
use Rattle.ilk_cnf.proofs.Gates.{new-in, all_of-in, with_part-and_then}
use Rattle.ilk_cnf.proofs.Extending.{no_more_if, only_from_if}
use Rattle.ilk_ints.specs.Bits.{bit_count, lowest_bits_of, assigned_bits_from_var}
use Rattle.ilk_ints.specs.Number.{value_lit_part, bits_have_value, value_bit_lits}
use Rattle.ilk_ints.proofs.BitsLaw.{is-law, has_value-exact, value_bit_lits-in, bit_is-exact}
use Rattle.ilk_ints.specs.Named.{value_lits_part_from, value_lits_part, one_hot_bits, one_hot_var_bits}

pub values_step : (f g : Formula) (lits whole : List Literal) (l : Literal) (first range v : ℕ) → v < range →
    l ≡ positive_lit (f.vars + 1) → g ≡ with_part f (value_lit_part first range v f.vars) →
    lits ++ (value_lits_part_from first range v (range - v) f.vars).lits ≡ whole →
    ((lits ++ l ∷ []) ++ (value_lits_part_from first range (v + 1) (range - (v + 1)) g.vars).lits ≡ whole) ×
    (with_part g (value_lits_part_from first range (v + 1) (range - (v + 1)) g.vars).part
    ≡ with_part f (value_lits_part_from first range v (range - v) f.vars).part)
values_step f g lits whole l first range v less is made h =
    let n = f.vars in
    let j = range - (v + 1) in
    let more : suc j ≡ range - v = omega arith in (
      append_assoc lits (l ∷ []) (value_lits_part_from first range (v + 1) j g.vars).lits
          ∙ ap (λ (m : Literal). lits ++ m ∷ (value_lits_part_from first range (v + 1) j g.vars).lits) is
          ∙ ap (λ (k : Formula). lits ++ positive_lit (n + 1) ∷ (value_lits_part_from first range (v + 1) j k.vars).lits) made
          ∙ ap (λ (k : ℕ). lits ++ (value_lits_part_from first range v k n).lits) more
          ∙ h,
      ap (λ (k : Formula). with_part k (value_lits_part_from first range (v + 1) j k.vars).part) made
          ∙ with_part-and_then f (value_lit_part first range v n) (λ m. (value_lits_part_from first range (v + 1) j m).part)
          ∙ ap (λ (k : ℕ). with_part f (value_lits_part_from first range v k n).part) more,
    )

pub values-low : (j first range v n : ℕ) → (value_lits_part_from first range v j n).part.vars ≡ n + j
values-low zero first range v n = omega arith
values-low (suc j) first range v n = let h = values-low j first range (v + 1) (n + 1) in omega arith

pub values-in : (j first range v n : ℕ) → 0 < first → first + bit_count range ≤ n + 1 → are_clauses_over (value_lits_part_from first range v j n).part.vars (value_lits_part_from first range v j n).part.clauses ≡ true
values-in zero first range v n low high = refl
values-in (suc j) first range v n low high =
    let rest = value_lits_part_from first range (v + 1) j (n + 1) in
    let end : n + 1 ≤ rest.part.vars = omega (arith, values-low j first range (v + 1) (n + 1)) in
    list_all-append (is_clause_over rest.part.vars) (value_lit_part first range v n).clauses rest.part.clauses
    ∙ and_from _ _ (are_clauses_over-more (n + 1) rest.part.vars (value_lit_part first range v n).clauses end (all_of-in n (value_bit_lits first range v) (value_bit_lits-in n first range v low high)))
    (values-in j first range (v + 1) (n + 1) low (omega arith))

pub values-lits_in : (j first range v n m : ℕ) → n + j ≤ m → is_clause_over m (value_lits_part_from first range v j n).lits ≡ true
values-lits_in zero first range v n m high = refl
values-lits_in (suc j) first range v n m high =
    and_from _ _ (is_lit_over-more (n + 1) m (positive_lit (n + 1)) (omega arith) (new-in n true)) (values-lits_in j first range (v + 1) (n + 1) m (omega arith))

pub assigned_bits_from_var-left : (b : ℕ) (a c : List Bool) (first : ℕ) → first + b ≤ length a + 1 → assigned_bits_from_var (a ++ c) first b ≡ assigned_bits_from_var a first b
assigned_bits_from_var-left zero a c first h = refl
assigned_bits_from_var-left (suc b) a c first h =
    let here = value-left a c first (omega arith) in
    let rest = assigned_bits_from_var-left b a c (first + 1) (omega arith) in
    rw (here, rest) refl

pub length-one_hot_bits : (w v j : ℕ) → length (one_hot_bits w v j) ≡ j
length-one_hot_bits w v zero = refl
length-one_hot_bits w v (suc j) = ap suc (length-one_hot_bits w (v + 1) j)

pub values-law : (j : ℕ) (a : List Bool) (first range v w n : ℕ) → length a ≡ n → 0 < first →
    first + bit_count range ≤ n + 1 → range ≤ 2 ^ bit_count range → w < range → v + j ≤ range →
    assigned_bits_from_var a first (bit_count range) ≡ lowest_bits_of (bit_count range) w →
    ExtensionsAreExactly a (value_lits_part_from first range v j n).part.vars (value_lits_part_from first range v j n).part.clauses
    (EqualsGivenValues (one_hot_bits w v j))
values-law zero a first range v w n size low high enough less upto is = only_from_if a n [] [] (no_more_if a n [] true size refl)
values-law (suc j) a first range v w n size low high enough less upto is =
    let rest = value_lits_part_from first range (v + 1) j (n + 1) in
    let q = bits_have_value a first range v in
    let here : q ≡ eqb w v = has_value-exact a first range v w enough (omega arith) less is in
    let one : ExtensionsAreExactly a (n + 1) (value_lit_part first range v n).clauses (EqualsGivenValues (eqb w v ∷ [])) =
    subst (λ (e : Bool). ExtensionsAreExactly a (n + 1) (value_lit_part first range v n).clauses (EqualsGivenValues (e ∷ []))) here (is-law a first range v n size low high) in
    let long : length (a ++ eqb w v ∷ []) ≡ n + 1 = length-append a (eqb w v ∷ []) ∙ ap (λ (k : ℕ). k + 1) size in
    let kept : assigned_bits_from_var (a ++ eqb w v ∷ []) first (bit_count range) ≡ lowest_bits_of (bit_count range) w = assigned_bits_from_var-left (bit_count range) a (eqb w v ∷ []) first (rw size high) ∙ is in
    let next = values-law j (a ++ eqb w v ∷ []) first range (v + 1) w (n + 1) long low (omega arith) enough less (omega arith) kept in
    let fits : length a ≤ n + 1 = omega (arith, size) in
    let end : n + 1 ≤ rest.part.vars = omega (arith, values-low j first range (v + 1) (n + 1)) in
    one_by_one a (eqb w v ∷ []) (one_hot_bits w (v + 1) j) (n + 1) rest.part.vars (value_lit_part first range v n).clauses rest.part.clauses fits end (all_of-in n (value_bit_lits first range v) (value_bit_lits-in n first range v low high)) one next

pub values-say : (j : ℕ) (a c : List Bool) (first range v w n : ℕ) → length a ≡ n → map (is_true (a ++ (one_hot_bits w v j ++ c))) (value_lits_part_from first range v j n).lits ≡ one_hot_bits w v j
values-say zero a c first range v w n size = refl
values-say (suc j) a c first range v w n size =
    let q = eqb w v in
    let here : value (a ++ q ∷ (one_hot_bits w (v + 1) j ++ c)) (n + 1) ≡ q = value-new a (one_hot_bits w (v + 1) j ++ c) q (n + 1) (ap (λ (k : ℕ). k + 1) size) in
    let long : length (a ++ q ∷ []) ≡ n + 1 = length-append a (q ∷ []) ∙ ap (λ (k : ℕ). k + 1) size in
    let rest = values-say j (a ++ q ∷ []) c first range (v + 1) w (n + 1) long in
    let moved :
    map (is_true (a ++ q ∷ (one_hot_bits w (v + 1) j ++ c)))
    (value_lits_part_from first range (v + 1) j (n + 1)).lits
    ≡ one_hot_bits w (v + 1) j =
    subst
    (λ (u : List Bool). map (is_true u) (value_lits_part_from first range (v + 1) j (n + 1)).lits
    ≡ one_hot_bits w (v + 1) j)
    (append_assoc a (q ∷ []) (one_hot_bits w (v + 1) j ++ c)) rest in
    rw (here, moved) refl

pub value_lits_part-low : (first range n : ℕ) → n ≤ (value_lits_part first range n).part.vars
value_lits_part-low first range n = by_case (range == 2)
  where
    by_case : (h : Bool) → n ≤ (cond h (record { part = empty_part n; lits = (record { var = first; positive = (0 == 1) }) ∷ (record { var = first; positive = (1 == 1) }) ∷ [] }) (value_lits_part_from first range 0 range n)).part.vars
    by_case true = omega arith
    by_case false = omega (arith, values-low range first range 0 n)

pub value_lits_part-law : (a : List Bool) (first range w n : ℕ) → length a ≡ n → 0 < first →
    first + bit_count range ≤ n + 1 → range ≤ 2 ^ bit_count range → w < range →
    assigned_bits_from_var a first (bit_count range) ≡ lowest_bits_of (bit_count range) w →
    ExtensionsAreExactly a (value_lits_part first range n).part.vars (value_lits_part first range n).part.clauses
    (EqualsGivenValues (one_hot_var_bits range w))
value_lits_part-law a first range w n size low high enough less is = by_case (range == 2)
  where
    by_case : (h : Bool) →
        ExtensionsAreExactly a
        (cond h
        (record {
          part = empty_part n;
          lits = (record { var = first; positive = (0 == 1) })
              ∷ (record { var = first; positive = (1 == 1) }) ∷ [];
        })
        (value_lits_part_from first range 0 range n)).part.vars
        (cond h
        (record {
          part = empty_part n;
          lits = (record { var = first; positive = (0 == 1) })
              ∷ (record { var = first; positive = (1 == 1) }) ∷ [];
        })
        (value_lits_part_from first range 0 range n)).part.clauses
        (EqualsGivenValues (cond h [] (one_hot_bits w 0 range)))
    by_case true = only_from_if a n [] [] (no_more_if a n [] true size refl)
    by_case false = values-law range a first range 0 w n size low high enough less (omega arith) is

pub value_lits_part-say : (a c : List Bool) (first range w n : ℕ) → length a ≡ n →
    first + bit_count range ≤ n + 1 → range ≤ 2 ^ bit_count range → w < range →
    assigned_bits_from_var a first (bit_count range) ≡ lowest_bits_of (bit_count range) w →
    map (is_true (a ++ (one_hot_var_bits range w ++ c))) (value_lits_part first range n).lits ≡ one_hot_bits w 0 range
value_lits_part-say a c first range w n size high enough less is = by_case (range == 2) refl
  where
    by_case : (h : Bool) → (range == 2) ≡ h →
        map (is_true (a ++ (cond h [] (one_hot_bits w 0 range) ++ c)))
        (cond h
        (record {
          part = empty_part n;
          lits = (record { var = first; positive = (0 == 1) })
              ∷ (record { var = first; positive = (1 == 1) }) ∷ [];
        })
        (value_lits_part_from first range 0 range n)).lits
        ≡ one_hot_bits w 0 range
    by_case true h =
        let two : range ≡ 2 = eqb-true range 2 h in
        let long : first + bit_count range ≤ length a + 1 = rw size high in
        let kept : assigned_bits_from_var (a ++ c) first (bit_count range) ≡ lowest_bits_of (bit_count range) w = assigned_bits_from_var-left (bit_count range) a c first long ∙ is in
        let one : (v : ℕ) → v < 2 → is_true (a ++ c) (record { var = first; positive = (v == 1) }) ≡ eqb w v =
        λ v small. bit_is-exact (a ++ c) first v small
        ∙ ap (λ (r : ℕ). bits_have_value (a ++ c) first r v) (sym two)
        ∙ has_value-exact (a ++ c) first range v w enough (omega (arith, two, small)) less kept in
        let zeroth = one 0 (omega arith) in
        let first_one = one 1 (omega arith) in
        let both : map (is_true (a ++ c)) ((record { var = first; positive = (0 == 1) }) ∷ (record { var = first; positive = (1 == 1) }) ∷ []) ≡ one_hot_bits w 0 2 = cc in
        both ∙ ap (λ (r : ℕ). one_hot_bits w 0 r) (sym two)
    by_case false h = values-say range a c first range 0 w n size
