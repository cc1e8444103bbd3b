use Rattle.std.proofs.Common.{◌≡◌, ℕ, ◌+◌, ◌-◌, ◌*◌, ◌^◌, ◌≤◌, zero, suc, Bool, true, false, List, [], ◌∷◌, Option, Some, None, unwrap_or, length, take, cond, refl, arith, leb, eqb}
use Rattle.std.specs.List.{find, range_with_len}
use Rattle.std.specs.Prelude.{sum, min}
use Rattle.std.proofs.lemmas.Bool.{eqb-true}
use Rattle.std.proofs.lemmas.List.{length-take}
use Rattle.std.proofs.lemmas.List.Sums.{sum_by-cons}
use Rattle.ilk_base.proofs.Ranges.{find-within}
use Rattle.ilk_cnf.specs.Literal.{Literal}
use Rattle.ilk_cnf.specs.Part.{FormulaPart, empty_part, or_gate_part}
use Rattle.ilk_ints.specs.Bits.{bit_count}
use Rattle.ilk_ints.specs.AtMost.{at_most_lit_part, at_most_lit, highest_bit_decides}
use Rattle.ilk_ints.specs.Named.{value_lits_part, bound_count, bound_lits_part_from, bound_lits_part}
use Rattle.ilk_ints.proofs.ValuesLaw.{values-low}
use Rattle.ilk_ints.proofs.TableParts.{named-end}
use Rattle.ilk_forms.specs.Copy.{var_lits_part, copy_part, copy_var_count}
use Rattle.ilk_forms.proofs.CopyWidth.{copy-most}

bit_count-few : (range : ℕ) → bit_count range ≤ 8
bit_count-few range = by_case (find (λ b. leb range (2 ^ b)) (range_with_len 0 8)) refl
  where
    by_case : (o : Option ℕ) → find (λ b. leb range (2 ^ b)) (range_with_len 0 8) ≡ o → unwrap_or o 8 ≤ 8
    by_case None h = omega arith
    by_case (Some b) h = (let less = find-within (λ k. leb range (2 ^ k)) 0 8 b h in omega arith)

pub bit_count-below : (range : ℕ) → bit_count range ≤ range
bit_count-below zero = omega arith
bit_count-below (suc zero) = omega arith
bit_count-below (suc (suc zero)) = omega arith
bit_count-below (suc (suc (suc zero))) = omega arith
bit_count-below (suc (suc (suc (suc zero)))) = omega arith
bit_count-below (suc (suc (suc (suc (suc zero))))) = omega arith
bit_count-below (suc (suc (suc (suc (suc (suc zero)))))) = omega arith
bit_count-below (suc (suc (suc (suc (suc (suc (suc zero))))))) = omega arith
bit_count-below (suc (suc (suc (suc (suc (suc (suc (suc range)))))))) = (let few = bit_count-few (suc (suc (suc (suc (suc (suc (suc (suc range)))))))) in omega arith)

at_most-few : (range k n : ℕ) (below equal : Literal) → (at_most_lit_part range k below equal n).vars ≤ n + 1
at_most-few range k n below equal = by_case (highest_bit_decides range k)
  where
    by_case : (b : Bool) → (cond {A = FormulaPart} b (empty_part n) (or_gate_part (below ∷ equal ∷ []) n)).vars ≤ n + 1
    by_case true = omega arith
    by_case false = omega arith

bound_lits_part_from-few : (es : List Literal) (first range k n : ℕ) (below : Literal) → (bound_lits_part_from first range below k es n).part.vars ≤ n + length es
bound_lits_part_from-few [] first range k n below = omega arith
bound_lits_part_from-few (e ∷ es) first range k n below =
    let m = (at_most_lit_part range k below e n).vars in
    let one = at_most-few range k n below e in
    let rest = bound_lits_part_from-few es first range (k + 1) m (at_most_lit first range k n) in
    omega arith

bounds-few : (values : List Literal) (first range n : ℕ) → (bound_lits_part first range values n).part.vars ≤ n + bound_count range
bounds-few [] first range n = omega arith
bounds-few (e ∷ es) first range n =
    let few = bound_lits_part_from-few (take (bound_count range) es) first range 1 n e in
    omega (arith, few, length-take (bound_count range) es)

values-two : (first range n : ℕ) → eqb range 2 ≡ true → (value_lits_part first range n).part.vars ≡ n
values-two first range n e = rw e refl

values-all : (first range n : ℕ) → eqb range 2 ≡ false → (value_lits_part first range n).part.vars ≡ n + range
values-all first range n e = rw e (values-low range first range 0 n)

least : (a b : ℕ) → (min a b ≤ a) × (min a b ≤ b)
least a b = (omega arith, omega arith)

column-few : (first range n : ℕ) → (var_lits_part first range n).part.vars + bit_count range ≤ n + 2 * range
column-few first range n = by_case (eqb range 2) refl
  where
    m : ℕ
    m = (value_lits_part first range n).part.vars

    bits : bit_count range ≤ range
    bits = bit_count-below range

    few : (var_lits_part first range n).part.vars ≤ m + bound_count range
    few = bounds-few (value_lits_part first range n).lits first range m

    by_case : (b : Bool) → eqb range 2 ≡ b → (var_lits_part first range n).part.vars + bit_count range ≤ n + 2 * range
    by_case true h =
        let is : range ≡ 2 = eqb-true range 2 h in
        let none : m ≡ n = values-two first range n h in
        let bounds : bound_count range ≤ range - 3 = (least (range - 3) (range - bit_count range)).0 in
        omega (arith, is, none, few, bounds, bits)
    by_case false h =
        let all : m ≡ n + range = values-all first range n h in
        let bounds : bound_count range ≤ range - bit_count range = (least (range - 3) (range - bit_count range)).1 in
        omega (arith, all, few, bounds, bits)

pub width-few : (ranges : List ℕ) → copy_var_count ranges ≤ 2 * sum ranges
width-few [] = omega arith
width-few (range ∷ ranges) =
    let all : sum (range ∷ ranges) ≡ range + sum ranges = sum_by-cons (λ (x : ℕ). x) range ranges in
    omega (arith, named-end 1 range 0, column-few 1 range 0, width-few ranges, all)

pub copy-few : (ranges : List ℕ) (n : ℕ) → (copy_part ranges n).part.vars ≤ n + 2 * sum ranges
copy-few ranges n = omega (arith, copy-most ranges n, width-few ranges)
