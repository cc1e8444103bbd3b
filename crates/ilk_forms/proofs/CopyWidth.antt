-- The number of variables of a copy.
use Rattle.std.proofs.Common.{◌≡◌, ℕ, ◌+◌, ◌≤◌, zero, suc, Bool, true, false, List, [], ◌∷◌, length, cond, refl, sym, ap, ◌∙◌, arith, ltb, eqb}
use Rattle.std.proofs.lemmas.Bool.{and_parts, eqb-true, eqb-false, ltb-true, ltb-false, lt-ltb, le-ltb}
use Rattle.std.proofs.lemmas.List.{length-map}
use Rattle.ilk_ints.specs.Bits.{bit_count}
use Rattle.ilk_ints.specs.Named.{value_bound_var_count}
use Rattle.ilk_ints.proofs.TableParts.{named-end}
use Rattle.ilk_forms.specs.declared.copy.VarValueAndBoundLits.{VarValueAndBoundLits}
use Rattle.ilk_forms.specs.declared.copy.TheConstants.{MAX_RANGES}
use Rattle.ilk_forms.specs.Copy.{system_var_part, range_class_part, range_classes_below_part, no_lits_for_each_var, copy_part, copy_var_count}
use Rattle.ilk_forms.proofs.ColumnLaw.{ranges_fit}

abbrev pub var_width : ℕ → ℕ
var_width range = bit_count range + value_bound_var_count range

pub system_var-end : (range n : ℕ) → (system_var_part range n).part.vars ≡ n + var_width range
system_var-end range n = omega (arith, named-end (n + 1) range (n + bit_count range))

abbrev class_width : ℕ → List ℕ → ℕ
class_width r [] = 0
class_width r (range ∷ ranges) = cond (eqb range r) (var_width range) 0 + class_width r ranges

abbrev pub below_width : ℕ → List ℕ → ℕ
below_width k [] = 0
below_width k (range ∷ ranges) = cond (ltb range k) (var_width range) 0 + below_width k ranges

pub class-length : (r : ℕ) (ranges : List ℕ) (columns : List VarValueAndBoundLits) (n : ℕ) → length columns ≡ length ranges → length (range_class_part r ranges columns n).columns ≡ length ranges
class-length r [] columns n same = refl
class-length r (range ∷ ranges) [] n same = same
class-length r (range ∷ ranges) (column ∷ columns) n same = by_case (eqb range r) refl (λ m. class-length r ranges columns m (omega arith))
  where
    by_case : (b : Bool) → eqb range r ≡ b → ((m : ℕ) → length (range_class_part r ranges columns m).columns ≡ length ranges) → length (range_class_part r (range ∷ ranges) (column ∷ columns) n).columns ≡ suc (length ranges)
    by_case true h rest = rw h (ap suc (rest (system_var_part range n).part.vars))
    by_case false h rest = rw h (ap suc (rest n))

class-end : (r : ℕ) (ranges : List ℕ) (columns : List VarValueAndBoundLits) (n : ℕ) → length columns ≡ length ranges → (range_class_part r ranges columns n).part.vars ≡ n + class_width r ranges
class-end r [] columns n same = omega arith
class-end r (range ∷ ranges) [] n same = absurd (omega arith)
class-end r (range ∷ ranges) (column ∷ columns) n same = by_case (eqb range r) refl (λ m. class-end r ranges columns m (omega arith))
  where
    by_case : (b : Bool) → eqb range r ≡ b → ((m : ℕ) → (range_class_part r ranges columns m).part.vars ≡ m + class_width r ranges) →
        (range_class_part r (range ∷ ranges) (column ∷ columns) n).part.vars ≡ n + (cond (eqb range r) (var_width range) 0 + class_width r ranges)
    by_case true h rest = rw h (omega (arith, system_var-end range n, rest (system_var_part range n).part.vars))
    by_case false h rest = rw h (omega (arith, rest n))

below_width-zero : (ranges : List ℕ) → below_width 0 ranges ≡ 0
below_width-zero [] = refl
below_width-zero (range ∷ ranges) = rw (le-ltb range 0 (omega arith)) (omega (arith, below_width-zero ranges))

below_width-suc : (r : ℕ) (ranges : List ℕ) → below_width (suc r) ranges ≡ class_width r ranges + below_width r ranges
below_width-suc r [] = refl
below_width-suc r (range ∷ ranges) = by_case (eqb range r) (ltb range r) refl refl (below_width-suc r ranges)
  where
    by_case : (b d : Bool) → eqb range r ≡ b → ltb range r ≡ d → below_width (suc r) ranges ≡ class_width r ranges + below_width r ranges → below_width (suc r) (range ∷ ranges) ≡ class_width r (range ∷ ranges) + below_width r (range ∷ ranges)
    by_case true true h k rest = absurd (omega (arith, eqb-true range r h, ltb-true range r k))
    by_case true false h k rest = (let now : ltb range (suc r) ≡ true = lt-ltb range (suc r) (omega (arith, eqb-true range r h)) in rw (h, k, now) (omega (arith, rest)))
    by_case false true h k rest = (let now : ltb range (suc r) ≡ true = lt-ltb range (suc r) (omega (arith, ltb-true range r k)) in rw (h, k, now) (omega (arith, rest)))
    by_case false false h k rest = (let now : ltb range (suc r) ≡ false = le-ltb range (suc r) (later (ltb-false range r k) (eqb-false range r h)) in rw (h, k, now) (omega (arith, rest)))
      where
        later : r ≤ range → (range ≡ r → ⊥) → suc r ≤ range
        later low other = omega arith

pub below-end : (k : ℕ) (ranges : List ℕ) (columns : List VarValueAndBoundLits) (n : ℕ) → length columns ≡ length ranges → (range_classes_below_part k ranges columns n).part.vars ≡ n + below_width k ranges
below-end zero ranges columns n same = omega (arith, below_width-zero ranges)
below-end (suc r) ranges columns n same =
    let p = range_class_part r ranges columns n in
    let rest = below-end r ranges p.columns p.part.vars (class-length r ranges columns n same) in
    omega (arith, class-end r ranges columns n same, rest, below_width-suc r ranges)

below_width-all : (k : ℕ) (ranges : List ℕ) → 256 ≡ k → ranges_fit ranges ≡ true → below_width k ranges ≡ copy_var_count ranges
below_width-all k [] is fit = refl
below_width-all k (range ∷ ranges) is fit =
    let parts = and_parts _ _ fit in
    let here : ltb range k ≡ true = ap (ltb range) (sym is) ∙ parts.0 in
    rw here (ap (λ (x : ℕ). var_width range + x) (below_width-all k ranges is parts.1))

below_width-most : (k : ℕ) (ranges : List ℕ) → below_width k ranges ≤ copy_var_count ranges
below_width-most k [] = omega arith
below_width-most k (range ∷ ranges) = by_case (ltb range k) refl (below_width-most k ranges)
  where
    by_case : (b : Bool) → ltb range k ≡ b → below_width k ranges ≤ copy_var_count ranges → below_width k (range ∷ ranges) ≤ copy_var_count (range ∷ ranges)
    by_case true h rest = rw h (omega (arith, rest))
    by_case false h rest = rw h (omega (arith, rest))

pub no_lits_for_each_var-length : (ranges : List ℕ) → length (no_lits_for_each_var ranges) ≡ length ranges
no_lits_for_each_var-length ranges = length-map ranges _

pub copy-end : (ranges : List ℕ) (n : ℕ) → ranges_fit ranges ≡ true → (copy_part ranges n).part.vars ≡ n + copy_var_count ranges
unfolding copy_part
copy-end ranges n fit = below-end MAX_RANGES ranges (no_lits_for_each_var ranges) n (no_lits_for_each_var-length ranges) ∙ ap (λ (x : ℕ). n + x) (below_width-all MAX_RANGES ranges refl fit)

pub copy-most : (ranges : List ℕ) (n : ℕ) → (copy_part ranges n).part.vars ≤ n + copy_var_count ranges
unfolding copy_part
copy-most ranges n = omega (arith, below-end MAX_RANGES ranges (no_lits_for_each_var ranges) n (no_lits_for_each_var-length ranges), below_width-most MAX_RANGES ranges)
