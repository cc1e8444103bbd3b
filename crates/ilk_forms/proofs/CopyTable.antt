-- The literals of a copy are over its formula, and its variables have their ranges.
use Rattle.std.proofs.Common.{◌≡◌, ℕ, ◌+◌, ◌^◌, ◌<◌, ◌≤◌, zero, suc, Bool, true, false, ◌&&◌, List, [], ◌∷◌, length, take, refl, inl, inr, sym, subst, arith, ltb, eqb}
use Rattle.std.proofs.lemmas.Bool.{and_parts, and_from, eqb-true, eqb-false, ltb-true, cases_lt}
use Rattle.ilk_cnf.specs.Literal.{Literal}
use Rattle.ilk_cnf.specs.Formula.{is_clause_over}
use Rattle.ilk_cnf.proofs.Literals.{is_lit_over-more, is_clause_over-more}
use Rattle.ilk_ints.specs.Bits.{bit_count}
use Rattle.ilk_ints.specs.AtMost.{at_most_lit_part, at_most_lit}
use Rattle.ilk_ints.specs.Named.{value_lits_part, bound_count, bound_lits_part_from, bound_lits_part}
use Rattle.ilk_ints.proofs.AtMostLaw.{bits_some}
use Rattle.ilk_ints.proofs.ValuesLaw.{value_lits_part-low}
use Rattle.ilk_ints.proofs.BoundsLaw.{at_most-low, at_most-is_lit_over, bounds-low}
use Rattle.ilk_ints.proofs.TableParts.{bit_count-enough, value_lits_part-lits_in, length-value_lits_part, bound_lits_part-low}
use Rattle.ilk_forms.specs.declared.copy.VarValueAndBoundLits.{VarValueAndBoundLits}
use Rattle.ilk_forms.specs.declared.copy.TheConstants.{MAX_RANGES}
use Rattle.ilk_forms.specs.Copy.{FormulaPartAndAllVarLits, var_lits_part, system_var_part, range_class_part, range_classes_below_part, no_lits_for_each_var, copy_part}
use Rattle.ilk_forms.proofs.ColumnLaw.{ranges_fit, system_var-low, class-low}
use Rattle.ilk_forms.specs.Leaf.{has_lits_within_vars, ranges_of_copy_lits}
use Rattle.ilk_forms.proofs.Reading.{has_lits_within_vars-more}

bounds-lits_in : (es : List Literal) (first range k n : ℕ) (below : Literal) → 0 < first →
    0 < bit_count range → first + bit_count range ≤ n + 1 →
    is_clause_over (bound_lits_part_from first range below k es n).part.vars (bound_lits_part_from first range below k es n).lits
    ≡ true
bounds-lits_in [] first range k n below low some high = refl
bounds-lits_in (e ∷ es) first range k n below low some high =
    let m = (at_most_lit_part range k below e n).vars in
    let l = at_most_lit first range k n in
    let end = (bound_lits_part_from first range l (k + 1) es m).part.vars in
    let grows : n ≤ m = at_most-low range k n below e in
    and_from _ _ (is_lit_over-more m end l (bounds-low es first range (k + 1) m l) (at_most-is_lit_over first range k n below e low some high)) (bounds-lits_in es first range (k + 1) m l low some (omega (arith, high, grows)))

bound_lits_part-lits_in : (values : List Literal) (first range n : ℕ) → 0 < first → first + bit_count range ≤ n + 1 → range ≤ 2 ^ bit_count range →
    is_clause_over (bound_lits_part first range values n).part.vars (bound_lits_part first range values n).lits ≡ true
bound_lits_part-lits_in [] first range n low high enough = refl
bound_lits_part-lits_in (e ∷ es) first range n low high enough =
    elim (cases_lt 1 range) [
      | inl more ↦ bounds-lits_in (take (bound_count range) es) first range 1 n e low (bits_some range (bit_count range) more enough) high
      | inr one ↦
          (let none : 0 ≡ bound_count range = omega arith in
          subst (λ (j : ℕ). is_clause_over (bound_lits_part_from first range e 1 (take j es) n).part.vars (bound_lits_part_from first range e 1 (take j es) n).lits ≡ true) none refl)
    ]

abbrev ColumnIn : ℕ → VarValueAndBoundLits → Type 0
ColumnIn n column = (is_clause_over n column.values && is_clause_over n column.bounds) ≡ true

column-more : (m n : ℕ) (column : VarValueAndBoundLits) → m ≤ n → ColumnIn m column → ColumnIn n column
column-more m n column le h =
    let two = and_parts (is_clause_over m column.values) (is_clause_over m column.bounds) h in
    and_from _ _ (is_clause_over-more m n column.values le two.0) (is_clause_over-more m n column.bounds le two.1)

column-lits_in : (first range n : ℕ) → 0 < first → first + bit_count range ≤ n + 1 → range ≤ 2 ^ bit_count range → ColumnIn (var_lits_part first range n).part.vars (var_lits_part first range n).column
column-lits_in first range n low high enough =
    let v = value_lits_part first range n in
    let m = v.part.vars in
    let end = (bound_lits_part first range v.lits m).part.vars in
    let grows : n ≤ m = value_lits_part-low first range n in
    and_from _ _ (is_clause_over-more m end v.lits (bound_lits_part-low v.lits first range m) (value_lits_part-lits_in first range n low high)) (bound_lits_part-lits_in v.lits first range m low (omega (arith, high, grows)) enough)

abbrev LitsIn : FormulaPartAndAllVarLits → Type 0
LitsIn p = has_lits_within_vars p.part.vars p.columns ≡ true

class-lits_in : (r : ℕ) (ranges : List ℕ) (columns : List VarValueAndBoundLits) (n : ℕ) → r ≤ 2 ^ bit_count r → has_lits_within_vars n columns ≡ true → LitsIn (range_class_part r ranges columns n)
class-lits_in r [] columns n enough h = refl
class-lits_in r (range ∷ ranges) [] n enough h = refl
class-lits_in r (range ∷ ranges) (column ∷ columns) n enough h =
    by_case (eqb range r) refl (λ m low. class-lits_in r ranges columns m enough (has_lits_within_vars-more n m columns low (and_parts _ _ h).1))
  where
    by_case : (b : Bool) → eqb range r ≡ b → ((m : ℕ) → n ≤ m → LitsIn (range_class_part r ranges columns m)) → LitsIn (range_class_part r (range ∷ ranges) (column ∷ columns) n)
    by_case true e rest =
        let here : range ≤ 2 ^ bit_count range = subst (λ (k : ℕ). k ≤ 2 ^ bit_count k) (sym (eqb-true range r e)) enough in
        let p = system_var_part range n in
        let m = p.part.vars in
        let end = (range_class_part r ranges columns m).part.vars in
        let one : ColumnIn m p.column = column-lits_in (n + 1) range (n + bit_count range) (omega arith) (omega arith) here in
        rw e (and_from _ _ (column-more m end p.column (class-low r ranges columns m) one) (rest m (system_var-low range n)))
    by_case false e rest =
        let end = (range_class_part r ranges columns n).part.vars in
        rw e (and_from _ _ (column-more n end column (class-low r ranges columns n) (and_parts (is_clause_over n column.values && is_clause_over n column.bounds) (has_lits_within_vars n columns) h).0) (rest n (omega arith)))

below-lits_in : (k : ℕ) (ranges : List ℕ) (columns : List VarValueAndBoundLits) (n : ℕ) → k ≤ 256 → has_lits_within_vars n columns ≡ true → LitsIn (range_classes_below_part k ranges columns n)
below-lits_in zero ranges columns n few h = h
below-lits_in (suc r) ranges columns n few h =
    let p = range_class_part r ranges columns n in
    below-lits_in r ranges p.columns p.part.vars (omega arith) (class-lits_in r ranges columns n (bit_count-enough r (omega arith)) h)

none-lits_in : (ranges : List ℕ) (n : ℕ) → has_lits_within_vars n (no_lits_for_each_var ranges) ≡ true
none-lits_in [] n = refl
none-lits_in (range ∷ ranges) n = none-lits_in ranges n

pub copy-lits_in : (ranges : List ℕ) (n : ℕ) → ranges_fit ranges ≡ true → has_lits_within_vars (copy_part ranges n).part.vars (copy_part ranges n).columns ≡ true
unfolding copy_part
copy-lits_in ranges n fit = below-lits_in MAX_RANGES ranges (no_lits_for_each_var ranges) n (omega arith) (none-lits_in ranges n)

-- Holds if each variable with a range from `k` on has a literal for each value.
abbrev HaveRangesFrom : ℕ → List VarValueAndBoundLits → List ℕ → Type 0
HaveRangesFrom k [] [] = Unit {0}
HaveRangesFrom k [] (range ∷ ranges) = ⊥
HaveRangesFrom k (column ∷ columns) [] = ⊥
HaveRangesFrom k (column ∷ columns) (range ∷ ranges) = (k ≤ range → length column.values ≡ range) × HaveRangesFrom k columns ranges

class-ranges : (r : ℕ) (ranges : List ℕ) (columns : List VarValueAndBoundLits) (n : ℕ) → HaveRangesFrom (suc r) columns ranges → HaveRangesFrom r (range_class_part r ranges columns n).columns ranges
class-ranges r [] columns n h = tt
class-ranges r (range ∷ ranges) [] n h = h
class-ranges r (range ∷ ranges) (column ∷ columns) n h = by_case (eqb range r) refl (λ m. class-ranges r ranges columns m h.1)
  where
    by_case : (b : Bool) → eqb range r ≡ b → ((m : ℕ) → HaveRangesFrom r (range_class_part r ranges columns m).columns ranges) → HaveRangesFrom r (range_class_part r (range ∷ ranges) (column ∷ columns) n).columns (range ∷ ranges)
    by_case true e rest = rw e (λ _. length-value_lits_part (n + 1) range (n + bit_count range), rest (system_var_part range n).part.vars)
    by_case false e rest = rw e (λ low. h.0 (above (eqb-false range r e) low), rest n)
      where
        above : (range ≡ r → ⊥) → r ≤ range → suc r ≤ range
        above other low = omega arith

below-ranges : (k : ℕ) (ranges : List ℕ) (columns : List VarValueAndBoundLits) (n : ℕ) → HaveRangesFrom k columns ranges → HaveRangesFrom 0 (range_classes_below_part k ranges columns n).columns ranges
below-ranges zero ranges columns n h = h
below-ranges (suc r) ranges columns n h =
    let p = range_class_part r ranges columns n in
    below-ranges r ranges p.columns p.part.vars (class-ranges r ranges columns n h)

none-ranges : (k : ℕ) (ranges : List ℕ) → 256 ≡ k → ranges_fit ranges ≡ true → HaveRangesFrom k (no_lits_for_each_var ranges) ranges
none-ranges k [] is fit = tt
none-ranges k (range ∷ ranges) is fit = (let parts = and_parts (ltb range 256) (ranges_fit ranges) fit in (λ low. absurd (omega (arith, ltb-true range 256 parts.0)), none-ranges k ranges is parts.1))

all-ranges : (columns : List VarValueAndBoundLits) (ranges : List ℕ) → HaveRangesFrom 0 columns ranges → ranges_of_copy_lits columns ≡ ranges
all-ranges [] [] h = refl
all-ranges [] (range ∷ ranges) h = absurd h
all-ranges (column ∷ columns) [] h = absurd h
all-ranges (column ∷ columns) (range ∷ ranges) h = rw (h.0 (omega arith), all-ranges columns ranges h.1) refl

pub copy-ranges : (ranges : List ℕ) (n : ℕ) → ranges_fit ranges ≡ true → ranges_of_copy_lits (copy_part ranges n).columns ≡ ranges
unfolding copy_part
copy-ranges ranges n fit = all-ranges (range_classes_below_part MAX_RANGES ranges (no_lits_for_each_var ranges) n).columns ranges (below-ranges MAX_RANGES ranges (no_lits_for_each_var ranges) n (none-ranges MAX_RANGES ranges refl fit))
