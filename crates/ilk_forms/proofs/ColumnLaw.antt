-- The variables of one system variable have exactly the bits of a value in range.
use Rattle.std.proofs.Common.{◌≡◌, ℕ, ◌+◌, ◌^◌, ◌<◌, ◌≤◌, zero, suc, Bool, true, false, ◌&&◌, List, [], ◌∷◌, ◌++◌, length, map, refl, sym, ap, ◌∙◌, subst, arith, ltb, eqb}
use Rattle.std.proofs.lemmas.List.{append-nil}
use Rattle.std.proofs.lemmas.List.Folds.{list_all-append}
use Rattle.std.proofs.lemmas.Bool.{and_from, eqb-true}
use Rattle.ilk_cnf.specs.Formula.{is_clause_over, are_clauses_over}
use Rattle.ilk_cnf.specs.Truth.{is_true}
use Rattle.ilk_cnf.specs.Extends.{ExtensionsAreExactly, EqualsGivenValues, AreValuesOfConsecutiveParts}
use Rattle.ilk_cnf.specs.Part.{FormulaPart}
use Rattle.ilk_cnf.proofs.Literals.{are_clauses_over-more}
use Rattle.ilk_cnf.proofs.Parts.{in_turn, in_words, one_by_one}
use Rattle.ilk_ints.specs.Bits.{bit_count, lowest_bits_of, assigned_bits_from_var}
use Rattle.ilk_ints.specs.Number.{number_part, AreBitsInRange}
use Rattle.ilk_ints.specs.Named.{value_lits_part, bound_lits_part, one_hot_var_bits, at_most_vars_bits, bound_count, one_hot_bits}
use Rattle.ilk_ints.proofs.BitsLaw.{length-bits}
use Rattle.ilk_ints.proofs.NumberLaw.{number-law, non_value_clauses-in, assigned_bits_from_var-new}
use Rattle.ilk_ints.proofs.ValuesLaw.{value_lits_part-low, value_lits_part-law, value_lits_part-say, assigned_bits_from_var-left}
use Rattle.ilk_ints.proofs.BoundsPart.{bound_lits_part-law}
use Rattle.ilk_ints.proofs.TableParts.{bit_count-enough, value_lits_part-in, value_lits_part-lits_in, length-value_lits_part, bound_lits_part-low, bound_lits_part-in}
use Rattle.ilk_forms.specs.declared.copy.VarValueAndBoundLits.{VarValueAndBoundLits}
use Rattle.ilk_forms.specs.declared.copy.TheConstants.{MAX_RANGES}
use Rattle.ilk_forms.specs.Copy.{FormulaPartAndAllVarLits, var_lits_part, system_var_part, range_class_part, range_classes_below_part, no_lits_for_each_var, copy_part, system_var_bits}

abbrev pub ranges_fit : List ℕ → Bool
ranges_fit [] = true
ranges_fit (range ∷ ranges) = ltb range 256 && ranges_fit ranges

pub column-law : (a : List Bool) (first range w n : ℕ) → length a ≡ n → 0 < first →
    first + bit_count range ≤ n + 1 → range ≤ 2 ^ bit_count range → w < range →
    assigned_bits_from_var a first (bit_count range) ≡ lowest_bits_of (bit_count range) w →
    ExtensionsAreExactly a
    (bound_lits_part first range (value_lits_part first range n).lits
    (value_lits_part first range n).part.vars).part.vars
    ((value_lits_part first range n).part.clauses
    ++
    (bound_lits_part first range (value_lits_part first range n).lits
    (value_lits_part first range n).part.vars).part.clauses)
    (EqualsGivenValues (one_hot_var_bits range w ++ at_most_vars_bits range w 1 (bound_count range)))
column-law a first range w n size low high enough less is =
    let v = value_lits_part first range n in
    let m = v.part.vars in
    let b = bound_lits_part first range v.lits m in
    let e = one_hot_var_bits range w in
    let one : ExtensionsAreExactly a m v.part.clauses (EqualsGivenValues e) = value_lits_part-law a first range w n size low high enough less is in
    let long : length (a ++ e) ≡ m = one.sized e refl in
    let grows : n ≤ m = value_lits_part-low first range n in
    let kept : assigned_bits_from_var (a ++ e) first (bit_count range) ≡ lowest_bits_of (bit_count range) w = assigned_bits_from_var-left (bit_count range) a e first (rw size high) ∙ is in
    let end : a ++ (e ++ []) ≡ a ++ e = ap (λ (u : List Bool). a ++ u) (append-nil e) in
    let says : map (is_true (a ++ e)) v.lits ≡ one_hot_bits w 0 range = subst (λ (u : List Bool). map (is_true u) v.lits ≡ one_hot_bits w 0 range) end (value_lits_part-say a [] first range w n size high enough less is) in
    let two : ExtensionsAreExactly (a ++ e) b.part.vars b.part.clauses (EqualsGivenValues (at_most_vars_bits range w 1 (bound_count range))) =
    bound_lits_part-law v.lits (a ++ e) first range w m long low (omega (arith, high, grows)) enough
    (length-value_lits_part first range n) (value_lits_part-lits_in first range n low high) less kept says in
    let fits : length a ≤ m = rw size grows in
    one_by_one a e (at_most_vars_bits range w 1 (bound_count range)) m b.part.vars v.part.clauses b.part.clauses fits (bound_lits_part-low v.lits first range m) (value_lits_part-in first range n low high) one two

column-in : (first range n : ℕ) → 0 < first → first + bit_count range ≤ n + 1 → range ≤ 2 ^ bit_count range →
    are_clauses_over
    (bound_lits_part first range (value_lits_part first range n).lits
    (value_lits_part first range n).part.vars).part.vars
    ((value_lits_part first range n).part.clauses
    ++
    (bound_lits_part first range (value_lits_part first range n).lits
    (value_lits_part first range n).part.vars).part.clauses) ≡ true
column-in first range n low high enough =
    let v = value_lits_part first range n in
    let m = v.part.vars in
    let b = bound_lits_part first range v.lits m in
    let grows : n ≤ m = value_lits_part-low first range n in
    list_all-append (is_clause_over b.part.vars) v.part.clauses b.part.clauses
    ∙ and_from _ _
    (are_clauses_over-more m b.part.vars v.part.clauses (bound_lits_part-low v.lits first range m)
    (value_lits_part-in first range n low high))
    (bound_lits_part-in v.lits first range m low (omega (arith, high, grows)) enough
    (value_lits_part-lits_in first range n low high))

pub column-low : (first range n : ℕ) → n ≤ (bound_lits_part first range (value_lits_part first range n).lits (value_lits_part first range n).part.vars).part.vars
column-low first range n =
    let one = value_lits_part-low first range n in
    let two = bound_lits_part-low (value_lits_part first range n).lits first range (value_lits_part first range n).part.vars in
    omega arith

number-in : (range n : ℕ) → are_clauses_over (number_part range n).vars (number_part range n).clauses ≡ true
number-in range n = non_value_clauses-in (n + bit_count range) (n + 1) range (omega arith) (omega arith)

pub system_var-low : (range n : ℕ) → n ≤ (system_var_part range n).part.vars
system_var-low range n = let h = column-low (n + 1) range (n + bit_count range) in omega arith

pub system_var-in : (range n : ℕ) → range ≤ 2 ^ bit_count range → are_clauses_over (system_var_part range n).part.vars (system_var_part range n).part.clauses ≡ true
system_var-in range n enough =
    let p = number_part range n in
    let named = (var_lits_part (n + 1) range p.vars).part in
    list_all-append (is_clause_over named.vars) p.clauses named.clauses
    ∙ and_from _ _ (are_clauses_over-more p.vars named.vars p.clauses (column-low (n + 1) range p.vars) (number-in range n))
    (column-in (n + 1) range p.vars (omega arith) (omega arith) enough)

pub bits-new : (a : List Bool) (range w n : ℕ) → length a ≡ n → assigned_bits_from_var (a ++ lowest_bits_of (bit_count range) w) (n + 1) (bit_count range) ≡ lowest_bits_of (bit_count range) w
bits-new a range w n size =
    let qs = lowest_bits_of (bit_count range) w in
    ap (λ (k : ℕ). assigned_bits_from_var (a ++ qs) (n + 1) k) (sym (length-bits (bit_count range) w))
    ∙ assigned_bits_from_var-new qs a (n + 1) (ap (λ (k : ℕ). k + 1) size)

abbrev pub AreVarBits : ℕ → List Bool → Type 0
AreVarBits range b = (w : ℕ) × (w < range) × (b ≡ system_var_bits range w)

pub system_var-law : (range : ℕ) (a : List Bool) (n : ℕ) → length a ≡ n → range ≤ 2 ^ bit_count range → ExtensionsAreExactly a (system_var_part range n).part.vars (system_var_part range n).part.clauses (AreVarBits range)
system_var-law range a n size enough =
    in_words a (system_var_part range n).part.vars (system_var_part range n).part.clauses _ (AreVarBits range) to from
    (in_turn a p.vars named.vars p.clauses named.clauses (AreBitsInRange range) after (rw size (omega arith))
    (column-low (n + 1) range p.vars) (number-in range n) first next)
  where
    p : FormulaPart
    p = number_part range n

    named : FormulaPart
    named = (var_lits_part (n + 1) range p.vars).part

    after : (b : List Bool) → AreBitsInRange range b → List Bool → Type 0
    after b h = EqualsGivenValues (one_hot_var_bits range h.0 ++ at_most_vars_bits range h.0 1 (bound_count range))

    first : ExtensionsAreExactly a p.vars p.clauses (AreBitsInRange range)
    first = number-law a range n enough size

    next : (b : List Bool) → (h : AreBitsInRange range b) → ExtensionsAreExactly (a ++ b) named.vars named.clauses (after b h)
    next b h =
        let has = subst (λ (u : List Bool). assigned_bits_from_var (a ++ u) (n + 1) (bit_count range) ≡ lowest_bits_of (bit_count range) h.0) (sym h.2) (bits-new a range h.0 n size) in
        column-law (a ++ b) (n + 1) range h.0 p.vars (first.sized b h) (omega arith) (omega arith) enough h.1 has

    to : (d : List Bool) → AreValuesOfConsecutiveParts (AreBitsInRange range) after d → AreVarBits range d
    to d h = (h.3.0, h.3.1, h.2 ∙ ap (λ (u : List Bool). u ++ h.1) h.3.2 ∙ ap (λ (u : List Bool). lowest_bits_of (bit_count range) h.3.0 ++ u) h.4)

    from : (d : List Bool) → AreVarBits range d → AreValuesOfConsecutiveParts (AreBitsInRange range) after d
    from d h = (lowest_bits_of (bit_count range) h.0, one_hot_var_bits range h.0 ++ at_most_vars_bits range h.0 1 (bound_count range), h.2, (h.0, h.1, refl), refl)

pub class-low : (r : ℕ) (ranges : List ℕ) (columns : List VarValueAndBoundLits) (n : ℕ) → n ≤ (range_class_part r ranges columns n).part.vars
class-low r [] columns n = omega arith
class-low r (range ∷ ranges) [] n = omega arith
class-low r (range ∷ ranges) (column ∷ columns) n = by_case (eqb range r) refl (class-low r ranges columns)
  where
    by_case : (b : Bool) → eqb range r ≡ b → ((m : ℕ) → m ≤ (range_class_part r ranges columns m).part.vars) → n ≤ (range_class_part r (range ∷ ranges) (column ∷ columns) n).part.vars
    by_case true h rest = rw h (omega (arith, system_var-low range n, rest (system_var_part range n).part.vars))
    by_case false h rest = rw h (rest n)

pub below-low : (k : ℕ) (ranges : List ℕ) (columns : List VarValueAndBoundLits) (n : ℕ) → n ≤ (range_classes_below_part k ranges columns n).part.vars
below-low zero ranges columns n = omega arith
below-low (suc r) ranges columns n =
    let p = range_class_part r ranges columns n in
    let one = class-low r ranges columns n in
    let rest = below-low r ranges p.columns p.part.vars in
    omega (arith, one, rest)

pub copy-low : (ranges : List ℕ) (n : ℕ) → n ≤ (copy_part ranges n).part.vars
unfolding copy_part
copy-low ranges n = below-low MAX_RANGES ranges (no_lits_for_each_var ranges) n

abbrev Inside : FormulaPartAndAllVarLits → Type 0
Inside p = are_clauses_over p.part.vars p.part.clauses ≡ true

pub class-in : (r : ℕ) (ranges : List ℕ) (columns : List VarValueAndBoundLits) (n : ℕ) → r ≤ 2 ^ bit_count r → are_clauses_over (range_class_part r ranges columns n).part.vars (range_class_part r ranges columns n).part.clauses ≡ true
class-in r [] columns n enough = refl
class-in r (range ∷ ranges) [] n enough = refl
class-in r (range ∷ ranges) (column ∷ columns) n enough = by_case (eqb range r) refl (λ m. class-in r ranges columns m enough)
  where
    by_case : (b : Bool) → eqb range r ≡ b → ((m : ℕ) → Inside (range_class_part r ranges columns m)) → Inside (range_class_part r (range ∷ ranges) (column ∷ columns) n)
    by_case true h rest_in =
        let here : range ≤ 2 ^ bit_count range = subst (λ (k : ℕ). k ≤ 2 ^ bit_count k) (sym (eqb-true range r h)) enough in
        let p = (system_var_part range n).part in
        let rest = (range_class_part r ranges columns p.vars).part in
        rw h
        (list_all-append (is_clause_over rest.vars) p.clauses rest.clauses
        ∙ and_from _ _ (are_clauses_over-more p.vars rest.vars p.clauses (class-low r ranges columns p.vars) (system_var-in range n here))
        (rest_in p.vars))
    by_case false h rest_in = rw h (rest_in n)

pub below-in : (k : ℕ) (ranges : List ℕ) (columns : List VarValueAndBoundLits) (n : ℕ) → k ≤ 256 → are_clauses_over (range_classes_below_part k ranges columns n).part.vars (range_classes_below_part k ranges columns n).part.clauses ≡ true
below-in zero ranges columns n few = refl
below-in (suc r) ranges columns n few =
    let p = range_class_part r ranges columns n in
    let rest = (range_classes_below_part r ranges p.columns p.part.vars).part in
    list_all-append (is_clause_over rest.vars) p.part.clauses rest.clauses
    ∙ and_from _ _ (are_clauses_over-more p.part.vars rest.vars p.part.clauses (below-low r ranges p.columns p.part.vars) (class-in r ranges columns n (bit_count-enough r (omega arith))))
    (below-in r ranges p.columns p.part.vars (omega arith))

pub copy-in : (ranges : List ℕ) (n : ℕ) → ranges_fit ranges ≡ true → are_clauses_over (copy_part ranges n).part.vars (copy_part ranges n).part.clauses ≡ true
unfolding copy_part
copy-in ranges n fit = below-in MAX_RANGES ranges (no_lits_for_each_var ranges) n (omega arith)
