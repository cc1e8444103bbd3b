-- An Or of a variable's values up to one holds exactly if the copy's literal for that bound is
-- true.
use Rattle.std.proofs.Common.{◌≡◌, ℕ, zero, suc, ◌+◌, ◌-◌, ◌<◌, Bool, true, false, not, ◌&&◌, ◌||◌, List, [], ◌∷◌, length, map, cond, slice_get, Option, Some, None, option_map, inl, inr, refl, sym, ap, ◌∙◌, subst, eqb, ltb, leb, arith}
use Rattle.std.specs.Option.{option_and_then}
use Rattle.std.proofs.lemmas.List.{length-map}
use Rattle.std.proofs.lemmas.Bool.{and_parts, false≢true, eqb-true, ltb-true, lt-ltb, le-ltb, cases_lt}
use Rattle.ilk_base.specs.Option.{is_some_and}
use Rattle.ilk_base.proofs.Options.{bind_some, mapped-Some}
use Rattle.ilk_base.proofs.Tested.{list_all-slice_get}
use Rattle.ilk_cnf.specs.Literal.{Literal, negated_lit}
use Rattle.ilk_cnf.specs.Formula.{is_lit_over, is_clause_over}
use Rattle.ilk_cnf.specs.Truth.{is_true}
use Rattle.ilk_cnf.proofs.Gates.{is_true-negated_lit}
use Rattle.ilk_ints.specs.Named.{one_hot_bits, bound_bits, bound_count}
use Rattle.ilk_ints.proofs.ValuesLaw.{length-one_hot_bits}
use Rattle.ilk_ir.specs.Tree.{Trees, some_holds, each_valid, value_valid}
use Rattle.ilk_ir.specs.System.{in_ranges}
use Rattle.ilk_forms.specs.declared.copy.VarValueAndBoundLits.{VarValueAndBoundLits}
use Rattle.ilk_forms.specs.Copy.{LiteralsEncode}
use Rattle.ilk_forms.specs.declared.bound.VarUpperBound.{VarUpperBound}
use Rattle.ilk_forms.specs.Leaf.{has_lits_within_vars, ranges_of_copy_lits}
use Rattle.ilk_forms.specs.Bound.{bound_from_or_of_values, bound_lit_of_var, bound_lit, bound_lit_stated_by_or, copy_has_bound_lit, has_bound_lit_for_or}
use Rattle.ilk_forms.proofs.BoundForms.{Stands, at_most, below, say-bound, stands-as}

shift : (i j : ℕ) → ltb i j ≡ ltb (suc i) (suc j)
shift i j =
    elim (cases_lt i j) [
      | inl less ↦ lt-ltb i j less ∙ sym (lt-ltb (suc i) (suc j) (omega arith))
      | inr after ↦ le-ltb i j after ∙ sym (le-ltb (suc i) (suc j) (omega arith))
    ]

value-stands : (a : List Bool) (ls : List Literal) (w v j i : ℕ) → map (is_true a) ls ≡ one_hot_bits w v j → Stands a (slice_get ls i) (ltb i j) (eqb w (v + i))
value-stands a [] w v zero i h = le-ltb i 0 (omega arith)
value-stands a [] w v (suc j) i h = absurd cc
value-stands a (l ∷ ls) w v zero i h = absurd cc
value-stands a (l ∷ ls) w v (suc j) zero h =
    let here : is_true a l ≡ eqb w v = cc in
    let same : v ≡ v + 0 = omega arith in
    (lt-ltb 0 (suc j) (omega arith), here ∙ ap (eqb w) same)
value-stands a (l ∷ ls) w v (suc j) (suc i) h =
    let rest : map (is_true a) ls ≡ one_hot_bits w (v + 1) j = cc in
    let same : v + 1 + i ≡ v + suc i = omega arith in
    stands-as a (slice_get ls i) (ltb i j) (eqb w (v + 1 + i)) (ltb (suc i) (suc j)) (eqb w (v + suc i)) (shift i j) (ap (eqb w) same) (value-stands a ls w (v + 1) j i rest)

bound-stands : (a : List Bool) (ls : List Literal) (w k j i : ℕ) → map (is_true a) ls ≡ bound_bits w k j → Stands a (slice_get ls i) (ltb i j) (leb w (k + i))
bound-stands a [] w k zero i h = le-ltb i 0 (omega arith)
bound-stands a [] w k (suc j) i h = absurd cc
bound-stands a (l ∷ ls) w k zero i h = absurd cc
bound-stands a (l ∷ ls) w k (suc j) zero h =
    let here : is_true a l ≡ leb w k = cc in
    let same : k ≡ k + 0 = omega arith in
    (lt-ltb 0 (suc j) (omega arith), here ∙ ap (leb w) same)
bound-stands a (l ∷ ls) w k (suc j) (suc i) h =
    let rest : map (is_true a) ls ≡ bound_bits w (k + 1) j = cc in
    let same : k + 1 + i ≡ k + suc i = omega arith in
    stands-as a (slice_get ls i) (ltb i j) (leb w (k + 1 + i)) (ltb (suc i) (suc j)) (leb w (k + suc i)) (shift i j) (ap (leb w) same) (bound-stands a ls w (k + 1) j i rest)

pick_greatest_positive-stands : (a : List Bool) (o : Option Literal) (range w k : ℕ) → k + 2 ≡ range → w < range → Stands a o (ltb (k + 1) range) (eqb w (0 + (k + 1))) → Stands a (option_map negated_lit o) true (leb w k)
pick_greatest_positive-stands a None range w k e less h =
    let there = lt-ltb (k + 1) range (omega arith) in
    absurd (false≢true (sym h ∙ there))
pick_greatest_positive-stands a (Some l) range w k e less h = (refl, is_true-negated_lit a l ∙ ap not h.1 ∙ below w k (omega arith))

column-says : (a : List Bool) (column : VarValueAndBoundLits) (range w k : ℕ) →
    map (is_true a) column.values ≡ one_hot_bits w 0 range →
    map (is_true a) column.bounds ≡ bound_bits w 1 (bound_count range) → w < range → 0 < k →
    Stands a (bound_lit_of_var column k) (eqb (k + 2) range || ltb (k - 1) (bound_count range)) (leb w k)
column-says a column range w k values bounds less some =
    subst
    (λ (n : ℕ). Stands a
    (cond (eqb (k + 2) n) (option_map negated_lit (slice_get column.values (k + 1)))
    (slice_get column.bounds (k - 1)))
    (eqb (k + 2) range || ltb (k - 1) (bound_count range)) (leb w k)) (sym long)
    (by_case (eqb (k + 2) range) refl)
  where
    long : length column.values ≡ range
    long = sym (length-map column.values (is_true a)) ∙ ap length values ∙ length-one_hot_bits w 0 range

    by_case : (b : Bool) → eqb (k + 2) range ≡ b → Stands a (cond b (option_map negated_lit (slice_get column.values (k + 1))) (slice_get column.bounds (k - 1))) (b || ltb (k - 1) (bound_count range)) (leb w k)
    by_case true e = pick_greatest_positive-stands a (slice_get column.values (k + 1)) range w k (eqb-true (k + 2) range e) less (value-stands a column.values w 0 range (k + 1) values)
    by_case false e =
        let same : 1 + (k - 1) ≡ k = omega arith in
        stands-as a (slice_get column.bounds (k - 1)) (ltb (k - 1) (bound_count range)) (leb w (1 + (k - 1))) (ltb (k - 1) (bound_count range)) (leb w k) refl (ap (leb w) same) (bound-stands a column.bounds w 1 (bound_count range) (k - 1) bounds)

pub bound-says : (a : List Bool) (columns : List VarValueAndBoundLits) (ranges ws : List ℕ) (v k : ℕ) →
    LiteralsEncode a columns ranges ws → in_ranges ws ranges ≡ true →
    value_valid (ranges_of_copy_lits columns) v k ≡ true → 0 < k →
    Stands a (bound_lit columns v k) (copy_has_bound_lit ranges v k) (at_most ws v k)
bound-says a [] ranges ws v k h inside valid some = absurd (false≢true valid)
bound-says a (column ∷ columns) [] ws v k h inside valid some = absurd h
bound-says a (column ∷ columns) (range ∷ ranges) [] v k h inside valid some = absurd h
bound-says a (column ∷ columns) (range ∷ ranges) (w ∷ ws) zero k h inside valid some =
    let parts = and_parts (ltb w range) (in_ranges ws ranges) inside in
    column-says a column range w k h.0 h.1 (ltb-true w range parts.0) some
bound-says a (column ∷ columns) (range ∷ ranges) (w ∷ ws) (suc v) k h inside valid some =
    let parts = and_parts (ltb w range) (in_ranges ws ranges) inside in
    bound-says a columns ranges ws v k h.2 parts.1 valid some

column-in : (n : ℕ) (column : VarValueAndBoundLits) (k : ℕ) (l : Literal) → is_clause_over n column.values ≡ true → is_clause_over n column.bounds ≡ true → bound_lit_of_var column k ≡ Some l → is_lit_over n l ≡ true
column-in n column k l values bounds = by_case (eqb (k + 2) (length column.values))
  where
    by_case : (b : Bool) → cond b (option_map negated_lit (slice_get column.values (k + 1))) (slice_get column.bounds (k - 1)) ≡ Some l → is_lit_over n l ≡ true
    by_case true e =
        let m = mapped-Some negated_lit (slice_get column.values (k + 1)) l e in
        let there : is_lit_over n (negated_lit m.0) ≡ true = list_all-slice_get (is_lit_over n) column.values (k + 1) m.0 values m.1 in
        subst (λ (u : Literal). is_lit_over n u ≡ true) m.2 there
    by_case false e = list_all-slice_get (is_lit_over n) column.bounds (k - 1) l bounds e

pub bound-in : (columns : List VarValueAndBoundLits) (v k n : ℕ) (l : Literal) → has_lits_within_vars n columns ≡ true → bound_lit columns v k ≡ Some l → is_lit_over n l ≡ true
bound-in columns v k n l inside e =
    let c = bind_some (slice_get columns v) (λ column. bound_lit_of_var column k) l e in
    let column = c.0 in
    let here = and_parts (is_clause_over n column.values) (is_clause_over n column.bounds) (list_all-slice_get (λ (x : VarValueAndBoundLits). is_clause_over n x.values && is_clause_over n x.bounds) columns v column inside c.1) in
    column-in n column k l here.0 here.1 c.2

pub any-in : (ts : Trees) (columns : List VarValueAndBoundLits) (n : ℕ) (l : Literal) → has_lits_within_vars n columns ≡ true → bound_lit_stated_by_or columns ts ≡ Some l → is_lit_over n l ≡ true
any-in ts columns n l inside e =
    let b = bind_some (bound_from_or_of_values ts) (λ b. bound_lit columns b.var b.most) l e in
    bound-in columns b.0.var b.0.most n l inside b.2

pub any-says : (ts : Trees) (a : List Bool) (columns : List VarValueAndBoundLits) (ranges ws : List ℕ) →
    ((v k : ℕ) → value_valid (ranges_of_copy_lits columns) v k ≡ true → 0 < k →
    Stands a (bound_lit columns v k) (copy_has_bound_lit ranges v k) (at_most ws v k)) →
    each_valid (ranges_of_copy_lits columns) ts ≡ true →
    Stands a (bound_lit_stated_by_or columns ts) (has_bound_lit_for_or ranges ts) (some_holds ws ts)
any-says ts a columns ranges ws bounds valid = by_case (bound_from_or_of_values ts) refl
  where
    by_case : (o : Option VarUpperBound) → bound_from_or_of_values ts ≡ o → Stands a (option_and_then (λ b. bound_lit columns b.var b.most) o) (is_some_and o (λ b. copy_has_bound_lit ranges b.var b.most)) (some_holds ws ts)
    by_case None e = refl
    by_case (Some b) e =
        let said = say-bound ts b e in
        let has = copy_has_bound_lit ranges b.var b.most in
        stands-as a (bound_lit columns b.var b.most) has (at_most ws b.var b.most) has (some_holds ws ts) refl (sym (said.holds ws)) (bounds b.var b.most (said.valid (ranges_of_copy_lits columns) valid) said.some)
