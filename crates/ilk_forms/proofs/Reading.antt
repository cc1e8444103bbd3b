-- Each valid leaf has a literal that says its value, and a bound's literal says the bound.
use Rattle.std.proofs.Common.{◌≡◌, ℕ, ◌+◌, ◌<◌, ◌≤◌, zero, suc, Bool, true, ◌&&◌, List, [], ◌∷◌, ◌++◌, length, map, slice_get, Some, unwrap_or, refl, ap, ◌∙◌, eqb, ltb, arith}
use Rattle.std.proofs.lemmas.Bool.{and_parts, and_from, false≢true, leb-true, ltb-true, lt-ltb}
use Rattle.ilk_base.proofs.Tested.{list_all-slice_get}
use Rattle.ilk_cnf.specs.Literal.{Literal, positive_lit}
use Rattle.ilk_cnf.specs.Formula.{is_lit_over, is_clause_over}
use Rattle.ilk_cnf.specs.Truth.{is_true}
use Rattle.ilk_cnf.proofs.Literals.{is_clause_over-more}
use Rattle.ilk_cnf.proofs.Parts.{is_true-left}
use Rattle.ilk_ints.specs.Named.{one_hot_bits}
use Rattle.ilk_ir.specs.Tree.{value_valid, is_value_of_var}
use Rattle.ilk_ir.specs.System.{in_ranges}
use Rattle.ilk_forms.specs.declared.copy.VarValueAndBoundLits.{VarValueAndBoundLits}
use Rattle.ilk_forms.specs.Copy.{LiteralsEncode}
use Rattle.ilk_forms.specs.Leaf.{value_lit, has_lits_within_vars, ranges_of_copy_lits}
use Rattle.ilk_forms.specs.Bound.{bound_lit, copy_has_bound_lit}
use Rattle.ilk_forms.proofs.BoundForms.{Stands, at_most, stands-left}
use Rattle.ilk_forms.proofs.BoundLaw.{bound-says, bound-in}

pub has_lits_within_vars-more : (m n : ℕ) (columns : List VarValueAndBoundLits) → m ≤ n → has_lits_within_vars m columns ≡ true → has_lits_within_vars n columns ≡ true
has_lits_within_vars-more m n [] le h = refl
has_lits_within_vars-more m n (column ∷ columns) le h =
    let parts = and_parts _ _ h in
    let two = and_parts _ _ parts.0 in
    and_from _ _ (and_from _ _ (is_clause_over-more m n column.values le two.0) (is_clause_over-more m n column.bounds le two.1)) (has_lits_within_vars-more m n columns le parts.1)

less : (c n : ℕ) → ltb (suc c) (suc n) ≡ true → ltb c n ≡ true
less c n h = let k = ltb-true (suc c) (suc n) h in lt-ltb c n (omega arith)

item-in : (n : ℕ) (ls : List Literal) (c : ℕ) → is_clause_over n ls ≡ true → ltb c (length ls) ≡ true → is_lit_over n (unwrap_or (slice_get ls c) (positive_lit 0)) ≡ true
item-in n [] c h k = absurd (omega (arith, ltb-true c 0 k))
item-in n (l ∷ ls) zero h k = (and_parts _ _ h).0
item-in n (l ∷ ls) (suc c) h k = item-in n ls c (and_parts _ _ h).1 (less c (length ls) k)

pub value_lit-in : (columns : List VarValueAndBoundLits) (v c n : ℕ) → has_lits_within_vars n columns ≡ true → value_valid (ranges_of_copy_lits columns) v c ≡ true → is_lit_over n (value_lit columns v c) ≡ true
value_lit-in [] v c n h k = absurd (false≢true k)
value_lit-in (column ∷ columns) zero c n h k = item-in n column.values c (and_parts _ _ (and_parts _ _ h).0).0 k
value_lit-in (column ∷ columns) (suc v) c n h k = value_lit-in columns v c n (and_parts _ _ h).1 k

pub read-in : (columns : List VarValueAndBoundLits) (v c n : ℕ) (column : VarValueAndBoundLits) (l : Literal) → slice_get columns v ≡ Some column → slice_get column.values c ≡ Some l → has_lits_within_vars n columns ≡ true → is_lit_over n l ≡ true
read-in columns v c n column l h k inside =
    let here = list_all-slice_get (λ (k : VarValueAndBoundLits). is_clause_over n k.values && is_clause_over n k.bounds) columns v column inside h in
    list_all-slice_get (is_lit_over n) column.values c l (and_parts _ _ here).0 k

item-says : (a : List Bool) (ls : List Literal) (w v j c : ℕ) → map (is_true a) ls ≡ one_hot_bits w v j → ltb c (length ls) ≡ true → is_true a (unwrap_or (slice_get ls c) (positive_lit 0)) ≡ eqb w (v + c)
item-says a [] w v j c h k = absurd (omega (arith, ltb-true c 0 k))
item-says a (l ∷ ls) w v zero c h k = cc
item-says a (l ∷ ls) w v (suc j) zero h k =
    let here : is_true a l ≡ eqb w v = cc in
    let same : v ≡ v + 0 = omega arith in
    here ∙ ap (eqb w) same
item-says a (l ∷ ls) w v (suc j) (suc c) h k =
    let rest : map (is_true a) ls ≡ one_hot_bits w (v + 1) j = cc in
    let same : v + 1 + c ≡ v + suc c = omega arith in
    item-says a ls w (v + 1) j c rest (less c (length ls) k) ∙ ap (eqb w) same

pub value_lit-says : (a : List Bool) (columns : List VarValueAndBoundLits) (ranges ws : List ℕ) (v c : ℕ) → LiteralsEncode a columns ranges ws → value_valid (ranges_of_copy_lits columns) v c ≡ true
    → is_true a (value_lit columns v c) ≡ is_value_of_var ws v c
value_lit-says a [] ranges ws v c h k = absurd (false≢true k)
value_lit-says a (column ∷ columns) [] ws v c h k = absurd h
value_lit-says a (column ∷ columns) (range ∷ ranges) [] v c h k = absurd h
value_lit-says a (column ∷ columns) (range ∷ ranges) (w ∷ ws) zero c h k = (let same : 0 + c ≡ c = omega arith in item-says a column.values w 0 range c h.0 k ∙ ap (eqb w) same)
value_lit-says a (column ∷ columns) (range ∷ ranges) (w ∷ ws) (suc v) c h k = value_lit-says a columns ranges ws v c h.2 k

-- Holds if the literals say the values and bounds of the copy's variables.
pub record Reads (a : List Bool) (columns : List VarValueAndBoundLits) (ranges ws : List ℕ) : Type 0 where
  pub within : has_lits_within_vars (length a) columns ≡ true
  pub says : (v c : ℕ) → value_valid (ranges_of_copy_lits columns) v c ≡ true → is_true a (value_lit columns v c) ≡ is_value_of_var ws v c
  pub bounded : (v k : ℕ) → value_valid (ranges_of_copy_lits columns) v k ≡ true → 0 < k → Stands a (bound_lit columns v k) (copy_has_bound_lit ranges v k) (at_most ws v k)

pub reads : (a : List Bool) (columns : List VarValueAndBoundLits) (ranges ws : List ℕ) (n : ℕ) → length a ≡ n → has_lits_within_vars n columns ≡ true → LiteralsEncode a columns ranges ws → in_ranges ws ranges ≡ true → Reads a columns ranges ws
reads a columns ranges ws n size inside h fit = record {
  within = rw size inside;
  says = λ v c k. value_lit-says a columns ranges ws v c h k;
  bounded = λ v k valid some. bound-says a columns ranges ws v k h fit valid some;
}

pub reads-more : (a b : List Bool) (columns : List VarValueAndBoundLits) (ranges ws : List ℕ) → length a ≤ length (a ++ b) → Reads a columns ranges ws → Reads (a ++ b) columns ranges ws
reads-more a b columns ranges ws le r = record {
  within = has_lits_within_vars-more (length a) (length (a ++ b)) columns le r.within;
  says = λ v c k. is_true-left a b (value_lit columns v c) (leb-true _ _ (and_parts _ _ (value_lit-in columns v c (length a) r.within k)).1) ∙ r.says v c k;
  bounded = λ v k valid some. stands-left a b (bound_lit columns v k) (copy_has_bound_lit ranges v k) (at_most ws v k) (λ l e. leb-true _ _ (and_parts _ _ (bound-in columns v k (length a) l r.within e)).1) (r.bounded v k valid some);
}
