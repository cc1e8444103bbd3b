-- A copy has exactly the values in range, and each further variable has one value.
use Rattle.std.proofs.Common.{◌≡◌, ℕ, ◌^◌, ◌<◌, ◌≤◌, zero, suc, Bool, true, false, cond, List, [], ◌∷◌, ◌++◌, length, refl, sym, ap, ◌∙◌, subst, arith, ltb, eqb}
use Rattle.std.specs.List.{list_all}
use Rattle.std.proofs.lemmas.Bool.{and_parts, and_from, false≢true, eqb-true, eqb-false, ltb-true, lt-ltb}
use Rattle.ilk_cnf.specs.Extends.{ExtensionsAreExactly, EqualsGivenValues, AreValuesOfConsecutiveParts}
use Rattle.ilk_cnf.proofs.Parts.{in_turn, in_words}
use Rattle.ilk_cnf.proofs.Extending.{no_more_if, only_from_if}
use Rattle.ilk_ints.specs.Bits.{bit_count}
use Rattle.ilk_ints.proofs.TableParts.{bit_count-enough}
use Rattle.ilk_ir.specs.System.{in_ranges}
use Rattle.ilk_forms.specs.declared.copy.VarValueAndBoundLits.{VarValueAndBoundLits}
use Rattle.ilk_forms.specs.declared.copy.TheConstants.{MAX_RANGES}
use Rattle.ilk_forms.specs.Copy.{system_var_part, range_class_part, range_classes_below_part, no_lits_for_each_var, copy_part, system_var_bits, range_class_bits, range_classes_below_bits, copy_bits, AreCopyBits}
use Rattle.ilk_forms.proofs.ColumnLaw.{ranges_fit, AreVarBits, system_var-low, system_var-in, system_var-law, class-low, class-in, below-low}
use Rattle.ilk_forms.proofs.CopyWidth.{class-length, no_lits_for_each_var-length}

pub ranges_fit-small : (ranges : List ℕ) → list_all (λ range. ltb range 256) ranges ≡ true → ranges_fit ranges ≡ true
ranges_fit-small [] h = refl
ranges_fit-small (range ∷ ranges) h = (let parts = and_parts _ _ h in and_from _ _ parts.0 (ranges_fit-small ranges parts.1))

-- Holds if there is a value for each range, below it if `P` holds for the range.
abbrev pub InRangesIf : (ℕ → Type 0) → List ℕ → List ℕ → Type 0
InRangesIf P [] [] = Unit {0}
InRangesIf P [] (range ∷ ranges) = ⊥
InRangesIf P (w ∷ ws) [] = ⊥
InRangesIf P (w ∷ ws) (range ∷ ranges) = (P range → w < range) × InRangesIf P ws ranges

abbrev pub InClass : ℕ → List ℕ → List ℕ → Type 0
InClass r ws ranges = InRangesIf (λ range. range ≡ r) ws ranges

abbrev pub InBelow : ℕ → List ℕ → List ℕ → Type 0
InBelow k ws ranges = InRangesIf (λ range. range < k) ws ranges

if-more : (P Q : ℕ → Type 0) → ((range : ℕ) → Q range → P range) → (ws ranges : List ℕ) → InRangesIf P ws ranges → InRangesIf Q ws ranges
if-more P Q f [] [] h = tt
if-more P Q f [] (range ∷ ranges) h = h
if-more P Q f (w ∷ ws) [] h = h
if-more P Q f (w ∷ ws) (range ∷ ranges) h = (λ q. h.0 (f range q), if-more P Q f ws ranges h.1)

pub below-class : (r : ℕ) (ws ranges : List ℕ) → InBelow (suc r) ws ranges → InClass r ws ranges
below-class r ws ranges h = if-more (λ range. range < suc r) (λ range. range ≡ r) (λ range e. omega arith) ws ranges h

below-below : (r : ℕ) (ws ranges : List ℕ) → InBelow (suc r) ws ranges → InBelow r ws ranges
below-below r ws ranges h = if-more (λ range. range < suc r) (λ range. range < r) (λ range less. omega arith) ws ranges h

pub below-all : (k : ℕ) (ws ranges : List ℕ) → in_ranges ws ranges ≡ true → InBelow k ws ranges
below-all k [] [] h = tt
below-all k [] (range ∷ ranges) h = absurd (false≢true h)
below-all k (w ∷ ws) [] h = absurd (false≢true h)
below-all k (w ∷ ws) (range ∷ ranges) h = (let parts = and_parts _ _ h in (λ _. ltb-true w range parts.0, below-all k ws ranges parts.1))

all-below : (k : ℕ) (ws ranges : List ℕ) → 256 ≡ k → ranges_fit ranges ≡ true → InBelow k ws ranges → in_ranges ws ranges ≡ true
all-below k [] [] is fit h = refl
all-below k [] (range ∷ ranges) is fit h = absurd h
all-below k (w ∷ ws) [] is fit h = absurd h
all-below k (w ∷ ws) (range ∷ ranges) is fit h =
    let parts = and_parts _ _ fit in
    let small : range < k = subst (λ (j : ℕ). range < j) is (ltb-true range 256 parts.0) in
    and_from _ _ (lt-ltb w range (h.0 small)) (all-below k ws ranges is parts.1 h.1)

bits-taken : (r range w : ℕ) (ranges ws : List ℕ) → eqb range r ≡ true → range_class_bits r (range ∷ ranges) (w ∷ ws) ≡ system_var_bits range w ++ range_class_bits r ranges ws
bits-taken r range w ranges ws h = rw h refl

bits-passed : (r range w : ℕ) (ranges ws : List ℕ) → eqb range r ≡ false → range_class_bits r (range ∷ ranges) (w ∷ ws) ≡ range_class_bits r ranges ws
bits-passed r range w ranges ws h = rw h refl

abbrev pub AreClassBits : ℕ → List ℕ → List Bool → Type 0
AreClassBits r ranges b = (ws : List ℕ) × InClass r ws ranges × (b ≡ range_class_bits r ranges ws)

abbrev ClassLaw : ℕ → List ℕ → List VarValueAndBoundLits → List Bool → ℕ → Type 0
ClassLaw r ranges columns a n = ExtensionsAreExactly a (range_class_part r ranges columns n).part.vars (range_class_part r ranges columns n).part.clauses (AreClassBits r ranges)

class-taken : (r range : ℕ) (ranges : List ℕ) (column : VarValueAndBoundLits) (columns : List VarValueAndBoundLits) (a : List Bool) (n : ℕ) →
    eqb range r ≡ true → length a ≡ n → range ≤ 2 ^ bit_count range →
    ((b : List Bool) (m : ℕ) → length b ≡ m → ClassLaw r ranges columns b m) → ClassLaw r (range ∷ ranges) (column ∷ columns) a n
class-taken r range ranges column columns a n h size enough rest =
    let p = (system_var_part range n).part in
    let more = (range_class_part r ranges columns p.vars).part in
    let first = system_var-law range a n size enough in
    rw h
    (in_words a more.vars (p.clauses ++ more.clauses) _ (AreClassBits r (range ∷ ranges)) to (λ b k. from b k.0 k.1 k.2)
    (in_turn a p.vars more.vars p.clauses more.clauses (AreVarBits range) (λ b _. AreClassBits r ranges)
    (rw size (system_var-low range n)) (class-low r ranges columns p.vars) (system_var-in range n enough) first
    (λ b k. rest (a ++ b) p.vars (first.sized b k))))
  where
    to : (b : List Bool) → AreValuesOfConsecutiveParts (AreVarBits range) (λ b _. AreClassBits r ranges) b → AreClassBits r (range ∷ ranges) b
    to b k =
        (k.3.0 ∷ k.4.0, (λ _. k.3.1, k.4.1), k.2 ∙ ap (λ (u : List Bool). u ++ k.1) k.3.2 ∙ ap (λ (u : List Bool). system_var_bits range k.3.0 ++ u) k.4.2 ∙ sym (bits-taken r range k.3.0 ranges k.4.0 h))

    from : (b : List Bool) (ws : List ℕ) → InClass r ws (range ∷ ranges) → b ≡ range_class_bits r (range ∷ ranges) ws → AreValuesOfConsecutiveParts (AreVarBits range) (λ b _. AreClassBits r ranges) b
    from b [] k e = absurd k
    from b (w ∷ ws) k e =
        (system_var_bits range w, range_class_bits r ranges ws, e ∙ bits-taken r range w ranges ws h, (w, k.0 (eqb-true range r h), refl), (ws, k.1, refl))

class-passed : (r range : ℕ) (ranges : List ℕ) (column : VarValueAndBoundLits) (columns : List VarValueAndBoundLits) (a : List Bool) (n : ℕ) →
    eqb range r ≡ false → ClassLaw r ranges columns a n → ClassLaw r (range ∷ ranges) (column ∷ columns) a n
class-passed r range ranges column columns a n h rest =
    let p = (range_class_part r ranges columns n).part in
    rw h (in_words a p.vars p.clauses (AreClassBits r ranges) (AreClassBits r (range ∷ ranges)) to (λ b k. from b k.0 k.1 k.2) rest)
  where
    to : (b : List Bool) → AreClassBits r ranges b → AreClassBits r (range ∷ ranges) b
    to b k = (0 ∷ k.0, (λ e. absurd (eqb-false range r h e), k.1), k.2 ∙ sym (bits-passed r range 0 ranges k.0 h))

    from : (b : List Bool) (ws : List ℕ) → InClass r ws (range ∷ ranges) → b ≡ range_class_bits r (range ∷ ranges) ws → AreClassBits r ranges b
    from b [] k e = absurd k
    from b (w ∷ ws) k e = (ws, k.1, e ∙ bits-passed r range w ranges ws h)

pub class-law : (r : ℕ) (ranges : List ℕ) (columns : List VarValueAndBoundLits) (a : List Bool) (n : ℕ) → length a ≡ n → length columns ≡ length ranges → r ≤ 2 ^ bit_count r → ClassLaw r ranges columns a n
class-law r [] columns a n size same enough = in_words a n [] (EqualsGivenValues []) (AreClassBits r []) (λ b h. ([], tt, h)) (λ b h. h.2) (only_from_if a n [] [] (no_more_if a n [] true size refl))
class-law r (range ∷ ranges) [] a n size same enough = absurd (omega arith)
class-law r (range ∷ ranges) (column ∷ columns) a n size same enough = by_case (eqb range r) refl (λ b m long. class-law r ranges columns b m long (omega arith) enough)
  where
    by_case : (q : Bool) → eqb range r ≡ q → ((b : List Bool) (m : ℕ) → length b ≡ m → ClassLaw r ranges columns b m) → ClassLaw r (range ∷ ranges) (column ∷ columns) a n
    by_case true h rest = class-taken r range ranges column columns a n h size (subst (λ (k : ℕ). k ≤ 2 ^ bit_count k) (sym (eqb-true range r h)) enough) rest
    by_case false h rest = class-passed r range ranges column columns a n h (rest a n size)

-- The values `ws` of the variables with range `r`, and the values `xs` of the others.
abbrev merge : ℕ → List ℕ → List ℕ → List ℕ → List ℕ
merge r [] ws xs = []
merge r (range ∷ ranges) [] xs = []
merge r (range ∷ ranges) (w ∷ ws) [] = []
merge r (range ∷ ranges) (w ∷ ws) (x ∷ xs) = cond (eqb range r) w x ∷ merge r ranges ws xs

merge-class : (r : ℕ) (ranges ws xs : List ℕ) → InClass r ws ranges → InBelow r xs ranges → range_class_bits r ranges (merge r ranges ws xs) ≡ range_class_bits r ranges ws
merge-class r [] ws xs h k = refl
merge-class r (range ∷ ranges) [] xs h k = refl
merge-class r (range ∷ ranges) (w ∷ ws) [] h k = absurd k
merge-class r (range ∷ ranges) (w ∷ ws) (x ∷ xs) h k = by_case (eqb range r) refl (merge-class r ranges ws xs h.1 k.1)
  where
    by_case : (b : Bool) → eqb range r ≡ b → range_class_bits r ranges (merge r ranges ws xs) ≡ range_class_bits r ranges ws →
        range_class_bits r (range ∷ ranges) (merge r (range ∷ ranges) (w ∷ ws) (x ∷ xs)) ≡ range_class_bits r (range ∷ ranges) (w ∷ ws)
    by_case true e rest = rw e (ap (λ (u : List Bool). system_var_bits range w ++ u) rest)
    by_case false e rest = rw e rest

merge-other : (s r : ℕ) (ranges ws xs : List ℕ) → s < r → InClass r ws ranges → InBelow r xs ranges → range_class_bits s ranges (merge r ranges ws xs) ≡ range_class_bits s ranges xs
merge-other s r [] ws xs less h k = refl
merge-other s r (range ∷ ranges) [] xs less h k = absurd h
merge-other s r (range ∷ ranges) (w ∷ ws) [] less h k = absurd k
merge-other s r (range ∷ ranges) (w ∷ ws) (x ∷ xs) less h k = by_case (eqb range s) (eqb range r) refl refl (merge-other s r ranges ws xs less h.1 k.1)
  where
    by_case : (b d : Bool) → eqb range s ≡ b → eqb range r ≡ d → range_class_bits s ranges (merge r ranges ws xs) ≡ range_class_bits s ranges xs →
        range_class_bits s (range ∷ ranges) (merge r (range ∷ ranges) (w ∷ ws) (x ∷ xs)) ≡ range_class_bits s (range ∷ ranges) (x ∷ xs)
    by_case true true e f rest = absurd (omega (arith, eqb-true range s e, eqb-true range r f))
    by_case true false e f rest = rw (e, f) (ap (λ (u : List Bool). system_var_bits range x ++ u) rest)
    by_case false d e f rest = rw e rest

merge-below : (k r : ℕ) (ranges ws xs : List ℕ) → k ≤ r → InClass r ws ranges → InBelow r xs ranges → range_classes_below_bits k ranges (merge r ranges ws xs) ≡ range_classes_below_bits k ranges xs
merge-below zero r ranges ws xs low h i = refl
merge-below (suc s) r ranges ws xs low h i =
    ap (λ (u : List Bool). u ++ range_classes_below_bits s ranges (merge r ranges ws xs)) (merge-other s r ranges ws xs (omega arith) h i)
    ∙ ap (λ (u : List Bool). range_class_bits s ranges xs ++ u) (merge-below s r ranges ws xs (omega arith) h i)

merge-in : (r : ℕ) (ranges ws xs : List ℕ) → InClass r ws ranges → InBelow r xs ranges → InBelow (suc r) (merge r ranges ws xs) ranges
merge-in r [] ws xs h k = tt
merge-in r (range ∷ ranges) [] xs h k = absurd h
merge-in r (range ∷ ranges) (w ∷ ws) [] h k = absurd k
merge-in r (range ∷ ranges) (w ∷ ws) (x ∷ xs) h k = (λ low. by_case (eqb range r) refl low, merge-in r ranges ws xs h.1 k.1)
  where
    by_case : (b : Bool) → eqb range r ≡ b → range < suc r → cond (eqb range r) w x < range
    by_case true e low = rw e (h.0 (eqb-true range r e))
    by_case false e low = rw e (k.0 (below (eqb-false range r e) low))
      where
        below : (range ≡ r → ⊥) → range < suc r → range < r
        below other less = omega arith

abbrev AreBelowBits : ℕ → List ℕ → List Bool → Type 0
AreBelowBits k ranges b = (ws : List ℕ) × InBelow k ws ranges × (b ≡ range_classes_below_bits k ranges ws)

pub below-law : (k : ℕ) (ranges : List ℕ) (columns : List VarValueAndBoundLits) (a : List Bool) (n : ℕ) → length a ≡ n → length columns ≡ length ranges → k ≤ 256 →
    ExtensionsAreExactly a (range_classes_below_part k ranges columns n).part.vars (range_classes_below_part k ranges columns n).part.clauses (AreBelowBits k ranges)
below-law zero ranges columns a n size same few = in_words a n [] (EqualsGivenValues []) (AreBelowBits zero ranges) (λ b h. (ranges, none ranges, h)) (λ b h. h.2) (only_from_if a n [] [] (no_more_if a n [] true size refl))
  where
    none : (rs : List ℕ) → InBelow zero rs rs
    none [] = tt
    none (range ∷ rs) = (λ less. absurd (omega arith), none rs)
below-law (suc r) ranges columns a n size same few =
    let p = range_class_part r ranges columns n in
    let more = (range_classes_below_part r ranges p.columns p.part.vars).part in
    let enough = bit_count-enough r (omega arith) in
    let first = class-law r ranges columns a n size same enough in
    in_words a more.vars (p.part.clauses ++ more.clauses) _ (AreBelowBits (suc r) ranges) to from
    (in_turn a p.part.vars more.vars p.part.clauses more.clauses (AreClassBits r ranges)
    (λ b _. AreBelowBits r ranges) (rw size (class-low r ranges columns n))
    (below-low r ranges p.columns p.part.vars) (class-in r ranges columns n enough) first
    (λ b h. below-law r ranges p.columns (a ++ b) p.part.vars (first.sized b h)
    (class-length r ranges columns n same) (omega arith)))
  where
    to : (b : List Bool) → AreValuesOfConsecutiveParts (AreClassBits r ranges) (λ b _. AreBelowBits r ranges) b → AreBelowBits (suc r) ranges b
    to b h =
        let ws = h.3.0 in
        let xs = h.4.0 in
        let both = merge r ranges ws xs in
        let first : h.0 ≡ range_class_bits r ranges both = h.3.2 ∙ sym (merge-class r ranges ws xs h.3.1 h.4.1) in
        let rest : h.1 ≡ range_classes_below_bits r ranges both = h.4.2 ∙ sym (merge-below r r ranges ws xs (omega arith) h.3.1 h.4.1) in
        (both, merge-in r ranges ws xs h.3.1 h.4.1, h.2 ∙ ap (λ (u : List Bool). u ++ h.1) first ∙ ap (λ (u : List Bool). range_class_bits r ranges both ++ u) rest)

    from : (b : List Bool) → AreBelowBits (suc r) ranges b → AreValuesOfConsecutiveParts (AreClassBits r ranges) (λ b _. AreBelowBits r ranges) b
    from b h =
        (range_class_bits r ranges h.0, range_classes_below_bits r ranges h.0, h.2, (h.0, below-class r h.0 ranges h.1, refl), (h.0, below-below r h.0 ranges h.1, refl))

pub copy-law : (ranges : List ℕ) (a : List Bool) (n : ℕ) → length a ≡ n → ranges_fit ranges ≡ true → ExtensionsAreExactly a (copy_part ranges n).part.vars (copy_part ranges n).part.clauses (AreCopyBits ranges)
unfolding copy_part copy_bits
copy-law ranges a n size fit =
    let p = (range_classes_below_part MAX_RANGES ranges (no_lits_for_each_var ranges) n).part in
    in_words a p.vars p.clauses (AreBelowBits MAX_RANGES ranges) (AreCopyBits ranges)
    (λ b h. (h.0, all-below MAX_RANGES h.0 ranges refl fit h.1, h.2))
    (λ b h. (h.0, below-all MAX_RANGES h.0 ranges h.1, h.2))
    (below-law MAX_RANGES ranges (no_lits_for_each_var ranges) a n size (no_lits_for_each_var-length ranges) (omega arith))
