-- The literals of a copy say its values.
use Rattle.std.proofs.Common.{◌≡◌, ℕ, ◌+◌, ◌^◌, ◌<◌, ◌≤◌, zero, suc, Bool, true, false, List, [], ◌∷◌, ◌++◌, length, map, refl, sym, ap, ◌∙◌, subst, arith, ltb, eqb, append_assoc}
use Rattle.std.proofs.lemmas.List.{append-nil}
use Rattle.std.proofs.lemmas.Bool.{and_parts, eqb-true, eqb-false, false≢true, ltb-true}
use Rattle.ilk_cnf.specs.Truth.{is_true}
use Rattle.ilk_cnf.specs.Extends.{ExtensionsAreExactly, EqualsGivenValues}
use Rattle.ilk_ints.specs.Bits.{bit_count, lowest_bits_of, assigned_bits_from_var}
use Rattle.ilk_ints.specs.Number.{number_part}
use Rattle.ilk_ints.specs.Named.{value_lits_part, bound_lits_part, one_hot_var_bits, at_most_vars_bits, bound_count, one_hot_bits, bound_bits}
use Rattle.ilk_ints.proofs.NumberLaw.{number-law}
use Rattle.ilk_ints.proofs.ValuesLaw.{value_lits_part-low, value_lits_part-law, value_lits_part-say, assigned_bits_from_var-left}
use Rattle.ilk_ints.proofs.BoundsPart.{bound_lits_part-say}
use Rattle.ilk_ints.proofs.TableParts.{bit_count-enough, value_lits_part-lits_in, length-value_lits_part}
use Rattle.ilk_ir.specs.System.{in_ranges}
use Rattle.ilk_forms.specs.declared.copy.VarValueAndBoundLits.{VarValueAndBoundLits}
use Rattle.ilk_forms.specs.declared.copy.TheConstants.{MAX_RANGES}
use Rattle.ilk_forms.specs.Copy.{LiteralsEncode, var_lits_part, system_var_part, range_class_part, range_classes_below_part, no_lits_for_each_var, copy_part, system_var_bits, range_class_bits, range_classes_below_bits, copy_bits}
use Rattle.ilk_forms.proofs.ColumnLaw.{ranges_fit, bits-new, system_var-law}
use Rattle.ilk_forms.proofs.CopyLaw.{below-all, below-class, class-law}
use Rattle.ilk_forms.proofs.CopyWidth.{class-length, no_lits_for_each_var-length}

abbrev pub ColumnEncodes : List Bool → VarValueAndBoundLits → ℕ → ℕ → Type 0
ColumnEncodes a column range w = (map (is_true a) column.values ≡ one_hot_bits w 0 range) × (map (is_true a) column.bounds ≡ bound_bits w 1 (bound_count range))

column-say : (a c : List Bool) (first range w n : ℕ) → length a ≡ n → 0 < first →
    first + bit_count range ≤ n + 1 → range ≤ 2 ^ bit_count range → w < range →
    assigned_bits_from_var a first (bit_count range) ≡ lowest_bits_of (bit_count range) w →
    ColumnEncodes (a ++ ((one_hot_var_bits range w ++ at_most_vars_bits range w 1 (bound_count range)) ++ c)) (var_lits_part first range n).column range w
column-say a c first range w n size low reach enough less has =
    let v = value_lits_part first range n in
    let m = v.part.vars in
    let e = one_hot_var_bits range w in
    let f = at_most_vars_bits range w 1 (bound_count range) in
    let one : ExtensionsAreExactly a m v.part.clauses (EqualsGivenValues e) = value_lits_part-law a first range w n size low reach enough less has in
    let long : length (a ++ e) ≡ m = one.sized e refl in
    let grows : n ≤ m = value_lits_part-low first range n in
    let kept : assigned_bits_from_var (a ++ e) first (bit_count range) ≡ lowest_bits_of (bit_count range) w = assigned_bits_from_var-left (bit_count range) a e first (rw size reach) ∙ has in
    let end : a ++ (e ++ []) ≡ a ++ e = ap (λ (u : List Bool). a ++ u) (append-nil e) in
    let says : map (is_true (a ++ e)) v.lits ≡ one_hot_bits w 0 range = subst (λ (u : List Bool). map (is_true u) v.lits ≡ one_hot_bits w 0 range) end (value_lits_part-say a [] first range w n size reach enough less has) in
    let whole_values : a ++ (e ++ (f ++ c)) ≡ a ++ ((e ++ f) ++ c) = ap (λ (u : List Bool). a ++ u) (sym (append_assoc e f c)) in
    let whole_bounds : (a ++ e) ++ (f ++ c) ≡ a ++ ((e ++ f) ++ c) = append_assoc a e (f ++ c) ∙ whole_values in (
      subst (λ (u : List Bool). map (is_true u) v.lits ≡ one_hot_bits w 0 range) whole_values (value_lits_part-say a (f ++ c) first range w n size reach enough less has),
      subst
          (λ (u : List Bool). map (is_true u) (bound_lits_part first range v.lits m).lits
          ≡ bound_bits w 1 (bound_count range)) whole_bounds
          (bound_lits_part-say v.lits (a ++ e) c first range w m long low (omega (arith, reach, grows))
          enough (length-value_lits_part first range n) (value_lits_part-lits_in first range n low reach) less
          kept says),
    )

system_var-say : (a c : List Bool) (range w n : ℕ) → length a ≡ n → range ≤ 2 ^ bit_count range → w < range → ColumnEncodes (a ++ (system_var_bits range w ++ c)) (system_var_part range n).column range w
system_var-say a c range w n size enough less =
    let p = number_part range n in
    let b = lowest_bits_of (bit_count range) w in
    let d = one_hot_var_bits range w ++ at_most_vars_bits range w 1 (bound_count range) in
    let long : length (a ++ b) ≡ p.vars = (number-law a range n enough size).sized b (w, less, refl) in
    let whole : (a ++ b) ++ (d ++ c) ≡ a ++ ((b ++ d) ++ c) = append_assoc a b (d ++ c) ∙ ap (λ (u : List Bool). a ++ u) (sym (append_assoc b d c)) in
    subst (λ (u : List Bool). ColumnEncodes u (system_var_part range n).column range w) whole
    (column-say (a ++ b) c (n + 1) range w p.vars long (omega arith) (omega arith) enough less
    (bits-new a range w n size))

-- Holds if the literals of each variable with a range from `k` on say its value and its bounds.
abbrev EncodeFrom : ℕ → List Bool → List VarValueAndBoundLits → List ℕ → List ℕ → Type 0
EncodeFrom k a [] ranges ws = Unit {0}
EncodeFrom k a (column ∷ columns) [] ws = ⊥
EncodeFrom k a (column ∷ columns) (range ∷ ranges) [] = ⊥
EncodeFrom k a (column ∷ columns) (range ∷ ranges) (w ∷ ws) = (k ≤ range → ColumnEncodes a column range w) × EncodeFrom k a columns ranges ws

abbrev ClassSays : ℕ → List ℕ → List ℕ → List VarValueAndBoundLits → List Bool → Type 0
ClassSays r ranges ws columns whole =
    (a c : List Bool) (n : ℕ) → length a ≡ n → whole ≡ a ++ (range_class_bits r ranges ws ++ c) → EncodeFrom r whole (range_class_part r ranges columns n).columns ranges ws

class-taken : (r range w : ℕ) (ranges ws : List ℕ) (column : VarValueAndBoundLits) (columns : List VarValueAndBoundLits) (whole : List Bool) → eqb range r ≡ true → range ≤ 2 ^ bit_count range → w < range →
    ClassSays r ranges ws columns whole → ClassSays r (range ∷ ranges) (w ∷ ws) (column ∷ columns) whole
class-taken r range w ranges ws column columns whole h enough less rest =
    rw h
    (λ a c n size is.
    let b = system_var_bits range w in
    let d = range_class_bits r ranges ws in
    let long = (system_var-law range a n size enough).sized b (w, less, refl) in
    let here : whole ≡ a ++ (b ++ (d ++ c)) = is ∙ ap (λ (u : List Bool). a ++ u) (append_assoc b d c) in (
      λ _. subst (λ (u : List Bool). ColumnEncodes u (system_var_part range n).column range w) (sym here) (system_var-say a (d ++ c) range w n size enough less),
      rest (a ++ b) c (system_var_part range n).part.vars long (here ∙ sym (append_assoc a b (d ++ c))),
    ))

class-passed : (r range w : ℕ) (ranges ws : List ℕ) (column : VarValueAndBoundLits) (columns : List VarValueAndBoundLits) (whole : List Bool) → eqb range r ≡ false →
    (suc r ≤ range → ColumnEncodes whole column range w) → ClassSays r ranges ws columns whole → ClassSays r (range ∷ ranges) (w ∷ ws) (column ∷ columns) whole
class-passed r range w ranges ws column columns whole h has rest = rw h (λ a c n size is. (λ low. has (above (eqb-false range r h) low), rest a c n size is))
  where
    above : (range ≡ r → ⊥) → r ≤ range → suc r ≤ range
    above other low = omega arith

class-say : (r : ℕ) (ranges ws : List ℕ) (columns : List VarValueAndBoundLits) (whole : List Bool) → r ≤ 2 ^ bit_count r → in_ranges ws ranges ≡ true → EncodeFrom (suc r) whole columns ranges ws → ClassSays r ranges ws columns whole
class-say r [] ws columns whole enough inside has = λ a c n size is. tt
class-say r (range ∷ ranges) ws [] whole enough inside has = λ a c n size is. tt
class-say r (range ∷ ranges) [] (column ∷ columns) whole enough inside has = absurd has
class-say r (range ∷ ranges) (w ∷ ws) (column ∷ columns) whole enough inside has =
    by_case (eqb range r) refl (and_parts _ _ inside).0 (class-say r ranges ws columns whole enough (and_parts _ _ inside).1 has.1)
  where
    by_case : (b : Bool) → eqb range r ≡ b → ltb w range ≡ true → ClassSays r ranges ws columns whole → ClassSays r (range ∷ ranges) (w ∷ ws) (column ∷ columns) whole
    by_case true h less rest = class-taken r range w ranges ws column columns whole h (subst (λ (k : ℕ). k ≤ 2 ^ bit_count k) (sym (eqb-true range r h)) enough) (ltb-true w range less) rest
    by_case false h less rest = class-passed r range w ranges ws column columns whole h has.0 rest

below-say : (k : ℕ) (ranges ws : List ℕ) (columns : List VarValueAndBoundLits) (whole a c : List Bool) (n : ℕ) → length a ≡ n → length columns ≡ length ranges → k ≤ 256 → in_ranges ws ranges ≡ true →
    whole ≡ a ++ (range_classes_below_bits k ranges ws ++ c) → EncodeFrom k whole columns ranges ws → EncodeFrom 0 whole (range_classes_below_part k ranges columns n).columns ranges ws
below-say zero ranges ws columns whole a c n size same few inside is has = has
below-say (suc r) ranges ws columns whole a c n size same few inside is has =
    let p = range_class_part r ranges columns n in
    let b = range_class_bits r ranges ws in
    let d = range_classes_below_bits r ranges ws in
    let enough = bit_count-enough r (omega arith) in
    let here : whole ≡ a ++ (b ++ (d ++ c)) = is ∙ ap (λ (u : List Bool). a ++ u) (append_assoc b d c) in
    let long : length (a ++ b) ≡ p.part.vars = (class-law r ranges columns a n size same enough).sized b (ws, below-class r ws ranges (below-all (suc r) ws ranges inside), refl) in
    below-say r ranges ws p.columns whole (a ++ b) c p.part.vars long (class-length r ranges columns n same) (omega arith) inside
    (here ∙ sym (append_assoc a b (d ++ c)))
    (class-say r ranges ws columns whole enough inside has a (d ++ c) n size here)

none-say : (k : ℕ) (ranges ws : List ℕ) (whole : List Bool) → 256 ≡ k → ranges_fit ranges ≡ true → in_ranges ws ranges ≡ true → EncodeFrom k whole (no_lits_for_each_var ranges) ranges ws
none-say k [] ws whole is fit inside = tt
none-say k (range ∷ ranges) [] whole is fit inside = absurd (false≢true inside)
none-say k (range ∷ ranges) (w ∷ ws) whole is fit inside =
    let parts = and_parts (ltb range 256) (ranges_fit ranges) fit in
    (λ low. absurd (omega (arith, ltb-true range 256 parts.0)), none-say k ranges ws whole is parts.1 (and_parts _ _ inside).1)

all-say : (a : List Bool) (columns : List VarValueAndBoundLits) (ranges ws : List ℕ) → EncodeFrom 0 a columns ranges ws → LiteralsEncode a columns ranges ws
all-say a [] ranges ws h = tt
all-say a (column ∷ columns) [] ws h = absurd h
all-say a (column ∷ columns) (range ∷ ranges) [] h = absurd h
all-say a (column ∷ columns) (range ∷ ranges) (w ∷ ws) h = (let here = h.0 (omega arith) in (here.0, here.1, all-say a columns ranges ws h.1))

pub copy-say : (ranges ws : List ℕ) (a c : List Bool) (n : ℕ) → length a ≡ n → ranges_fit ranges ≡ true → in_ranges ws ranges ≡ true → LiteralsEncode (a ++ (copy_bits ranges ws ++ c)) (copy_part ranges n).columns ranges ws
unfolding copy_part copy_bits
copy-say ranges ws a c n size fit inside =
    let whole = a ++ (range_classes_below_bits MAX_RANGES ranges ws ++ c) in
    all-say whole (range_classes_below_part MAX_RANGES ranges (no_lits_for_each_var ranges) n).columns ranges ws
    (below-say MAX_RANGES ranges ws (no_lits_for_each_var ranges) whole a c n size (no_lits_for_each_var-length ranges)
    (omega arith) inside refl (none-say MAX_RANGES ranges ws whole refl fit inside))
