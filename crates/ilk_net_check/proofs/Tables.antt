-- Tables of truth values over pairs of numbers.
use Rattle.std.proofs.Common.{◌≡◌, ℕ, zero, suc, ◌<◌, ◌≤◌, ◌+◌, ◌⊎◌, inl, inr, Bool, false, ◌&&◌, ◌||◌, List, [], ◌∷◌, ◌++◌, get_or, length, set, take, refl, sym, ◌∙◌, ap, arith}
use Rattle.std.specs.List.{list_any}
use Rattle.std.proofs.Math.Bool.{or-false}
use Rattle.std.proofs.Math.Nat.{eq-or-lt_of_le}
use Rattle.std.proofs.lemmas.List.{length-set, take_more}
use Rattle.std.proofs.lemmas.List.Folds.{list_any-append}
use Rattle.std.proofs.lemmas.Option.{slice_get_past}
use Rattle.ilk_base.proofs.Lists.{slice_get-set_other, slice_get-set_same}
use Rattle.ilk_plant.specs.NetworkRules.{reaches_via_below}
use Rattle.ilk_base.specs.BitSet.{bit_set_contains}
use Rattle.ilk_net_check.specs.Numbers.{IsMatrixOfTest, matrix_entry_or_false, is_reachable_or_via_section}
use Rattle.ilk_base.specs.declared.bit_set.BitSet256.{BitSet256}

entry_before : (t : List BitSet256) (row : BitSet256) (x y : ℕ) → x < length t → matrix_entry_or_false (t ++ row ∷ []) x y ≡ matrix_entry_or_false t x y
entry_before [] row x y below = absurd (omega (arith, below))
entry_before (r ∷ t) row zero y below = refl
entry_before (r ∷ t) row (suc x) y below = entry_before t row x y (omega (arith, below))

entry_last : (t : List BitSet256) (row : BitSet256) (y : ℕ) → matrix_entry_or_false (t ++ row ∷ []) (length t) y ≡ bit_set_contains row y
entry_last [] row y = refl
entry_last (r ∷ t) row y = entry_last t row y

length_more : (t : List BitSet256) (row : BitSet256) → length (t ++ row ∷ []) ≡ length t + 1
length_more [] row = refl
length_more (r ∷ t) row = let more = length_more t row in omega (arith, more)

pub table_more : (t new : List BitSet256) (row : BitSet256) (n : ℕ) (test : ℕ → ℕ → Bool) → IsMatrixOfTest t n test → new ≡ t ++ row ∷ [] → ((y : ℕ) → y < 256 → bit_set_contains row y ≡ test n y) → IsMatrixOfTest new (n + 1) test
table_more t new row n test before is own = record {
  rows = ap length is ∙ length_more t row ∙ ap (λ m. m + 1) before.rows;
  entries = λ x y below small. ap (λ s. matrix_entry_or_false s x y) is ∙ by_place x y small (eq-or-lt_of_le (omega (arith, below)));
}
  where
    by_place : (x y : ℕ) → y < 256 → (x ≡ n) ⊎ (x < n) → matrix_entry_or_false (t ++ row ∷ []) x y ≡ test x y
    by_place x y small (inr lower) = entry_before t row x y (omega (arith, lower, before.rows)) ∙ before.entries x y lower small
    by_place x y small (inl last) =
        let place : x ≡ length t = last ∙ sym before.rows in
        ap (λ z. matrix_entry_or_false (t ++ row ∷ []) z y) place ∙ entry_last t row y ∙ own y small ∙ ap (λ z. test z y) (sym last)

pub matrix_entry_or_false-set : (t : List BitSet256) (row : BitSet256) (x y : ℕ) → x < length t → matrix_entry_or_false (set t x row) x y ≡ bit_set_contains row y
matrix_entry_or_false-set t row x y within = rw (slice_get-set_same t x row within) refl

pub matrix_entry_or_false-kept : (t : List BitSet256) (row : BitSet256) (x z y : ℕ) → (x ≡ z → ⊥) → matrix_entry_or_false (set t x row) z y ≡ matrix_entry_or_false t z y
matrix_entry_or_false-kept t row x z y other = rw (slice_get-set_other t x z row other) refl

-- Holds if rows of `t` below `i` also allow walks through `k`, and the others are those of
-- `before`.
pub record IsJoinedBelow (before t : List BitSet256) (k i n : ℕ) : Type 0 where
  pub rows : length t ≡ n
  pub done : (x y : ℕ) → x < i → matrix_entry_or_false t x y ≡ is_reachable_or_via_section before k x y
  pub left : (x y : ℕ) → i ≤ x → matrix_entry_or_false t x y ≡ matrix_entry_or_false before x y

pub join_next : (before t : List BitSet256) (row onward : BitSet256) (k i n : ℕ) → i < n →
    IsJoinedBelow before t k i n → ((y : ℕ) → bit_set_contains onward y ≡ matrix_entry_or_false before k y) →
    ((y : ℕ) → bit_set_contains row y ≡ (matrix_entry_or_false t i y || (matrix_entry_or_false t i k && bit_set_contains onward y))) →
    IsJoinedBelow before (set t i row) k (i + 1) n
join_next before t row onward k i n within sofar on is = record {
  rows = length-set t i row ∙ sofar.rows;
  done = λ x y below. by_place x y (eq-or-lt_of_le (omega (arith, below)));
  left = λ x y after. matrix_entry_or_false-kept t row i x y (λ same. absurd (omega (arith, same, after))) ∙ sofar.left x y (omega (arith, after));
}
  where
    by_place : (x y : ℕ) → (x ≡ i) ⊎ (x < i) → matrix_entry_or_false (set t i row) x y ≡ is_reachable_or_via_section before k x y
    by_place x y (inr lower) =
        matrix_entry_or_false-kept t row i x y (λ same. absurd (omega (arith, same, lower))) ∙ sofar.done x y lower
    by_place x y (inl same) =
        ap (λ z. matrix_entry_or_false (set t i row) z y) same ∙ matrix_entry_or_false-set t row i y (omega (arith, within, sofar.rows)) ∙ is y
        ∙ (λ j. sofar.left i y (omega arith) j || (sofar.left i k (omega arith) j && on y j)) ∙ ap (λ z. is_reachable_or_via_section before k z y) (sym same)

pub any_more : {X : Type 0} (p : X → Bool) (xs : List X) (i : ℕ) (d : X) (before now : Bool) → i < length xs → before ≡ list_any p (take i xs) → now ≡ (before || p (get_or xs i d)) → now ≡ list_any p (take (i + 1) xs)
any_more p xs i d before now within sofar is =
    is ∙ ap (λ b. b || p (get_or xs i d)) sofar ∙ ap (λ b. list_any p (take i xs) || b) (sym (or-false (p (get_or xs i d))))
    ∙ sym (ap (list_any p) (take_more xs i d within) ∙ list_any-append p (take i xs) (get_or xs i d ∷ []))

pub next_table : (n k : ℕ) (step : ℕ → ℕ → Bool) (leads new : List BitSet256) → k < n → n ≤ 256 → IsMatrixOfTest leads n (reaches_via_below step k) → IsMatrixOfTest new n (is_reachable_or_via_section leads k) →
    IsMatrixOfTest new n (reaches_via_below step (k + 1))
next_table n k step leads new below few before after = record {
  rows = after.rows;
  entries = λ x y lx ly.
      let e : suc k ≡ k + 1 = omega arith in
      after.entries x y lx ly
      ∙ (let xy = before.entries x y lx ly in
      let xk = before.entries x k lx (omega (arith, below, few)) in
      let ky = before.entries k y below ly in
      λ i. xy i || (xk i && ky i))
      ∙ ap (λ m. reaches_via_below step m x y) e;
}

pub entry_past : (t : List BitSet256) (x y : ℕ) → length t ≤ x → matrix_entry_or_false t x y ≡ false
entry_past t x y past = rw (slice_get_past t x past) refl
