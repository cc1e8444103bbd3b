-- Sections as bits: those of a body, and those that two or more trains occupy.
use Rattle.std.proofs.Common.{◌≡◌, ◌≢◌, ℕ, zero, suc, ◌+◌, ◌-◌, ◌*◌, ◌%◌, ◌^◌, ◌<◌, ◌≤◌, Bool, true, false, ◌==◌, ◌&&◌, ◌||◌, cond, List, count_by, get_or, length, max, min, nat_lt, take, refl, sym, ap, ◌∙◌, arith, subst}
use Rattle.std.specs.Int.{bit_at, w128}
use Rattle.std.specs.Int.Bits.{bit_and, bit_or}
use Rattle.std.proofs.Math.Bool.{or-false}
use Rattle.std.proofs.lemmas.Bool.Decides.{Decides-eqb, nat_tests}
use Rattle.std.proofs.lemmas.List.Folds.{list_any_more}
use Rattle.std.proofs.lemmas.List.Sums.{count_by_more_no, count_by_more_yes}
use Rattle.std.proofs.lemmas.Nat.Bits.{bit_at_and, bit_at_or, bit_at_set_other, bit_at_set_same, bit_at-lt}
use Rattle.ilk_base.proofs.Truth.{or-true}
use Rattle.ilk_plant.specs.Network.{contains_section}
use Rattle.ilk_model.specs.Shared.{is_in_shared_sections}
use Rattle.ilk_model.specs.declared.shared.SharedSections.{SharedSections}

abbrev pub bit : Bool → ℕ
bit b = cond b 1 0

pub bit-test : (b : Bool) → (bit b == 1) ≡ b
bit-test true = refl
bit-test false = refl

pub bit-own : (bits x : ℕ) → bit_at bits x ≡ bit (bit_at bits x == 1)
bit-own bits x = by_value (bit_at bits x) (bit_at-lt bits x)
  where
    by_value : (b : ℕ) → b < 2 → b ≡ bit (b == 1)
    by_value zero small = refl
    by_value (suc zero) small = refl
    by_value (suc (suc b)) small = absurd (omega arith)

pub bit_more : (bits new x : ℕ) (had this : Bool) → bit_at bits x ≡ bit had → bit_at new x ≡ bit ((bit_at bits x == 1) || this) → bit_at new x ≡ bit (had || this)
bit_more bits new x had this before more =
    more ∙ ap (λ b. bit ((b == 1) || this)) before ∙ ap (λ b. bit (b || this)) (bit-test had)

pub bit_set : (bits y x : ℕ) (h : Bool) → y < 128 → bit_at bits x ≡ bit h → bit_at (bit_or bits (1 * 2 ^ y % 2 ^ 128)) x ≡ bit (h || (y == x))
bit_set bits y x h below e = by_test (y == x) refl
  where
    by_test : (b : Bool) → (y == x) ≡ b → bit_at (bit_or bits (1 * 2 ^ y % 2 ^ 128)) x ≡ bit (h || b)
    by_test true same =
        let P : ℕ → Type 0 = λ z. bit_at (bit_or bits (1 * 2 ^ y % 2 ^ 128)) z ≡ 1 in
        subst P ((Decides-eqb y x).0 same) (bit_at_set_same w128 bits y below) ∙ ap bit (sym (or-true h))
    by_test false differs =
        let other : x ≢ y = λ equal. (let wrong : (y == x) ≡ true = (Decides-eqb y x).1 (sym equal) in absurd (cc)) in
        bit_at_set_other w128 bits y below x other ∙ e ∙ ap bit (sym (or-false h))

pub bit_kept : (bits y x : ℕ) (h : Bool) → 128 ≤ y → x < 128 → bit_at bits x ≡ bit h → bit_at bits x ≡ bit (h || (y == x))
bit_kept bits y x h past below e =
    let differs : (y == x) ≡ false = grind (arith, nat_tests) in
    e ∙ ap bit (sym (or-false h)) ∙ ap (λ b. bit (h || b)) (sym differs)

pub has_more : (x : ℕ) (sections : List ℕ) (i d : ℕ) → i < length sections → contains_section x (take (i + 1) sections) ≡ (contains_section x (take i sections) || (get_or sections i d == x))
has_more x sections i d within = list_any_more (λ y. y == x) sections i d within

max_bits : (a b : Bool) → max (bit a) (bit b) ≡ bit (a || b)
max_bits true true = refl
max_bits true false = refl
max_bits false true = refl
max_bits false false = refl

pub bit_either : (left right x : ℕ) (a b : Bool) → bit_at left x ≡ bit a → bit_at right x ≡ bit b → bit_at (bit_or left right) x ≡ bit (a || b)
bit_either left right x a b own other = bit_at_or left right x ∙ (λ j. max (own j) (other j)) ∙ max_bits a b

min_bits : (a b : Bool) → min (bit a) (bit b) ≡ bit (a && b)
min_bits true true = refl
min_bits true false = refl
min_bits false true = refl
min_bits false false = refl

some_more : (c : ℕ) → (nat_lt 0 c || true) ≡ nat_lt 0 (c + 1)
some_more c = let more : nat_lt 0 (c + 1) ≡ true = grind (arith, nat_tests) in or-true (nat_lt 0 c) ∙ sym more

two_more : (c : ℕ) → (nat_lt 1 c || (nat_lt 0 c && true)) ≡ nat_lt 1 (c + 1)
two_more c = by_tests (nat_lt 1 c) (nat_lt 0 c) refl refl
  where
    by_tests : (a b : Bool) → nat_lt 1 c ≡ a → nat_lt 0 c ≡ b → (a || (b && true)) ≡ nat_lt 1 (c + 1)
    by_tests true b e f = let more : nat_lt 1 (c + 1) ≡ true = grind (arith, nat_tests) in sym more
    by_tests false true e f = let more : nat_lt 1 (c + 1) ≡ true = grind (arith, nat_tests) in sym more
    by_tests false false e f = let more : nat_lt 1 (c + 1) ≡ false = grind (arith, nat_tests) in sym more

two_same : (a b : Bool) → (a || (b && false)) ≡ a
two_same true b = refl
two_same false true = refl
two_same false false = refl

module _ {T : Type 0} (has : T → Bool) (trains : List T) (i : ℕ) (d : T) (within : i < length trains) (x seen shared body : ℕ)
    (before : bit_at seen x ≡ bit (nat_lt 0 (count_by has (take i trains))))
    (twice : bit_at shared x ≡ bit (nat_lt 1 (count_by has (take i trains))))
    (own : bit_at body x ≡ bit (has (get_or trains i d))) where
  pub seen_after : bit_at (bit_or seen body) x ≡ bit (nat_lt 0 (count_by has (take (i + 1) trains)))
  seen_after = bit_at_or seen body x ∙ (λ j. max (before j) (own j)) ∙ max_bits (nat_lt 0 (count_by has (take i trains))) (has (get_or trains i d)) ∙ by_test (has (get_or trains i d)) refl
    where
      by_test : (b : Bool) → has (get_or trains i d) ≡ b → bit (nat_lt 0 (count_by has (take i trains)) || b) ≡ bit (nat_lt 0 (count_by has (take (i + 1) trains)))
      by_test true e = ap bit (some_more (count_by has (take i trains)) ∙ ap (nat_lt 0) (sym (count_by_more_yes has trains i d within e)))
      by_test false e = ap bit (or-false (nat_lt 0 (count_by has (take i trains))) ∙ ap (nat_lt 0) (sym (count_by_more_no has trains i d within e)))

  pub shared_after : bit_at (bit_or shared (bit_and seen body)) x ≡ bit (nat_lt 1 (count_by has (take (i + 1) trains)))
  shared_after =
      bit_at_or shared (bit_and seen body) x ∙ ap (max (bit_at shared x)) (bit_at_and seen body x) ∙ (λ j. max (twice j) (min (before j) (own j)))
      ∙ ap (max (bit (nat_lt 1 (count_by has (take i trains))))) (min_bits (nat_lt 0 (count_by has (take i trains))) (has (get_or trains i d)))
      ∙ max_bits (nat_lt 1 (count_by has (take i trains))) (nat_lt 0 (count_by has (take i trains)) && has (get_or trains i d)) ∙ by_test (has (get_or trains i d)) refl
    where
      by_test : (b : Bool) → has (get_or trains i d) ≡ b → bit (nat_lt 1 (count_by has (take i trains)) || (nat_lt 0 (count_by has (take i trains)) && b)) ≡ bit (nat_lt 1 (count_by has (take (i + 1) trains)))
      by_test true e = ap bit (two_more (count_by has (take i trains)) ∙ ap (nat_lt 1) (sym (count_by_more_yes has trains i d within e)))
      by_test false e = ap bit (two_same (nat_lt 1 (count_by has (take i trains))) (nat_lt 0 (count_by has (take i trains))) ∙ ap (nat_lt 1) (sym (count_by_more_no has trains i d within e)))

pub shared_exact : (shared : SharedSections) (two : ℕ → Bool) → ((x : ℕ) → x < 128 → bit_at shared.low x ≡ bit (two (0 + x))) → ((x : ℕ) → x < 128 → bit_at shared.high x ≡ bit (two (128 + x))) → (x : ℕ) → x < 256 →
    is_in_shared_sections shared x ≡ two x
shared_exact shared two low high x within = by_test (nat_lt x 128) refl
  where
    by_test : (b : Bool) → nat_lt x 128 ≡ b → cond b (bit_at shared.low x == 1) (bit_at shared.high (x - 128) == 1) ≡ two x
    by_test true e =
        let here : x < 128 = grind (arith, nat_tests) in
        let same : 0 + x ≡ x = omega arith in
        ap (λ n. n == 1) (low x here) ∙ bit-test (two (0 + x)) ∙ ap two same
    by_test false e =
        let past : 128 ≤ x = grind (arith, nat_tests) in
        let same : 128 + (x - 128) ≡ x = omega arith in
        ap (λ n. n == 1) (high (x - 128) (omega arith)) ∙ bit-test (two (128 + (x - 128))) ∙ ap two same
