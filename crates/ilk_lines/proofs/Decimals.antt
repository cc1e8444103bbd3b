-- A number is read if and only if it is written so.
use Rattle.std.proofs.Common.{◌≡◌, ℕ, ◌<◌, ◌≤◌, ◌^◌, true, false, ◌==◌, ◌&&◌, ◌||◌, not, Some, [], ◌∷◌, length, nat_le, slice_index, refl, sym, ap, ◌∙◌, arith, suc, zero}
use Rattle.std.specs.Char.{is_ascii_digit}
use Rattle.std.specs.Fmt.{decimal}
use Rattle.std.specs.List.{list_all}
use Rattle.std.specs.Prelude.{◌↔◌}
use Rattle.std.specs.Str.{all_ascii_digits}
use Rattle.std.specs.Str.Parse.{digits_value}
use Rattle.std.proofs.lemmas.Bool.{and_from, and_parts, or_right, le-leb}
use Rattle.std.proofs.lemmas.Bool.Decides.{nat_tests}
use Rattle.std.proofs.lemmas.Fmt.{decimal-digits_value, decimal_digit, decimal_nonempty, digits_decimal, digits_value-decimal, first_decimal}
use Rattle.std.proofs.lemmas.Option.{cond_some}
use Rattle.std.proofs.lemmas.Str.Parse.{IsNumeralModel, numerals_by_value, tells_all_ascii_digits}
use Rattle.ilk_base.specs.Option.{then_some}
use Rattle.ilk_lines.specs.Decimal.{decimal_up_to, is_decimal}
use Rattle.ilk_lines.specs.Lines.{Bytes}
use Rattle.ilk_lines.specs.Written.{LacksByte}
use Rattle.ilk_lines.proofs.Lacking.{lacks_failing}

digits_same : (word : Bytes) → list_all is_ascii_digit word ≡ all_ascii_digits word
digits_same [] = refl
digits_same (b ∷ word) = ap (λ t. is_ascii_digit b && t) (digits_same word)

own : IsNumeralModel (λ ds. all_ascii_digits ds ≡ true) (digits_value 10)
own = numerals_by_value (λ ds. all_ascii_digits ds ≡ true) tells_all_ascii_digits

not_zero : (n : ℕ) → not (n == 0) ≡ true → 0 < n
not_zero n h = grind (arith, nat_tests)

alone : (n first : ℕ) → ((n == 1) || not (first == 48)) ≡ true → first ≡ 48 → n ≡ 1
alone n first h e = grind (arith, nat_tests)

at_most : (k m : ℕ) → nat_le k m ≡ true → k ≤ m
at_most k m h = grind (arith, nat_tests)

pub decimal-written : (limit : ℕ) (word : Bytes) (n : ℕ) → limit < 2 ^ 64 → decimal_up_to limit word ≡ Some n → (word ≡ decimal n) × (n ≤ limit)
decimal-written limit word n small e =
    let read = cond_some (is_decimal word && nat_le (digits_value 10 word) limit) (digits_value 10 word) n e in
    let both = and_parts (is_decimal word) (nat_le (digits_value 10 word) limit) read.0 in
    let below : digits_value 10 word ≤ limit = at_most (digits_value 10 word) limit both.1 in
    let begins = and_parts (list_all is_ascii_digit word && not (length word == 0)) _ both.0 in
    let first = and_parts (list_all is_ascii_digit word) _ begins.0 in
    let digits : all_ascii_digits word ≡ true = sym (digits_same word) ∙ first.0 in
    let some : 0 < length word = not_zero (length word) first.1 in
    let same : digits_value 10 word ≡ n = read.1 in
    (sym (decimal-digits_value own word digits some (alone (length word) (slice_index word 0) begins.1) (omega arith)) ∙ ap decimal same, omega arith)

pub decimal-within : (limit : ℕ) (word : Bytes) (n : ℕ) → decimal_up_to limit word ≡ Some n → n ≤ limit
decimal-within limit word n e =
    let read = cond_some (is_decimal word && nat_le (digits_value 10 word) limit) (digits_value 10 word) n e in
    let below : digits_value 10 word ≤ limit = at_most (digits_value 10 word) limit (and_parts (is_decimal word) _ read.0).1 in
    let same : digits_value 10 word ≡ n = read.1 in
    omega arith

first_of_decimal : (n : ℕ) → n < 2 ^ 64 → (length (decimal n) == 1 || not (slice_index (decimal n) 0 == 48)) ≡ true
first_of_decimal zero small = ap (λ ds. length ds == 1 || not (slice_index ds 0 == 48)) (decimal_digit 0 (omega arith))
first_of_decimal (suc n) small =
    let above : 48 < slice_index (decimal (suc n)) 0 = first_decimal (suc n) (omega arith) small in
    let other : not (slice_index (decimal (suc n)) 0 == 48) ≡ true = grind (arith, nat_tests) in
    or_right (length (decimal (suc n)) == 1) _ other

pub decimal_back : (limit n : ℕ) → limit < 2 ^ 64 → n ≤ limit → decimal_up_to limit (decimal n) ≡ Some n
decimal_back limit n small below =
    let digits : list_all is_ascii_digit (decimal n) ≡ true = digits_same (decimal n) ∙ digits_decimal own n (omega arith) in
    let some : 0 < length (decimal n) = decimal_nonempty n (omega arith) in
    let nonempty : not (length (decimal n) == 0) ≡ true = grind (arith, nat_tests) in
    let number : is_decimal (decimal n) ≡ true = and_from _ _ (and_from _ _ digits nonempty) (first_of_decimal n (omega arith)) in
    let value : digits_value 10 (decimal n) ≡ n = digits_value-decimal own n (omega arith) in
    let within : nat_le (digits_value 10 (decimal n)) limit ≡ true = ap (λ k. nat_le k limit) value ∙ le-leb n limit below in
    ap (λ b. then_some b (digits_value 10 (decimal n))) (and_from _ _ number within) ∙ ap (λ k. Some k) value

pub decimal_lacks : (c n : ℕ) → is_ascii_digit c ≡ false → n < 2 ^ 64 → LacksByte c (decimal n)
decimal_lacks c n other small = lacks_failing is_ascii_digit c (decimal n) other (digits_same (decimal n) ∙ digits_decimal own n small)

pub decimal_exactly : (limit : ℕ) (word : Bytes) → limit < 2 ^ 64 → (n : ℕ) → (decimal_up_to limit word ≡ Some n) ↔ ((word ≡ decimal n) × (n ≤ limit))
decimal_exactly limit word small n = (
  λ e. decimal-written limit word n small e,
  λ is. ap (decimal_up_to limit) is.0 ∙ decimal_back limit n small is.1,
)
