-- Decimal numbers, read from the front.
use Rattle.std.proofs.Common.{◌≡◌, ℕ, ◌+◌, ◌-◌, ◌*◌, ◌<◌, ◌≤◌, Bool, true, false, ◌&&◌, None, Some, List, [], ◌∷◌, length, drop, get_or, nat_le, cond, refl, sym, ap, ◌∙◌, arith}
use Rattle.std.specs.Char.{digit_value, is_ascii_digit}
use Rattle.std.specs.List.{list_all}
use Rattle.std.specs.Str.Parse.{digits_value, digits_value_after}
use Rattle.std.proofs.lemmas.Bool.{and_parts}
use Rattle.std.proofs.lemmas.Bool.Decides.{nat_tests}
use Rattle.std.proofs.lemmas.List.{drop_more}
use Rattle.ilk_lines.specs.Decimal.{decimal_up_to, is_decimal}

value_grows : (n : ℕ) (word : List ℕ) → n ≤ digits_value_after 10 n word
value_grows n [] = omega arith
value_grows n (b ∷ word) = let rest = value_grows (n * 10 + digit_value b) word in omega arith

digit_is : (b : ℕ) → is_ascii_digit b ≡ true → digit_value b ≡ b - 48
digit_is b h = grind (arith, nat_tests)

not_both : (b c : Bool) (n : ℕ) → c ≡ false → None ≡ cond (b && c) (Some n) None
not_both true c n h = rw h refl
not_both false c n h = refl

pub over_limit : (word : List ℕ) (n limit i : ℕ) →
    digits_value 10 word ≡ digits_value_after 10 n (drop i word) →
    list_all is_ascii_digit (drop i word) ≡ true → i < length word → limit < n * 10 + (get_or word i 0 - 48) →
    None ≡ decimal_up_to limit word
over_limit word n limit i value digits within over =
    let more : drop i word ≡ get_or word i 0 ∷ drop (i + 1) word = drop_more word i 0 within in
    let digit : digit_value (get_or word i 0) ≡ get_or word i 0 - 48 = digit_is (get_or word i 0) ((and_parts _ _ (sym (ap (list_all is_ascii_digit) more) ∙ digits)).0) in
    let split : digits_value 10 word ≡ digits_value_after 10 (n * 10 + digit_value (get_or word i 0)) (drop (i + 1) word) = value ∙ ap (digits_value_after 10 n) more in
    let grows : n * 10 + digit_value (get_or word i 0) ≤ digits_value_after 10 (n * 10 + digit_value (get_or word i 0)) (drop (i + 1) word) = value_grows (n * 10 + digit_value (get_or word i 0)) (drop (i + 1) word) in
    let above : limit < digits_value 10 word = omega (arith, split, grows, digit) in
    let refused : nat_le (digits_value 10 word) limit ≡ false = grind (arith, nat_tests) in
    not_both (is_decimal word) (nat_le (digits_value 10 word) limit) (digits_value 10 word) refused
