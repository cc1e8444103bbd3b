-- Decimal numbers with one spelling each.
use Rattle.std.specs.Prelude.{ℕ, Bool, ◌==◌, ◌&&◌, ◌||◌, Option, length, nat_le, not, slice_index}
use Rattle.std.specs.Char.{is_ascii_digit}
use Rattle.std.specs.List.{list_all}
use Rattle.std.specs.Str.Parse.{digits_value}
use Rattle.ilk_base.specs.Option.{then_some}
use Rattle.ilk_lines.specs.Lines.{Bytes}

-- Returns whether a word is a decimal number: one or more digits, without a leading 0 except in 0
-- itself.
abbrev pub is_decimal : Bytes → Bool
is_decimal word = list_all is_ascii_digit word && not (length word == 0) && (length word == 1 || not (slice_index word 0 == 48))

-- Returns the number that a word writes in decimal, if it is at most `limit`. Otherwise returns
-- `None`.
abbrev pub decimal_up_to : ℕ → Bytes → Option ℕ
decimal_up_to limit word = then_some (is_decimal word && nat_le (digits_value 10 word) limit) (digits_value 10 word)
