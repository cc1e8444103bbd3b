-- The number and the literal of a word.
use Rattle.std.specs.Prelude.{ℕ, ◌==◌, ◌^◌, [], ◌∷◌, Option, None, true, false, nat_lt, option_map, if◌then◌else◌}
use Rattle.ilk_base.specs.Option.{◌>>=◌, then_some}
use Rattle.ilk_cnf.specs.Literal.{Literal}
use Rattle.ilk_lines.specs.Lines.{Bytes}
use Rattle.ilk_lines.specs.Decimal.{decimal_up_to}

-- Returns the number that a word writes, or `None` if it isn't one from 1 to `limit`.
abbrev pub positive_decimal_up_to : ℕ → Bytes → Option ℕ
positive_decimal_up_to limit word = do
  n ← decimal_up_to limit word
  then_some (nat_lt 0 n) n

-- Returns the literal that a word writes, or `None` if it isn't one over a variable from 1 to 2^62.
abbrev pub lit_from_word : Bytes → Option Literal
lit_from_word [] = None
lit_from_word (b ∷ word) = if b == 45 then option_map (λ v. record { var = v; positive = false }) (positive_decimal_up_to (2 ^ 62) word) else option_map (λ v. record { var = v; positive = true }) (positive_decimal_up_to (2 ^ 62) (b ∷ word))
