-- The content of a packed step's bytes, for private contracts and proofs.
use Rattle.std.specs.Prelude.{ℕ, ◌+◌, ◌-◌, ◌*◌, ◌/◌, ◌%◌, ◌^◌, ◌==◌, ◌≡◌, ◌++◌, List, [], ◌∷◌, map, take, drop, nat_lt, if◌then◌else◌}
use Rattle.ilk_cnf.specs.Literal.{Literal}
use Rattle.ilk_lines.specs.Lines.{Bytes}
use Rattle.ilk_log.specs.declared.step.Step.{Step}

-- Returns `value` with the seven bits `bits` at its end, in 64 bits.
abbrev pub shift_in_seven_bits : ℕ → ℕ → ℕ
shift_in_seven_bits value bits = (value * 128 + bits) % 2 ^ 64

-- Returns the number at difference `way` from `last`, in 64 bits. `way` is twice the way up, or one
-- less than twice the way down.
abbrev pub add_zigzag_delta : ℕ → ℕ → ℕ
add_zigzag_delta last way = if way % 2 == 0 then (last + way / 2) % 2 ^ 64 else (last + (2 ^ 64 - 1 - way / 2)) % 2 ^ 64

-- Returns the numbers in bytes that follow the number `last` and the high bits `way` of a
-- difference. Each byte has seven bits of a difference, high ones first; each but its last has 128
-- added.
abbrev pub decoded_numbers : ℕ → ℕ → Bytes → List ℕ
decoded_numbers last way [] = []
decoded_numbers last way (b ∷ bytes) =
    if nat_lt b 128 then add_zigzag_delta last (shift_in_seven_bits way b) ∷ decoded_numbers (add_zigzag_delta last (shift_in_seven_bits way b)) 0 bytes else decoded_numbers last (shift_in_seven_bits way (b - 128)) bytes

-- Returns the code of literal `l`: `2 * (l.var - 1)`, plus 1 if it is positive.
abbrev pub code_from_lit : Literal → ℕ
code_from_lit l = 2 * (l.var - 1) + (if l.positive then 1 else 0)

-- Returns the literal with code `n`.
abbrev pub lit_from_code : ℕ → Literal
lit_from_code n = record { var = n / 2 % 2 ^ 62 + 1; positive = n % 2 == 1 }

-- Returns the step whose first `literals` numbers are codes of literals, and the rest its hints.
abbrev pub step_from_numbers : ℕ → List ℕ → Step
step_from_numbers literals numbers = record { clause = map lit_from_code (take literals numbers); hints = drop literals numbers }

-- Returns the rest of a packed step from byte `at` on, with `literals` literals left and `last` as
-- the number before.
abbrev pub remaining_step_from_byte : Bytes → ℕ → ℕ → ℕ → Step
remaining_step_from_byte bytes at last literals = step_from_numbers literals (decoded_numbers last 0 (drop at bytes))

-- Holds if reading the bytes gives `numbers`, whatever bytes follow, and leaves the last number
-- `last` and the high bits `way` of the next difference.
pub record DecodesToNumbersAndState (bytes : Bytes) (numbers : List ℕ) (last way : ℕ) : Type 0 where
  pub told : (rest : Bytes) → decoded_numbers 0 0 (bytes ++ rest) ≡ numbers ++ decoded_numbers last way rest
