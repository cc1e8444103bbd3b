-- Literals for "the integer is at most k".
use Rattle.std.specs.Prelude.{ℕ, ◌+◌, ◌-◌, ◌^◌, ◌==◌, Bool, List, [], ◌∷◌, nat_le, if◌then◌else◌}
use Rattle.ilk_cnf.specs.Literal.{Literal, positive_lit, negative_lit}
use Rattle.ilk_cnf.specs.Part.{FormulaPart, empty_part, or_gate_part}
use Rattle.ilk_ints.specs.Bits.{bit_count}

-- Returns whether the highest bit alone decides: an integer below `range` is at most `k` exactly if
-- this bit is false.
abbrev pub highest_bit_decides : ℕ → ℕ → Bool
highest_bit_decides range k = k + 1 == 2 ^ (bit_count range - 1)

-- The formula part for "the integer is at most `k`". It adds a variable after the first `n`, true
-- exactly if the literal `below` or `equal` is. It is empty if the highest bit suffices.
abbrev pub at_most_lit_part : ℕ → ℕ → Literal → Literal → ℕ → FormulaPart
at_most_lit_part range k below equal n =
    if highest_bit_decides range k then empty_part n else or_gate_part (below ∷ equal ∷ []) n

-- The literal that says that an integer below `range`, with its bits from `first` on, is at most
-- `k`.
abbrev pub at_most_lit : ℕ → ℕ → ℕ → ℕ → Literal
at_most_lit first range k n =
    if highest_bit_decides range k then negative_lit (first + (bit_count range - 1)) else positive_lit (n + 1)

-- The truth value of the new variable of `at_most_lit_part`, if it has one and the integer is `v`.
abbrev pub at_most_bits : ℕ → ℕ → ℕ → List Bool
at_most_bits range k v = if highest_bit_decides range k then [] else nat_le v k ∷ []
