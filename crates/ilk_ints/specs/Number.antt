-- A bounded integer: the part that it adds to a formula, and literals that say its value.
use Rattle.std.specs.Prelude.{ℕ, ◌+◌, ◌-◌, ◌^◌, ◌<◌, ◌≡◌, Bool, List, map}
use Rattle.std.specs.List.{range_with_len}
use Rattle.ilk_cnf.specs.Literal.{Literal, negated_lit}
use Rattle.ilk_cnf.specs.Part.{FormulaPart, and_gate_part}
use Rattle.ilk_ints.specs.Bits.{bit_count, lowest_bits_of, assigned_bits_from_var, bit_pattern_lits, same_bits}

-- The literals that are all true exactly if the integer below `range`, with its bits from `first`
-- on, is `v`.
abbrev pub value_bit_lits : ℕ → ℕ → ℕ → List Literal
value_bit_lits first range v = bit_pattern_lits first (lowest_bits_of (bit_count range) v)

-- The clauses that rule out each bit pattern that is not a value below `range`.
abbrev pub non_value_clauses : ℕ → ℕ → List (List Literal)
non_value_clauses first range =
    map (λ v. map negated_lit (value_bit_lits first range v)) (range_with_len range (2 ^ bit_count range - range))

-- The formula part of an integer below `range`, after the first `n` variables: a variable for each
-- bit, and clauses that rule out other patterns.
abbrev pub number_part : ℕ → ℕ → FormulaPart
number_part range n = record { vars = n + bit_count range; clauses = non_value_clauses (n + 1) range }

-- The formula part that adds a variable after the first `n`, true exactly if the integer is `v`.
abbrev pub value_lit_part : ℕ → ℕ → ℕ → ℕ → FormulaPart
value_lit_part first range v n = and_gate_part (value_bit_lits first range v) n

-- Returns whether the integer has the value `v` in assignment `a`.
abbrev pub bits_have_value : List Bool → ℕ → ℕ → ℕ → Bool
bits_have_value a first range v = same_bits (assigned_bits_from_var a first (bit_count range)) (lowest_bits_of (bit_count range) v)

-- Holds if `b` are the bits of some value below `range`.
abbrev pub AreBitsInRange : ℕ → List Bool → Type 0
AreBitsInRange range b = (v : ℕ) × (v < range) × (b ≡ lowest_bits_of (bit_count range) v)
