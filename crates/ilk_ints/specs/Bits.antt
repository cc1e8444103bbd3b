-- A number below a range as bits, lowest first.
use Rattle.std.specs.Prelude.{ℕ, zero, suc, ◌+◌, ◌/◌, ◌%◌, ◌^◌, ◌==◌, nat_le, Bool, true, false, List, [], ◌∷◌, map, unwrap_or, ◌&&◌, not, if◌then◌else◌}
use Rattle.std.specs.List.{find, range_with_len}
use Rattle.ilk_cnf.specs.Literal.{Literal}
use Rattle.ilk_cnf.specs.Truth.{value}

-- The number of bits of an integer below `range`, for ranges up to 256: the least b with 2 ^ b at
-- least `range`.
abbrev pub bit_count : ℕ → ℕ
bit_count range = unwrap_or (find (λ b. nat_le range (2 ^ b)) (range_with_len 0 8)) 8

-- The `b` lowest bits of the number `v`, the lowest first.
abbrev pub lowest_bits_of : ℕ → ℕ → List Bool
lowest_bits_of zero v = []
lowest_bits_of (suc b) v = (v % 2 == 1) ∷ lowest_bits_of b (v / 2)

-- The truth values in assignment `a` of the `b` variables from `first` on.
abbrev pub assigned_bits_from_var : List Bool → ℕ → ℕ → List Bool
assigned_bits_from_var a first b = map (value a) (range_with_len first b)

-- Returns whether two lists of bits are equal.
abbrev pub same_bits : List Bool → List Bool → Bool
same_bits [] [] = true
same_bits [] (q ∷ qs) = false
same_bits (p ∷ ps) [] = false
same_bits (p ∷ ps) (q ∷ qs) = (if q then p else not p) && same_bits ps qs

-- The literals that are all true if and only if the variables from `first` on have these bits.
abbrev pub bit_pattern_lits : ℕ → List Bool → List Literal
bit_pattern_lits first [] = []
bit_pattern_lits first (q ∷ qs) = (record { var = first; positive = q }) ∷ bit_pattern_lits (first + 1) qs
