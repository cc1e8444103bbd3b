-- Used only in private contracts and proofs: the word of a variable and its weight at a node of a
-- tree.
--
-- The greater of two words is that of the heavier variable, or of the lesser one at a tie. No
-- variable has the word 0.
use Rattle.std.specs.Prelude.{ℕ, ◌≡◌, ◌==◌, ◌⊎◌, ◌≤◌, ◌+◌, ◌*◌, ◌-◌, ◌%◌, List, slice_index, if◌then◌else◌}
use Rattle.ilk_solver.specs.declared.word.TheConstants.{WEIGHT_LIMIT}

-- Returns the word of variable `v`, whose weight is entry `v - 1`.
abbrev pub packed_weight_and_variable : List ℕ → ℕ → ℕ
packed_weight_and_variable weights v = slice_index weights (v - 1) * WEIGHT_LIMIT + (WEIGHT_LIMIT - 1 - v)

-- Returns the variable with this word, or 0 if the word is 0.
abbrev pub variable_of : ℕ → ℕ
variable_of word = if word == 0 then 0 else (WEIGHT_LIMIT - 1 - word % WEIGHT_LIMIT)

-- Holds if `x` is the greater of `a` and `b`.
abbrev pub IsGreaterOfTwo : ℕ → ℕ → ℕ → Type 0
IsGreaterOfTwo x a b = (a ≤ x) × (b ≤ x) × ((x ≡ a) ⊎ (x ≡ b))
