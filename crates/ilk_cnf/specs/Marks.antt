-- Marks for the variables of a formula. Used only by private contracts and proofs.
use Rattle.std.specs.Prelude.{ℕ, ◌-◌, ◌==◌, Bool, List, slice_index_or}

-- Returns whether variable `v` is marked: its entry `v - 1` is 1.
abbrev pub is_marked : List ℕ → ℕ → Bool
is_marked marks v = slice_index_or marks (v - 1) 0 == 1
