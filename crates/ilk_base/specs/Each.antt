-- Tests of every number below a bound.
use Rattle.std.specs.Prelude.{ℕ, Bool}
use Rattle.std.specs.List.{list_any, list_all, range_with_len}

-- Returns whether a test passes for every number below `n`.
abbrev pub is_true_for_all_below : ℕ → (ℕ → Bool) → Bool
is_true_for_all_below n test = list_all test (range_with_len 0 n)

-- Returns whether a test passes for some number below `n`.
abbrev pub is_true_for_any_below : ℕ → (ℕ → Bool) → Bool
is_true_for_any_below n test = list_any test (range_with_len 0 n)
