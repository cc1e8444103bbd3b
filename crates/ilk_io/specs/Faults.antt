use Rattle.std.specs.Prelude.{◌≡◌, ℕ, ◌+◌, ◌^◌, nat_lt, if◌then◌else◌}

-- The number `n + 1`, or `n` if it is the greatest `u64`.
abbrev pub saturating_inc : ℕ → ℕ
saturating_inc n = if nat_lt (n + 1) (2 ^ 64) then n + 1 else n

-- Holds if the second fault count shows exactly one more fault than the first; counts saturate at
-- the greatest `u64`.
abbrev pub CountedOneFault : ℕ → ℕ → Type 0
CountedOneFault old new = new ≡ saturating_inc old
