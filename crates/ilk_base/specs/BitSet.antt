-- Sets of numbers below 256.
use Rattle.std.specs.Prelude.{ℕ, ◌-◌, ◌==◌, Bool, if◌then◌else◌, nat_lt}
use Rattle.std.specs.Int.{bit_at}
use Rattle.ilk_base.specs.declared.bit_set.BitSet256.{BitSet256}

-- Returns whether number `y` is in the set.
abbrev pub bit_set_contains : BitSet256 → ℕ → Bool
bit_set_contains set y = if nat_lt y 128 then bit_at set.low y == 1 else bit_at set.high (y - 128) == 1
