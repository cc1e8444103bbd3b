use Rattle.std.proofs.Common.{ℕ, ◌≡◌, ◌==◌, ◌<◌, take}
use Rattle.ilk_base.specs.BitSet.{bit_set_contains}
use Rattle.ilk_base.specs.Numbers.{has_number}
use Rattle.ilk_base.proofs.bit_set.BitSet256.from_numbers.Given as goal

abbrev pub invariant-loop-y : goal.invariant-loop-y
invariant-loop-y l = (x : ℕ) → x < 256 → bit_set_contains l.set x ≡ has_number x (take l.y-index l.numbers)
