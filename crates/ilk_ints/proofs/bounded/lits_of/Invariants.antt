use Rattle.std.proofs.Common.{◌≡◌, ◌+◌, ◌-◌, ◌++◌}
use Rattle.ilk_ints.specs.Bits.{lowest_bits_of, bit_pattern_lits}
use Rattle.ilk_ints.proofs.bounded.lits_of.Given as goal

abbrev pub invariant-loop-i : goal.invariant-loop-i
invariant-loop-i l = l.lits ++ bit_pattern_lits (l.first + l.i) (lowest_bits_of (l.count - l.i) l.rest) ≡ bit_pattern_lits l.first (lowest_bits_of l.count l.fn.value)
