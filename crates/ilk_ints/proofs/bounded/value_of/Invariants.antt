use Rattle.std.proofs.Common.{◌≡◌, ◌+◌, ◌-◌, ◌<◌, ◌^◌}
use Rattle.ilk_ints.specs.Bits.{lowest_bits_of, assigned_bits_from_var}
use Rattle.ilk_ints.proofs.bounded.value_of.Given as goal

abbrev pub invariant-loop-k : goal.invariant-loop-k
invariant-loop-k l =
    record {
      bits : lowest_bits_of l.k l.value ≡ assigned_bits_from_var l.a (l.fn.n.first + (l.count - l.k)) l.k;
      less : l.value < 2 ^ l.k;
      small : l.value < 256;
    }
