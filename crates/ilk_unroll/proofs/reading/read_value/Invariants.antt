use Rattle.std.proofs.Common.{◌≡◌, ℕ, ◌<◌, length, map, drop}
use Rattle.ilk_cnf.specs.Truth.{is_true}
use Rattle.ilk_ints.specs.Named.{one_hot_bits}
use Rattle.ilk_unroll.proofs.ReadBack.{SaysFrom}
use Rattle.ilk_unroll.proofs.reading.read_value.Given as goal

abbrev pub invariant-loop-lit : goal.invariant-loop-lit
invariant-loop-lit l =
    record {
      counted : l.value ≡ l.lit-index;
      says : (value : ℕ) → value < length l.values → map (is_true l.a) l.values ≡ one_hot_bits value 0 (length l.values) → SaysFrom l.a l.lit-index value (drop l.lit-index l.values);
    }
