use Rattle.std.proofs.Common.{◌≡◌, ◌++◌, drop, length}
use Rattle.ilk_log.specs.Packed.{decoded_numbers}
use Rattle.ilk_log.proofs.unpack.unpack_hints.Given as goal

abbrev pub invariant-numbers : goal.invariant-numbers
invariant-numbers l = l.hints ++ decoded_numbers l.last 0 (drop l.at l.bytes) ≡ decoded_numbers l.initial.last 0 (drop l.initial.at l.bytes)

abbrev pub decreases-numbers : goal.decreases-numbers
decreases-numbers l = length (decoded_numbers l.last 0 (drop l.at l.bytes))
