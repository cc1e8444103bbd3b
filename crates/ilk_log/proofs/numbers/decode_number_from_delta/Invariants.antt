use Rattle.std.proofs.Common.{length, ◌-◌, ◌≡◌, drop}
use Rattle.ilk_log.specs.Packed.{decoded_numbers}
use Rattle.ilk_log.proofs.numbers.decode_number_from_delta.Given as goal

abbrev pub invariant-bytes : goal.invariant-bytes
invariant-bytes l = decoded_numbers l.last 0 (drop l.at l.bytes) ≡ decoded_numbers l.last l.way (drop l.next l.bytes)

abbrev pub decreases-bytes : goal.decreases-bytes
decreases-bytes l = length l.bytes - l.next
