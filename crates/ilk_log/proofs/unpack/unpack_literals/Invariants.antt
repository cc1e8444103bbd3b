use Rattle.std.proofs.Common.{drop, ◌-◌}
use Rattle.ilk_log.specs.Packed.{decoded_numbers}
use Rattle.ilk_log.proofs.Unpacking.{AtLiterals}
use Rattle.ilk_log.proofs.unpack.unpack_literals.Given as goal

abbrev pub invariant-literals : goal.invariant-literals
invariant-literals l = AtLiterals (decoded_numbers 0 0 l.bytes) l.count l.lits (decoded_numbers l.last 0 (drop l.at l.bytes)) (l.count - l.i)
