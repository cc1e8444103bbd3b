use Rattle.std.proofs.Common.{◌≡◌, ℕ, ◌+◌, ◌<◌, take}
use Rattle.std.specs.Int.{bit_at}
use Rattle.ilk_plant.specs.Network.{contains_section}
use Rattle.ilk_model.proofs.SharedSections.{bit}
use Rattle.ilk_model.proofs.shared.section_bits_from.Given as goal

abbrev pub invariant-loop-y : goal.invariant-loop-y
invariant-loop-y l = (x : ℕ) → x < 128 → bit_at l.bits x ≡ bit (contains_section (l.from + x) (take l.y-index l.sections))
