use Rattle.std.proofs.Common.{◌≡◌, ℕ, ◌+◌, ◌<◌, ◌==◌, take}
use Rattle.std.specs.Int.{bit_at}
use Rattle.std.specs.List.{list_any}
use Rattle.ilk_model.proofs.SharedSections.{bit}
use Rattle.ilk_model.proofs.held.sections_of_points.Given as goal

abbrev pub invariant-loop-listed : goal.invariant-loop-listed
invariant-loop-listed l = (x : ℕ) → x < 128 → bit_at l.bits x ≡ bit (list_any (λ listed. listed.point == l.from + x) (take l.listed-index l.points))
