use Rattle.std.proofs.Common.{◌≡◌, replicate}
use Rattle.ilk_plant.proofs.start.copies.Given as goal

abbrev pub invariant-loop-i : goal.invariant-loop-i
invariant-loop-i g l = l.row ≡ replicate l.i l.item
