use Rattle.std.proofs.Common.{◌≡◌, length}
use Rattle.ilk_plant.specs.Shape.{HasShape}
use Rattle.ilk_drive.specs.Places.{ContainsEnabledAutomaticIndices}
use Rattle.ilk_drive.proofs.driving.do_automatic.Given as goal

abbrev pub invariant-loop-place : goal.invariant-loop-place
invariant-loop-place l = record {
  same : l.s ≡ l.fn.s;
  shape : HasShape l.plant l.s;
  covers : ContainsEnabledAutomaticIndices l.plant l.s l.candidates;
}

abbrev pub decreases-loop-place : goal.decreases-loop-place
decreases-loop-place l = length l.candidates
