use Rattle.std.proofs.Common.{◌≡◌, Some, take}
use Rattle.ilk_plant.specs.Shape.{HasShape}
use Rattle.ilk_model.specs.Run.{run}
use Rattle.ilk_replay.proofs.seen.replay.Given as goal

abbrev pub invariant-loop-i : goal.invariant-loop-i
invariant-loop-i l = record { ran : run l.plant l.fn.first (take l.i l.events) ≡ Some l.state; shape : HasShape l.plant l.state }
