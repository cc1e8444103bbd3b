use Rattle.std.proofs.Common.{◌≡◌, take}
use Rattle.ilk_plant.proofs.state.copy_trains.Given as goal

abbrev pub invariant-loop-train : goal.invariant-loop-train
invariant-loop-train l = l.made ≡ take l.train-index l.train-items
