use Rattle.std.proofs.Common.{◌≡◌, length, map, take}
use Rattle.std.specs.List.{range_with_len}
use Rattle.ilk_layout.specs.Occupancy.{occupancy_or_crash}
use Rattle.ilk_layout.proofs.Trains.{with_trains}
use Rattle.ilk_layout.proofs.occupancies.occupancies.Given as goal

abbrev pub invariant-loop-train : goal.invariant-loop-train
invariant-loop-train l =
    l.made ≡ map (occupancy_or_crash l.plant (with_trains l.s (take l.train-index l.train-items))) (range_with_len 0 (length l.plant.sections))
