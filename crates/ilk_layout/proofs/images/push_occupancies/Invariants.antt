use Rattle.std.proofs.Common.{◌≡◌, ◌++◌, drop, map}
use Rattle.ilk_layout.specs.Values as numbers
use Rattle.ilk_layout.proofs.images.push_occupancies.Given as goal

abbrev pub invariant-loop-occupancy : goal.invariant-loop-occupancy
invariant-loop-occupancy l =
    l.values ++ map numbers.occupancy_value (drop l.occupancy-index l.occupancy-items) ≡ l.initial.values ++ map numbers.occupancy_value l.occupancy-items
