use Rattle.std.proofs.Common.{arith, length}
use Rattle.std.specs.List.{range_with_len}
use Rattle.ilk_layout.specs.Occupancy.{occupancy_or_crash}
use Rattle.ilk_layout.specs.Values.{occupancy_value}
use Rattle.ilk_layout.proofs.Pushes.{map-pushed}
use Rattle.ilk_layout.proofs.images.push_occupancies.Goals as goal
use Rattle.std.proofs.Common.{◌∙◌}

pub returns : goal.returns
returns c =
    map-pushed occupancy_value (occupancy_or_crash c.args.plant.now c.args.s.now)
    c.as_slice-occupancy-items.result.now (range_with_len 0 (length c.args.plant.now.sections))
    c.loop-occupancy.occupancy-index c.args.values.now c.loop-occupancy.values c.loop-occupancy.invariant
    (omega arith) (c.as_slice-occupancy-items.ensures ∙ c.in_ok-made.ensures)
