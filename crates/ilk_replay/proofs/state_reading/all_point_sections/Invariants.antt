use Rattle.std.proofs.Common.{◌≡◌, filter}
use Rattle.std.specs.List.{range_with_len}
use Rattle.ilk_plant.specs.Plant.{is_point_section}
use Rattle.ilk_replay.proofs.state_reading.all_point_sections.Given as goal

abbrev pub invariant-loop-x : goal.invariant-loop-x
invariant-loop-x l = l.numbers ≡ filter (is_point_section l.plant) (range_with_len 0 l.x)
