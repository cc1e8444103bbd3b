use Rattle.std.proofs.Common.{◌≡◌, count_by, map, take}
use Rattle.std.specs.List.{range_with_len}
use Rattle.ilk_plant.specs.Network.{is_point}
use Rattle.ilk_plant.specs.Plant.{point_number}
use Rattle.ilk_plant.proofs.numbered_drafts.NumberedNetAndTable.point_number_per_section.Given as goal

abbrev pub invariant-loop-section : goal.invariant-loop-section
invariant-loop-section l = record {
  numbers : l.numbers ≡ map (point_number l.self) (range_with_len 0 l.section-index);
  points : l.points ≡ count_by is_point (take l.section-index l.self.sections);
}
