-- Used only by private contracts: the fields of a plant, with the index of point numbers.
use Rattle.std.specs.Prelude.{ℕ, ◌≡◌, Option, List, length, map}
use Rattle.std.specs.List.{range_with_len}
use Rattle.ilk_plant.specs.Plant.{IsPlant, PlantLists, point_number}
use Rattle.ilk_plant.specs.Sound.{IsFromSoundDrafts, IsAcyclic}

-- For each section the number of the point on it, or `None` if it has no point.
abbrev pub point_number_per_section : PlantLists → List (Option ℕ)
point_number_per_section p = map (point_number p) (range_with_len 0 (length p.sections))

-- Holds for every plant. It has valid names and numbers (`IsPlant`), no walk in one direction
-- visits a section twice, and it comes from drafts that violate no rule.
pub record IsAcyclicFromSoundDrafts (p : PlantLists) : Type 0 where
  pub plant : IsPlant p
  pub walks : IsAcyclic p
  pub drafts : IsFromSoundDrafts p

-- Holds for the fields of a plant: the lists satisfy `IsAcyclicFromSoundDrafts`, and `numbers` has
-- for each section the number of its point.
pub record IsSoundWithPointNumbers (p : PlantLists) (numbers : List (Option ℕ)) : Type 0 where
  pub sound : IsAcyclicFromSoundDrafts p
  pub points : numbers ≡ point_number_per_section p
