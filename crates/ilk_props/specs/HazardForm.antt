-- The form "some section has a hazard". A state's image shows a hazard as the occupancy `Crash`.
use Rattle.std.specs.Prelude.{ℕ, length, map}
use Rattle.std.specs.List.{range_with_len}
use Rattle.ilk_ir.specs.Tree.{Tree, any_of, trees_from_list}
use Rattle.ilk_plant.specs.Plant.{PlantLists}
use Rattle.ilk_layout.specs.declared.values.Occupancy.TheVariants.{Crash}
use Rattle.ilk_layout.specs.Conditions.{occupancy_is}

-- The form "section `x` has a hazard": its occupancy is `Crash`.
abbrev pub hazard_in_section : PlantLists → ℕ → Tree
hazard_in_section p x = occupancy_is p x Crash

-- The form "some section has a hazard".
abbrev pub hazard_tree : PlantLists → Tree
hazard_tree p = any_of (trees_from_list (map (hazard_in_section p) (range_with_len 0 (length p.sections))))
