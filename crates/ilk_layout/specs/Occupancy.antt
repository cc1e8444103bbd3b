-- The occupancy of a section.
use Rattle.std.specs.Prelude.{ℕ, Bool, false, Option, Some, None, List, [], ◌∷◌, ◌==◌, find, if◌then◌else◌}
use Rattle.ilk_plant.specs.Network.{contains_section}
use Rattle.ilk_plant.specs.Plant.{PlantLists}
use Rattle.ilk_plant.specs.declared.state.State.{State}
use Rattle.ilk_plant.specs.declared.state.Train.{Train}
use Rattle.ilk_motion.specs.Body.{is_last_section}
use Rattle.ilk_model.specs.Hazard.{is_section_hazardous}
use Rattle.ilk_layout.specs.declared.values.Occupancy.{Occupancy}
use Rattle.ilk_layout.specs.declared.values.Occupancy.TheVariants.{Vacant, Taken, Crash}

-- Returns whether `x` is the first of these sections.
abbrev pub is_first_section : ℕ → List ℕ → Bool
is_first_section x [] = false
is_first_section x (y ∷ rest) = y == x

-- Returns the occupancy of `x` by this train: its direction, and whether its tail and its head are
-- at `x`.
abbrev pub occupancy_by_train : ℕ → Train → Occupancy
occupancy_by_train x train = Taken train.dir (is_first_section x train.body) (is_last_section x train.body)

-- Returns the occupancy of `x` by this train, or `Vacant` if there is no train.
abbrev pub occupancy_by_train_if_any : ℕ → Option Train → Occupancy
occupancy_by_train_if_any x None = Vacant
occupancy_by_train_if_any x (Some train) = occupancy_by_train x train

-- Returns the occupancy of `x`: `Crash` if `x` has a hazard, otherwise that by the train with `x`
-- in its body.
abbrev pub occupancy_or_crash : PlantLists → State → ℕ → Occupancy
occupancy_or_crash p s x =
    if is_section_hazardous p s x then Crash else occupancy_by_train_if_any x (find (λ train. contains_section x train.body) s.trains)
