-- The values in range that are the image of a well-formed state without hazard: a condition on each
-- section and its neighbours.
use Rattle.std.specs.Prelude.{ℕ, Bool, true, false, not, ◌&&◌, ◌||◌, ◌==◌, Option, Some, None, List, length, slice_get}
use Rattle.ilk_base.specs.Each.{is_true_for_all_below}
use Rattle.ilk_base.specs.Option.{◌>>=◌, is_some_and, then_some}
use Rattle.ilk_plant.specs.Network.{same_direction}
use Rattle.ilk_plant.specs.NetworkRules.{opposite_direction}
use Rattle.ilk_plant.specs.Plant.{PlantLists, point_number}
use Rattle.ilk_plant.specs.declared.network.Dir.{Dir}
use Rattle.ilk_plant.specs.declared.state.Lie.{Lie}
use Rattle.ilk_motion.specs.Ahead.{section_led_to}
use Rattle.ilk_routes.specs.Lies.{is_lie_moving}
use Rattle.ilk_layout.specs.Values.{detected_from_value, occupancy_from_value}
use Rattle.ilk_layout.specs.Variables.{detected_var, occupancy_var}
use Rattle.ilk_layout.specs.declared.values.Occupancy.{Occupancy}
use Rattle.ilk_layout.specs.declared.values.Occupancy.TheVariants.{Vacant, Taken, Crash}

-- Returns the detected position of the point on section `x` in these values. Returns `None` if `x`
-- has no point.
abbrev pub detected_in_values : PlantLists → List ℕ → ℕ → Option Lie
detected_in_values p values x = do
  n ← point_number p x
  value ← slice_get values (detected_var p n)
  detected_from_value value

-- Returns the occupancy of section `x` in these values. Returns `None` if no occupancy has its
-- value.
abbrev pub occupancy_in_values : PlantLists → List ℕ → ℕ → Option Occupancy
occupancy_in_values p values x = do
  value ← slice_get values (occupancy_var p x)
  occupancy_from_value value

-- Returns the section next to `x` in direction `d`, by the position `lie` of a point. Returns
-- `None` if there is none.
abbrev pub section_ahead : PlantLists → (ℕ → Option Lie) → ℕ → Dir → Option ℕ
section_ahead p lie x d = do
  section ← slice_get p.sections x
  section_led_to section d (lie x)

-- Returns the section ahead of `x` in direction `d`, if `x` is ahead of that section in the
-- opposite direction. Otherwise returns `None`.
abbrev pub mutual_section_ahead : PlantLists → (ℕ → Option Lie) → ℕ → Dir → Option ℕ
mutual_section_ahead p lie x d = do
  y ← section_ahead p lie x d
  back ← section_ahead p lie y (opposite_direction d)
  then_some (back == x) y

-- Returns whether a train in direction `d` is on the section and its tail isn't, so that it
-- continues behind.
abbrev pub has_train_continuing_behind : Dir → Occupancy → Bool
has_train_continuing_behind d Vacant = false
has_train_continuing_behind d (Taken e tail head) = same_direction e d && not tail
has_train_continuing_behind d Crash = false

-- Returns whether a train in direction `d` is on the section and its head isn't, so that it
-- continues ahead.
abbrev pub has_train_continuing_ahead : Dir → Occupancy → Bool
has_train_continuing_ahead d Vacant = false
has_train_continuing_ahead d (Taken e tail head) = same_direction e d && not head
has_train_continuing_ahead d Crash = false

-- Returns whether the occupancy of `x` fits its neighbours. It is not `Crash`, and no point under a
-- train is moving. Unless the train's head is at `x`, the next section of its body has a train in
-- the same direction with more behind. Unless its tail is at `x`, the section before has such a
-- train with more ahead.
abbrev pub occupancy_is_consistent : PlantLists → (ℕ → Option Lie) → (ℕ → Option Occupancy) → ℕ → Option Occupancy → Bool
occupancy_is_consistent p lie occupancy x None = false
occupancy_is_consistent p lie occupancy x (Some Vacant) = true
occupancy_is_consistent p lie occupancy x (Some Crash) = false
occupancy_is_consistent p lie occupancy x (Some (Taken d tail head)) =
    not (is_some_and (lie x) is_lie_moving)
    && (head || is_some_and (mutual_section_ahead p lie x d) (λ y. is_some_and (occupancy y) (has_train_continuing_behind d)))
    && (tail || is_some_and (mutual_section_ahead p lie x (opposite_direction d)) (λ y. is_some_and (occupancy y) (has_train_continuing_ahead d)))

-- Returns whether the occupancy of each section, by the values of an image, fits its neighbours.
abbrev pub is_wellformed : PlantLists → List ℕ → Bool
is_wellformed p values = is_true_for_all_below (length p.sections) (λ x. occupancy_is_consistent p (detected_in_values p values) (occupancy_in_values p values) x (occupancy_in_values p values x))
