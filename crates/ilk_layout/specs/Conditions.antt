-- Atomic formulas over the image of a state: each compares the value of one variable.
use Rattle.std.specs.Prelude.{ℕ, Option, Some, None}
use Rattle.ilk_ir.specs.Tree.{Tree, no, is, negation}
use Rattle.ilk_plant.specs.Plant.{PlantLists, point_number}
use Rattle.ilk_plant.specs.declared.network.Position.{Position}
use Rattle.ilk_plant.specs.declared.state.Aspect.{Aspect}
use Rattle.ilk_plant.specs.declared.state.Hold.{Hold}
use Rattle.ilk_plant.specs.declared.state.Lie.{Lie}
use Rattle.ilk_plant.specs.declared.state.Mode.{Mode}
use Rattle.ilk_plant.specs.declared.table.Listed.{Listed}
use Rattle.ilk_routes.specs.Lies.{lie_from_position}
use Rattle.ilk_layout.specs.Values.{aspect_value, lock_value, detected_value, mode_value, occupancy_value, commanded_value}
use Rattle.ilk_layout.specs.Variables.{detected_var, board_var, lock_var, mode_var, occupancy_var, released_count_var, seen_count_var, commanded_var}
use Rattle.ilk_layout.specs.declared.values.Occupancy.{Occupancy}
use Rattle.ilk_layout.specs.declared.values.Occupancy.TheVariants.{Vacant}

-- Returns the formula: route `r` is in `mode`.
abbrev pub mode_is : ℕ → Mode → Tree
mode_is r mode = is (mode_var r) (mode_value mode)

-- Returns the formula: `count` path sections of route `r` were seen occupied.
abbrev pub is_seen_count : ℕ → ℕ → Tree
is_seen_count r count = is (seen_count_var r) count

-- Returns the formula: `count` path sections of route `r` were released.
abbrev pub is_released_count : ℕ → ℕ → Tree
is_released_count r count = is (released_count_var r) count

-- Returns the formula: point number `n` is detected in position `lie`.
abbrev pub is_point_detected : PlantLists → ℕ → Lie → Tree
is_point_detected p n lie = is (detected_var p n) (detected_value lie)

-- Returns the formula: point number `n` is commanded to `position`.
abbrev pub is_point_commanded : PlantLists → ℕ → Position → Tree
is_point_commanded p n position = is (commanded_var p n) (commanded_value position)

-- Returns the formula: board `m` shows `aspect`.
abbrev pub is_board_aspect : PlantLists → ℕ → Aspect → Tree
is_board_aspect p m aspect = is (board_var p m) (aspect_value aspect)

-- Returns the formula: the lock of section `x` is `hold`.
abbrev pub lock_is : PlantLists → ℕ → Hold → Tree
lock_is p x hold = is (lock_var p x) (lock_value hold)

-- Returns the formula: section `x` has this occupancy.
abbrev pub occupancy_is : PlantLists → ℕ → Occupancy → Tree
occupancy_is p x occupancy = is (occupancy_var p x) (occupancy_value occupancy)

-- Returns the formula: section `x` is vacant.
abbrev pub no_train_at : PlantLists → ℕ → Tree
no_train_at p x = occupancy_is p x Vacant

-- Returns the formula: section `x` is not vacant.
abbrev pub train_at : PlantLists → ℕ → Tree
train_at p x = negation (no_train_at p x)

-- Returns the formula: the point on section `x` is detected in position `lie`. It never holds if
-- `x` has no point.
abbrev pub section_point_is_detected : PlantLists → ℕ → Lie → Tree
section_point_is_detected p x lie = of_point (point_number p x)
  where
    of_point : Option ℕ → Tree
    of_point None = no
    of_point (Some n) = is_point_detected p n lie

-- Returns the formula: the point is detected in the position that its route lists for it.
abbrev pub is_listed_point_detected : PlantLists → Listed → Tree
is_listed_point_detected p listed = section_point_is_detected p listed.point (lie_from_position listed.at)

-- Returns the formula: the point on section `x` is commanded to `position`. It never holds if `x`
-- has no point.
abbrev pub section_point_is_commanded : PlantLists → ℕ → Position → Tree
section_point_is_commanded p x position = of_point (point_number p x)
  where
    of_point : Option ℕ → Tree
    of_point None = no
    of_point (Some n) = is_point_commanded p n position

-- Returns the formula: the point is commanded to the position that its route lists for it.
abbrev pub is_listed_point_commanded : PlantLists → Listed → Tree
is_listed_point_commanded p listed = section_point_is_commanded p listed.point listed.at
