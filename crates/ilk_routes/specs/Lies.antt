-- Detected and commanded positions of points.
use Rattle.std.specs.Prelude.{ℕ, Bool, true, false, Option, None, List, [], ◌∷◌, ◌==◌, unwrap_or}
use Rattle.std.specs.Option.{option_or}
use Rattle.ilk_base.specs.Option.{is_some_and, then_some}
use Rattle.ilk_plant.specs.Plant.{PlantLists, point_number}
use Rattle.ilk_plant.specs.State.{detected_position_in_state}
use Rattle.ilk_plant.specs.declared.network.Position.{Position}
use Rattle.ilk_plant.specs.declared.network.Position.TheVariants.{Plus, Minus}
use Rattle.ilk_plant.specs.declared.state.Lie.{Lie}
use Rattle.ilk_plant.specs.declared.state.Lie.TheVariants.{Plus as LiesPlus, Minus as LiesMinus, Moving}
use Rattle.ilk_plant.specs.declared.state.PointState.{PointState}
use Rattle.ilk_plant.specs.declared.state.State.{State}
use Rattle.ilk_plant.specs.declared.table.Listed.{Listed}
use Rattle.ilk_base.specs.Numbered.{map_numbered}

-- Returns whether a detected position is moving.
abbrev pub is_lie_moving : Lie → Bool
is_lie_moving LiesPlus = false
is_lie_moving LiesMinus = false
is_lie_moving Moving = true

-- The detected position, plus or minus, that equals a commanded position.
abbrev pub lie_from_position : Position → Lie
lie_from_position Plus = LiesPlus
lie_from_position Minus = LiesMinus

-- Returns whether a detected position equals `position`; a moving point is in no position.
abbrev pub is_lie_at_position : Lie → Position → Bool
is_lie_at_position LiesPlus Plus = true
is_lie_at_position LiesMinus Minus = true
is_lie_at_position lie position = false

-- Returns whether the point in `listed` is detected in the position listed there.
abbrev pub is_point_detected_as_listed : PlantLists → State → Listed → Bool
is_point_detected_as_listed p s listed = is_some_and (detected_position_in_state p s listed.point) (λ lie. is_lie_at_position lie listed.at)

-- Returns whether `listed` lists the point with number `n`.
abbrev pub is_entry_for_point : PlantLists → ℕ → Listed → Bool
is_entry_for_point p n listed = is_some_and (point_number p listed.point) (λ m. m == n)

-- The position in which a list of points has the point with number `n`, or `None` if it doesn't. If
-- the list has it several times, the last counts.
abbrev pub listed_position : PlantLists → ℕ → List Listed → Option Position
listed_position p n [] = None
listed_position p n (listed ∷ rest) = option_or (listed_position p n rest) (then_some (is_entry_for_point p n listed) listed.at)

-- The states of all points after each point in `entries` is commanded to its listed position.
abbrev pub with_commands : PlantLists → List PointState → List Listed → List PointState
with_commands p points entries =
    map_numbered (λ n point. record point { to = unwrap_or (listed_position p n entries) point.to }) points
