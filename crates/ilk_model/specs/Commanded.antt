-- Commanded positions of points.
use Rattle.std.specs.Prelude.{ℕ, Bool, true, false, Option, Some, slice_get}
use Rattle.ilk_base.specs.Option.{◌>>=◌, is_some_and}
use Rattle.ilk_plant.specs.Plant.{PlantLists, point_number}
use Rattle.ilk_plant.specs.declared.network.Position.{Position}
use Rattle.ilk_plant.specs.declared.network.Position.TheVariants.{Plus, Minus}
use Rattle.ilk_plant.specs.declared.state.State.{State}
use Rattle.ilk_plant.specs.declared.table.Listed.{Listed}

-- Returns whether two positions are equal.
abbrev pub same_position : Position → Position → Bool
same_position Plus Plus = true
same_position Minus Minus = true
same_position a b = false

-- The commanded position of the point on section x in state s, or `None` if x is not a point
-- section.
abbrev pub commanded_position_in_state : PlantLists → State → ℕ → Option Position
commanded_position_in_state p s x = do
  n ← point_number p x
  point ← slice_get s.points n
  Some point.to

-- Returns whether a point that a route lists is commanded to its listed position.
abbrev pub is_point_commanded_as_listed : PlantLists → State → Listed → Bool
is_point_commanded_as_listed p s listed = is_some_and (commanded_position_in_state p s listed.point) (λ to. same_position to listed.at)
