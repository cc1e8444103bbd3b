-- The two point events: the next state if the event is enabled, otherwise `None`.
use Rattle.std.specs.Prelude.{ℕ, Option, ◌&&◌, slice_get, set, not}
use Rattle.ilk_base.specs.Option.{◌>>=◌, then_some}
use Rattle.ilk_plant.specs.Plant.{PlantLists, point_number}
use Rattle.ilk_plant.specs.declared.state.Lie.TheVariants.{Moving}
use Rattle.ilk_plant.specs.declared.state.State.{State}
use Rattle.ilk_routes.specs.Lies.{is_lie_moving, lie_from_position, is_lie_at_position}

-- The state after `throw x`. Enabled if the point on section `x` neither moves nor is detected in
-- its commanded position. It starts to move.
abbrev pub after_throw : PlantLists → State → ℕ → Option State
after_throw p s x = do
  n ← point_number p x
  point ← slice_get s.points n
  then_some (not (is_lie_moving point.at) && not (is_lie_at_position point.at point.to)) (record s { points = set s.points n (record point { at = Moving }) })

-- The state after `settle x`. Enabled if the point on section `x` is moving. It becomes detected in
-- its commanded position.
abbrev pub after_settle : PlantLists → State → ℕ → Option State
after_settle p s x = do
  n ← point_number p x
  point ← slice_get s.points n
  then_some (is_lie_moving point.at) (record s { points = set s.points n (record point { at = lie_from_position point.to }) })
