-- The initial state.
use Rattle.std.specs.Prelude.{[], length, replicate}
use Rattle.ilk_plant.specs.Plant.{PlantLists, point_count}
use Rattle.ilk_plant.specs.declared.network.Position.TheVariants.{Plus}
use Rattle.ilk_plant.specs.declared.state.Aspect.TheVariants.{Closed}
use Rattle.ilk_plant.specs.declared.state.Hold.TheVariants.{Free as FreeLock}
use Rattle.ilk_plant.specs.declared.state.Lie.TheVariants.{Plus as LiesPlus}
use Rattle.ilk_plant.specs.declared.state.Mode.TheVariants.{Free}
use Rattle.ilk_plant.specs.declared.state.PointState.{PointState}
use Rattle.ilk_plant.specs.declared.state.RouteState.{RouteState}
use Rattle.ilk_plant.specs.declared.state.State.{State}

abbrev pub free_route_state : RouteState
free_route_state = record { mode = Free; seen = 0; rel = 0 }

abbrev pub plus_point_state : PointState
plus_point_state = record { at = LiesPlus; to = Plus }

-- The initial state: no train, all routes free, all points at plus and commanded there, all boards
-- closed, all locks free.
abbrev pub start : PlantLists → State
start p = record {
  routes = replicate (length p.routes) free_route_state;
  points = replicate (point_count p) plus_point_state;
  boards = replicate (length p.boards) Closed;
  locks = replicate (length p.sections) FreeLock;
  trains = [];
}
