-- Used only by private contracts: the list lengths that a well-formed state has.
use Rattle.std.specs.Prelude.{◌≡◌, length}
use Rattle.ilk_plant.specs.Plant.{PlantLists, point_count}
use Rattle.ilk_plant.specs.declared.state.State.{State}

-- Holds if the state has as many routes, points, boards and section locks as the plant.
pub record HasLengthsOfPlant (p : PlantLists) (s : State) : Type 0 where
  pub routes : length s.routes ≡ length p.routes
  pub points : length s.points ≡ point_count p
  pub boards : length s.boards ≡ length p.boards
  pub locks : length s.locks ≡ length p.sections
