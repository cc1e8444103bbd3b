-- Safety of a plant for runs of any length.
use Rattle.std.specs.Prelude.{◌≡◌, Some, List}
use Rattle.ilk_plant.specs.Plant.{PlantLists}
use Rattle.ilk_plant.specs.Start.{start}
use Rattle.ilk_plant.specs.declared.state.State.{State}
use Rattle.ilk_model.specs.Meets.{Meets}
use Rattle.ilk_model.specs.Run.{run}
use Rattle.ilk_model.specs.declared.event.Event.{Event}

-- Holds if each run from the initial state, of any length, ends in a state that meets the
-- invariant. It is then well-formed, has no hazard and keeps all nine families.
abbrev pub AlwaysKeepsInvariant : PlantLists → Type 0
AlwaysKeepsInvariant p = (events : List Event) (t : State) → run p (start p) events ≡ Some t → Meets p t
