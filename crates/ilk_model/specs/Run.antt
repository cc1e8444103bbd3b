-- Runs: lists of events, each enabled in turn. Only the last state may have a hazard.
use Rattle.std.specs.Prelude.{Option, Some, List, [], ◌∷◌, is_none}
use Rattle.ilk_base.specs.Option.{◌>>=◌, then_some}
use Rattle.ilk_plant.specs.Plant.{PlantLists}
use Rattle.ilk_plant.specs.declared.state.State.{State}
use Rattle.ilk_model.specs.Event.{next}
use Rattle.ilk_model.specs.Hazard.{hazard}
use Rattle.ilk_model.specs.declared.event.Event.{Event}

-- The state after an event, or `None` if the event is not enabled or the state before it has a
-- hazard.
abbrev pub next_from_hazard_free : PlantLists → State → Event → Option State
next_from_hazard_free p s event = do
  safe ← then_some (is_none (hazard p s)) s
  next p safe event

-- The last state of the run of these events from s, or `None` if they are not a run.
abbrev pub run : PlantLists → State → List Event → Option State
run p s [] = Some s
run p s (event ∷ rest) = do
  t ← next_from_hazard_free p s event
  run p t rest
