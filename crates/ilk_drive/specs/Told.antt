-- The run of a drive, as its text describes it and a replay shows it.
use Rattle.std.specs.Prelude.{◌≡◌, ◌≢◌, Some, List}
use Rattle.ilk_plant.specs.Plant.{PlantLists}
use Rattle.ilk_plant.specs.Start.{start}
use Rattle.ilk_plant.specs.declared.state.State.{State}
use Rattle.ilk_model.specs.Run.{run}
use Rattle.ilk_model.specs.declared.event.Event.{Event}
use Rattle.ilk_model.specs.declared.hazards.HazardAt.{HazardAt}
use Rattle.ilk_replay.specs.declared.seen.Seen.{Seen}
use Rattle.ilk_replay.specs.declared.seen.Seen.TheVariants.{NoHazard, Hazard as SeenHazard}
use Rattle.ilk_drive.specs.declared.outcome.Rest.{Rest}
use Rattle.ilk_drive.specs.declared.outcome.Rest.TheVariants.{Driven, Stuck, Hazard}

-- Holds if these events are a run from the initial state.
abbrev pub IsRunFromStart : PlantLists → List Event → Type 0
IsRunFromStart p events = (t : State) × (run p (start p) events ≡ Some t)

-- Returns the result of replaying the events of a drive that ended with `rest`: its hazard, or no
-- hazard.
abbrev pub replay_result_of_outcome : Rest → Seen
replay_result_of_outcome (Hazard at) = SeenHazard at
replay_result_of_outcome Driven = NoHazard
replay_result_of_outcome (Stuck n) = NoHazard

-- Holds if a drive with this result doesn't end in a hazard.
abbrev pub IsOutcomeWithoutHazard : Rest → Type 0
IsOutcomeWithoutHazard rest = (at : HazardAt) → rest ≢ Hazard at
