-- The result of replaying a list of events.
use Rattle.std.specs.Prelude.{ℕ, Option, Some, None, List, length, take, find, is_none, unwrap_or}
use Rattle.std.specs.List.{range_with_len}
use Rattle.ilk_plant.specs.Plant.{PlantLists}
use Rattle.ilk_plant.specs.declared.state.State.{State}
use Rattle.ilk_model.specs.Hazard.{hazard}
use Rattle.ilk_model.specs.Run.{run}
use Rattle.ilk_model.specs.declared.event.Event.{Event}
use Rattle.ilk_model.specs.declared.hazards.HazardAt.{HazardAt}
use Rattle.ilk_replay.specs.declared.seen.Seen.{Seen}
use Rattle.ilk_replay.specs.declared.seen.Seen.TheVariants.{NotARun, NoHazard, Hazard}

-- Returns the number, from 1, of the first event that isn't enabled or follows a hazard, if the
-- events from state `s` aren't a run. Otherwise returns 0.
abbrev pub first_non_run_event_number : PlantLists → State → List Event → ℕ
first_non_run_event_number p s events =
    unwrap_or (find (λ n. is_none (run p s (take n events))) (range_with_len 1 (length events))) 0

-- Returns the result of replaying these events from state `s`: the hazard of the last state, or no
-- hazard. If the events are not a run, returns the number of the first event that isn't enabled or
-- follows a hazard.
abbrev pub replay_result : PlantLists → State → List Event → Seen
replay_result p s events = after (run p s events)
  where
    shown : Option HazardAt → Seen
    shown None = NoHazard
    shown (Some at) = Hazard at

    after : Option State → Seen
    after None = NotARun (first_non_run_event_number p s events)
    after (Some t) = shown (hazard p t)
