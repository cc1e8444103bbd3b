-- The progress of a drive in the code. Used only in private contracts.
use Rattle.std.specs.Prelude.{ℕ, ◌+◌, ◌≡◌, Option, Some, None, List, drop, unwrap_or}
use Rattle.ilk_base.specs.Option.{◌>>=◌}
use Rattle.ilk_plant.specs.Plant.{PlantLists}
use Rattle.ilk_plant.specs.declared.state.State.{State}
use Rattle.ilk_model.specs.Event.{next}
use Rattle.ilk_model.specs.declared.event.Event.{Event}
use Rattle.ilk_drive.specs.Drive.{StateAndCommandsLeft, DriveStep, first_automatic}

-- Returns the moment with state `s` at which `given` commands of the scenario have occurred.
abbrev pub state_and_commands_after_first_n : List Event → State → ℕ → StateAndCommandsLeft
state_and_commands_after_first_n scene s given = record { state = s; commands = drop given scene; number = given + 1 }

-- Returns the state after the first enabled automatic event, or `s` if none is enabled.
abbrev pub state_after_first_automatic : PlantLists → State → State
state_after_first_automatic p s = unwrap_or (first_automatic p s >>= next p s) s

-- Holds if `event` occurs as the next event of the drive and leads to the moment `after`. Without
-- an event, holds if there is no next event and the moment stays the same.
abbrev pub IsStepOrUnchanged : Option DriveStep → StateAndCommandsLeft → StateAndCommandsLeft → Option Event → Type 0
IsStepOrUnchanged taken m after None = (taken ≡ None) × (after ≡ m)
IsStepOrUnchanged taken m after (Some event) = taken ≡ Some (event, after)
