-- A scenario run until it terminates. While an automatic event is enabled, the first one occurs;
-- otherwise the next command does. The drive ends at a hazard, or if neither is enabled.
use Rattle.std.specs.Prelude.{ℕ, ◌+◌, ◌≡◌, Bool, ◌&&◌, ◌==◌, Option, Some, None, List, [], ◌∷◌, ◌++◌, find, is_none, is_some, length, map, if◌then◌else◌}
use Rattle.std.specs.List.{list_all}
use Rattle.std.specs.Option.{option_or}
use Rattle.ilk_base.specs.Option.{◌>>=◌, then_some}
use Rattle.ilk_lines.specs.Reading.{indices_of_list}
use Rattle.ilk_plant.specs.Plant.{PlantLists}
use Rattle.ilk_plant.specs.Start.{start}
use Rattle.ilk_plant.specs.declared.state.Mode.TheVariants.{Free}
use Rattle.ilk_plant.specs.declared.state.State.{State}
use Rattle.ilk_routes.specs.Modes.{same_mode}
use Rattle.ilk_model.specs.Event.{next}
use Rattle.ilk_model.specs.Hazard.{hazard}
use Rattle.ilk_model.specs.declared.event.Event.{Event}
use Rattle.ilk_model.specs.declared.event.Event.TheVariants.{Allocate, Lock, Sense, Release, Finish, Throw, Settle, Head, Tail, Leave}
use Rattle.ilk_model.specs.declared.hazards.HazardAt.{HazardAt}
use Rattle.ilk_drive.specs.declared.outcome.Driven.{Driven}
use Rattle.ilk_drive.specs.declared.outcome.Rest.{Rest}
use Rattle.ilk_drive.specs.declared.outcome.Rest.TheVariants.{Driven as IsDriven, Stuck, Hazard}

-- Returns the automatic events of a plant, in order: allocate, lock, sense, release, finish, throw,
-- settle, head, tail, leave, each by ascending number.
abbrev pub automatic_events : PlantLists → List Event
automatic_events p =
    map Allocate (indices_of_list p.routes)
    ++ map Lock (indices_of_list p.routes)
    ++ map Sense (indices_of_list p.routes)
    ++ map Release (indices_of_list p.routes)
    ++ map Finish (indices_of_list p.routes)
    ++ map Throw (indices_of_list p.sections)
    ++ map Settle (indices_of_list p.sections)
    ++ map Head (indices_of_list p.sections)
    ++ map Tail (indices_of_list p.sections)
    ++ map Leave (indices_of_list p.sections)

-- Returns the first automatic event that is enabled in a state. Returns `None` if none is.
abbrev pub first_automatic : PlantLists → State → Option Event
first_automatic p s = find (λ event. is_some (next p s event)) (automatic_events p)

-- A moment of a drive: the state, the remaining commands, and the number of the first of them, from
-- 1. If none remains, the number is one more than the number of all commands.
pub record StateAndCommandsLeft : Type 0 where
  pub state : State
  pub commands : List Event
  pub number : ℕ

-- An event of a drive, and the moment after it.
abbrev pub DriveStep : Type 0
DriveStep = Event × StateAndCommandsLeft

-- Returns the first automatic event that is enabled, and the moment after it. Returns `None` if
-- none is.
abbrev pub automatic_step : PlantLists → StateAndCommandsLeft → Option DriveStep
automatic_step p m = do
  event ← first_automatic p m.state
  t ← next p m.state event
  Some (event, record m { state = t })

-- Returns the next command and the moment after it. Returns `None` if no command remains or it
-- isn't enabled.
abbrev pub command_step : PlantLists → StateAndCommandsLeft → Option DriveStep
command_step p m = given m.commands
  where
    given : List Event → Option DriveStep
    given [] = None
    given (command ∷ later) = do
      t ← next p m.state command
      Some (command, record { state = t; commands = later; number = m.number + 1 })

-- Returns the next event of a drive and the moment after it: the first enabled automatic event or,
-- if there is none, the next command. Returns `None` if neither is enabled, or the state has a
-- hazard.
abbrev pub next_step_unless_hazard : PlantLists → StateAndCommandsLeft → Option DriveStep
next_step_unless_hazard p m = do
  safe ← then_some (is_none (hazard p m.state)) m
  option_or (automatic_step p safe) (command_step p safe)

-- Returns whether no command remains, no train is left and every route is Free.
abbrev pub is_done_empty_and_free : StateAndCommandsLeft → Bool
is_done_empty_and_free m =
    length m.commands == 0
    && length m.state.trains == 0
    && list_all (λ route. same_mode route.mode Free) m.state.routes

-- Returns the result of a drive that ends at this moment: its hazard, done (no command, train or
-- route that isn't Free is left), or stuck at the next command.
abbrev pub final_state_outcome : PlantLists → StateAndCommandsLeft → Rest
final_state_outcome p m = rest (hazard p m.state)
  where
    rest : Option HazardAt → Rest
    rest (Some at) = Hazard at
    rest None = if is_done_empty_and_free m then IsDriven else Stuck m.number

-- Holds if, from moment `m`, exactly these events occur, each the next event of the drive, and then
-- the drive ends with this result.
abbrev pub IsDriveFrom : PlantLists → StateAndCommandsLeft → List Event → Rest → Type 0
IsDriveFrom p m [] rest = (next_step_unless_hazard p m ≡ None) × (rest ≡ final_state_outcome p m)
IsDriveFrom p m (event ∷ later) rest = (after : StateAndCommandsLeft) × (next_step_unless_hazard p m ≡ Some (event, after)) × IsDriveFrom p after later rest

-- Returns the first moment of a scenario's drive: the initial state, with all commands remaining.
abbrev pub initial_drive_state : PlantLists → List Event → StateAndCommandsLeft
initial_drive_state p scene = record { state = start p; commands = scene; number = 1 }

-- Holds if `driven` is the drive of the scenario: its events from the initial state, and its
-- result.
abbrev pub IsDriveOf : PlantLists → List Event → Driven → Type 0
IsDriveOf p scene driven = IsDriveFrom p (initial_drive_state p scene) driven.events driven.rest
