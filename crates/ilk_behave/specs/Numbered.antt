-- Used only in private contracts.
use Rattle.std.specs.Prelude.{◌<◌, List, All, length}
use Rattle.ilk_plant.specs.Plant.{PlantLists}
use Rattle.ilk_model.specs.declared.event.Event.{Event}
use Rattle.ilk_model.specs.declared.event.Event.TheVariants.{Mark, Allocate, Lock, Sense, Release, Finish, Throw, Settle, Enter, Head, Tail, Leave, Cancel}

-- Holds if the route or section of the event is one of the plant.
abbrev pub IsEventOfPlant : PlantLists → Event → Type 0
IsEventOfPlant p (Mark r) = r < length p.routes
IsEventOfPlant p (Allocate r) = r < length p.routes
IsEventOfPlant p (Lock r) = r < length p.routes
IsEventOfPlant p (Sense r) = r < length p.routes
IsEventOfPlant p (Release r) = r < length p.routes
IsEventOfPlant p (Finish r) = r < length p.routes
IsEventOfPlant p (Throw x) = x < length p.sections
IsEventOfPlant p (Settle x) = x < length p.sections
IsEventOfPlant p (Enter x) = x < length p.sections
IsEventOfPlant p (Head x) = x < length p.sections
IsEventOfPlant p (Tail x) = x < length p.sections
IsEventOfPlant p (Leave x) = x < length p.sections
IsEventOfPlant p (Cancel r) = r < length p.routes

-- Holds if the route or section of each event is one of the plant.
abbrev pub EachIsEventOfPlant : PlantLists → List Event → Type 0
EachIsEventOfPlant p events = All (IsEventOfPlant p) events
