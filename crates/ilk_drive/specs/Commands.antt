-- Commands and automatic events.
use Rattle.std.specs.Prelude.{Bool, true, false, List, IsTrue, All}
use Rattle.ilk_model.specs.declared.event.Event.{Event}
use Rattle.ilk_model.specs.declared.event.Event.TheVariants.{Mark, Enter, Cancel}

-- Returns whether an event is a command: the entry of a train, or the request or cancellation of a
-- route. All other events are automatic.
abbrev pub is_command : Event → Bool
is_command (Mark r) = true
is_command (Enter x) = true
is_command (Cancel r) = true
is_command event = false

-- Holds if each of these events is a command.
abbrev pub EachEventIsCommand : List Event → Type 0
EachEventIsCommand events = All (λ event. IsTrue (is_command event)) events
