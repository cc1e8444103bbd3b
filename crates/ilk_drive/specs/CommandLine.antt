-- The line of a command, as in a run text: its keyword, one space, and the name of its subject.
use Rattle.std.specs.Prelude.{Option}
use Rattle.ilk_base.specs.Option.{◌>>=◌, then_some}
use Rattle.ilk_lines.specs.Lines.{Bytes}
use Rattle.ilk_plant.specs.Plant.{PlantLists}
use Rattle.ilk_model.specs.declared.event.Event.{Event}
use Rattle.ilk_replay.specs.EventLine.{event_from_line}
use Rattle.ilk_drive.specs.Commands.{is_command}

-- Returns the command of a scenario's line. Returns `None` if the line isn't that of a command.
abbrev pub command_from_line : PlantLists → Bytes → Option Event
command_from_line p line = do
  event ← event_from_line p line
  then_some (is_command event) event
