-- The content of a scenario's text, and its first bad line. A line is bad if it is missing, not
-- ended by a line feed, or not allowed at its place.
use Rattle.std.specs.Prelude.{ℕ, ◌+◌, Result, Ok, Err, List, codes}
use Rattle.ilk_base.specs.Result.{◌>>=◌}
use Rattle.ilk_lines.specs.Lines.{Bytes, unterminated_tail, lines_of}
use Rattle.ilk_lines.specs.Reading.{expect_first_line, expect_end_of_text, parsed_prefix}
use Rattle.ilk_plant.specs.Plant.{PlantLists}
use Rattle.ilk_model.specs.declared.event.Event.{Event}
use Rattle.ilk_drive.specs.CommandLine.{command_from_line}
use Rattle.ilk_drive.specs.Commands.{EachEventIsCommand}
use Rattle.ilk_drive.specs.declared.scene.Scene.{Scene}
use Rattle.ilk_drive.specs.declared.scene.Scene.TheVariants.{Scene as IsScene, Bad}

-- Returns the commands of a scenario from its lines and the bytes after them, or the number of the
-- first bad line. The lines are `drive 1`, one per command, and `end`, with nothing after it.
abbrev pub commands_from_lines : PlantLists → List Bytes → Bytes → Result (List Event) ℕ
commands_from_lines p lines bytes = do
  second ← expect_first_line (codes "drive 1") 1 lines
  commands ← Ok (parsed_prefix (command_from_line p) 2 second)
  more ← expect_first_line (codes "end") commands.number commands.lines
  none ← expect_end_of_text (commands.number + 1) more bytes
  Ok commands.values

-- Returns the commands of a scenario's text, or the number of its first bad line.
abbrev pub scene_from_text : PlantLists → Bytes → Scene
scene_from_text p text = answer (commands_from_lines p (lines_of text) (unterminated_tail text))
  where
    answer : Result (List Event) ℕ → Scene
    answer (Ok commands) = IsScene commands
    answer (Err n) = Bad n

-- Holds if a scenario that was read contains only commands. It also holds if none was read.
abbrev pub HasOnlyCommandsIfRead : Scene → Type 0
HasOnlyCommandsIfRead (IsScene commands) = EachEventIsCommand commands
HasOnlyCommandsIfRead (Bad n) = Unit {0}
