-- The text of a scenario, and the first bad line of a text, defined only by the texts of scenarios.
use Rattle.std.specs.Prelude.{ℕ, ◌≡◌, ◌≢◌, All, List, [], ◌∷◌, ◌++◌, codes, map}
use Rattle.ilk_lines.specs.FirstBad.{IsFirstBadLine}
use Rattle.ilk_lines.specs.Lines.{Bytes}
use Rattle.ilk_lines.specs.Written.{text_of}
use Rattle.ilk_plant.specs.Plant.{PlantLists}
use Rattle.ilk_model.specs.declared.event.Event.{Event}
use Rattle.ilk_replay.specs.RunText.{event_line}
use Rattle.ilk_replay.specs.Writable.{IsEventSubjectOfPlant}
use Rattle.ilk_drive.specs.Commands.{EachEventIsCommand}
use Rattle.ilk_drive.specs.Scene.{scene_from_text}
use Rattle.ilk_drive.specs.declared.scene.Scene.TheVariants.{Bad}

-- Returns the lines of a scenario: `drive 1`, the line of each command's event as in a run text,
-- and `end`.
abbrev pub scene_lines : PlantLists → List Event → List Bytes
scene_lines p commands = codes "drive 1" ∷ (map (event_line p) commands ++ codes "end" ∷ [])

-- Returns the text of a scenario, with one line feed after each line.
abbrev pub scene_text : PlantLists → List Event → Bytes
scene_text p commands = text_of (scene_lines p commands)

-- Holds if each of these events is a command, and its route or section is one of the plant.
pub record AreCommandsOfPlant (p : PlantLists) (commands : List Event) : Type 0 where
  pub commanded : EachEventIsCommand commands
  pub about : All (IsEventSubjectOfPlant p) commands

-- Holds if these are commands of the plant, and the text is the one written for them.
abbrev pub IsTextOfScene : PlantLists → List Event → Bytes → Type 0
IsTextOfScene p commands text = AreCommandsOfPlant p commands × (text ≡ scene_text p commands)

-- Holds if the reader reports no line of the text as bad.
abbrev pub HasNoBadLine : PlantLists → Bytes → Type 0
HasNoBadLine p text = (n : ℕ) → scene_from_text p text ≢ Bad n

-- Holds if the bytes are the text of a scenario: the text of some list of commands for the plant.
abbrev pub IsSceneText : PlantLists → Bytes → Type 0
IsSceneText p text = (commands : List Event) × IsTextOfScene p commands text

-- Holds if line `n`, from 1, is the first bad line of a text, which is not the text of a scenario.
-- The lines before line `n` begin the text of some scenario. Together with line `n`, unless it is
-- missing, they begin none.
abbrev pub IsFirstBadLineOfScene : PlantLists → Bytes → ℕ → Type 0
IsFirstBadLineOfScene p text n = IsFirstBadLine (AreCommandsOfPlant p) (scene_lines p) text n
