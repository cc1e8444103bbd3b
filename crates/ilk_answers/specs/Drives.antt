-- The answer to a scenario.
use Rattle.std.specs.Prelude.{ℕ, ◌≡◌, ◌++◌, List, [], ◌∷◌, codes, decimal, length}
use Rattle.ilk_plant.specs.Plant.{PlantLists}
use Rattle.ilk_replay.specs.RunText.{run_text}
use Rattle.ilk_replay.specs.Told.{run_from_start}
use Rattle.ilk_drive.specs.Drive.{IsDriveOf}
use Rattle.ilk_drive.specs.Scene.{scene_from_text}
use Rattle.ilk_drive.specs.declared.outcome.Driven.{Driven}
use Rattle.ilk_drive.specs.declared.outcome.Rest.{Rest}
use Rattle.ilk_drive.specs.declared.outcome.Rest.TheVariants as rest
use Rattle.ilk_drive.specs.declared.scene.Scene.{Scene}
use Rattle.ilk_drive.specs.declared.scene.Scene.TheVariants as scene
use Rattle.ilk_answers.specs.Report.{hazard_text, first_bad_line_message, reply}
use Rattle.ilk_answers.specs.declared.reply.Reply.{Reply}
use Rattle.ilk_answers.specs.declared.status.Status.{Status}
use Rattle.ilk_answers.specs.declared.status.Status.TheVariants.{Good, Unsafe, Rejected}

-- The words for how a simulation ended: `driven`, stuck at a command, or a hazard.
abbrev pub drive_end_text : PlantLists → Rest → List ℕ
drive_end_text p rest.Driven = codes "driven"
drive_end_text p (rest.Stuck at) = codes "stuck at " ++ decimal at
drive_end_text p (rest.Hazard at) = codes "hazard " ++ hazard_text p at

abbrev pub drive_end_and_length_line : PlantLists → Rest → ℕ → List ℕ
drive_end_and_length_line p rest steps = drive_end_text p rest ++ (codes " steps=" ++ (decimal steps ++ 10 ∷ []))

-- The status for how a simulation ended.
abbrev pub drive_end_status : Rest → Status
drive_end_status rest.Driven = Good
drive_end_status (rest.Stuck at) = Rejected
drive_end_status (rest.Hazard at) = Unsafe

-- The reply to a simulation: the line with its end, and the text of its run.
abbrev pub driven_reply : PlantLists → Driven → Reply
driven_reply p driven =
    reply (drive_end_status driven.rest) (drive_end_and_length_line p driven.rest (length driven.events) ++ run_text p (run_from_start p driven.events))

-- Holds if a reply answers a parsed scenario: its commands by their simulation, a bad scenario by
-- its first bad line.
abbrev pub AnswersParsedScenario : PlantLists → Scene → Reply → Type 0
AnswersParsedScenario p (scene.Bad line) made = made ≡ reply Rejected (first_bad_line_message line)
AnswersParsedScenario p (scene.Scene commands) made = (driven : Driven) × IsDriveOf p commands driven × (made ≡ driven_reply p driven)

abbrev pub AnswersScenarioText : PlantLists → List ℕ → Reply → Type 0
AnswersScenarioText p text made = AnswersParsedScenario p (scene_from_text p text) made
