-- Over a plant that breaks no column rule no drive comes to a hazard.
use Rattle.std.proofs.Common.{◌≡◌, ℕ, Bool, true, false, Some, List, [], length, nat_le, refl, sym, ap, ◌∙◌}
use Rattle.std.specs.Prelude.{◌≢◌}
use Rattle.ilk_plant.specs.ColumnRules.{column_rules_broken}
use Rattle.ilk_plant.specs.Plant.{IsPlant, PlantLists}
use Rattle.ilk_strict.proofs.Strict.{strict_from_list}
use Rattle.ilk_drive.proofs.Drives.{drive-safe}
use Rattle.ilk_drive.specs.Scene.{scene_from_text}
use Rattle.ilk_drive.specs.Told.{IsOutcomeWithoutHazard}
use Rattle.ilk_drive.specs.declared.outcome.Rest.{Rest}
use Rattle.ilk_drive.specs.declared.outcome.Rest.TheVariants as rest
use Rattle.ilk_drive.specs.declared.scene.Scene.{Scene}
use Rattle.ilk_drive.specs.declared.scene.Scene.TheVariants as scene
use Rattle.ilk_words.specs.declared.command.ConfCommand.TheVariants.{WithExtra}
use Rattle.ilk_words.specs.declared.command.ExtraCommand.TheVariants.{Drive}
use Rattle.ilk_words.specs.declared.lengths.TheConstants.{MAX_SCENARIO_BYTES}
use Rattle.ilk_answers.specs.Answer.{AnswersOnPlantIfExtraExposed, AnswersOrRefusesTooLong}
use Rattle.ilk_answers.specs.Drives.{AnswersParsedScenario, drive_end_status}
use Rattle.ilk_answers.specs.declared.reply.Reply.{Reply}
use Rattle.ilk_answers.specs.declared.status.Status.TheVariants.{Rejected, Refused as IsRefused, Unsafe}

safe-status : (r : Rest) → IsOutcomeWithoutHazard r → drive_end_status r ≢ Unsafe
safe-status rest.Driven safe e = absurd (cc)
safe-status (rest.Stuck at) safe e = absurd (cc)
safe-status (rest.Hazard at) safe e = absurd (safe at refl)

scene-safe : (p : PlantLists) (told : Scene) (made : Reply) → IsPlant p → column_rules_broken p ≡ [] → AnswersParsedScenario p told made → made.status ≢ Unsafe
scene-safe p (scene.Bad line) made plant none is e =
    let rejected : Rejected ≡ Unsafe = ap (λ (r : Reply). r.status) (sym is) ∙ e in absurd (cc)
scene-safe p (scene.Scene commands) made plant none is e =
    safe-status is.0.rest (drive-safe p plant (strict_from_list p none) commands is.0 is.1) (ap (λ (r : Reply). r.status) (sym is.2) ∙ e)

within-safe : (b : Bool) (p : PlantLists) (text : List ℕ) (made : Reply) → IsPlant p → column_rules_broken p ≡ [] → AnswersOrRefusesTooLong b Drive p text made → made.status ≢ Unsafe
within-safe false p text made plant none is e =
    let refused : IsRefused ≡ Unsafe = ap (λ (r : Reply). r.status) (sym is) ∙ e in absurd (cc)
within-safe true p text made plant none is e = scene-safe p (scene_from_text p text) made plant none is e

pub drive-right : (p : PlantLists) (run text : List ℕ) (made : Reply) → IsPlant p → column_rules_broken p ≡ [] → AnswersOnPlantIfExtraExposed (WithExtra run Drive) p (Some text) made → made.status ≢ Unsafe
drive-right p run text made plant none is = within-safe (nat_le (length text) MAX_SCENARIO_BYTES) p text made plant none is
