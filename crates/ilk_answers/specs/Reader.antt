-- The part of the extra input that a command keeps.
use Rattle.std.specs.Prelude.{◌≡◌, ℕ, Bool, true, List, ◌++◌}
use Rattle.ilk_plant.specs.Plant.{PlantLists}
use Rattle.ilk_plant_audit.specs.Audited as audit
use Rattle.ilk_words.specs.Limits.{within_query_limits}
use Rattle.ilk_words.specs.declared.command.ExtraCommand.{ExtraCommand}
use Rattle.ilk_words.specs.declared.command.ExtraCommand.TheVariants.{Audit, Replay, Rup, Drive}
use Rattle.ilk_answers.specs.declared.reader.ExtraInputReader.{ExtraInputReader}
use Rattle.ilk_answers.specs.declared.reader.ExtraInputReader.TheVariants.{Certificate, Run, Refutation, Scenario}

-- Returns whether the query of the reader, if it has one, is within its limits.
abbrev pub has_query_within_limits : ExtraInputReader → Bool
has_query_within_limits (Refutation query number text) = within_query_limits query number
has_query_within_limits _ = true

-- Holds if the reader was made for this command and plant, and has read these bytes, in one piece
-- or more.
abbrev pub ReaderHasReadExtraInput : ExtraCommand → PlantLists → ExtraInputReader → List ℕ → Type 0
ReaderHasReadExtraInput command p (Certificate reader) bytes =
    (command ≡ Audit) × (reader.plant ≡ p) × audit.HasAuditedBytes reader bytes
ReaderHasReadExtraInput command p (Run text) bytes = (command ≡ Replay) × (text.items ≡ bytes)
ReaderHasReadExtraInput command p (Refutation query number text) bytes = (command ≡ Rup query number) × (text.items ≡ bytes)
ReaderHasReadExtraInput command p (Scenario text) bytes = (command ≡ Drive) × (text.items ≡ bytes)

-- Holds if `after` is the reader `before` after it was fed these bytes.
abbrev pub ReaderWasFedBytes : ExtraInputReader → ExtraInputReader → List ℕ → Type 0
ReaderWasFedBytes before after bytes = (command : ExtraCommand) (p : PlantLists) (read : List ℕ) → ReaderHasReadExtraInput command p before read → ReaderHasReadExtraInput command p after (read ++ bytes)
