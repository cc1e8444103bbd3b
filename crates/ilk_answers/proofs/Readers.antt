-- The bytes that an audit was fed, and the limits of readers.
use Rattle.std.proofs.Common.{◌≡◌, ◌∙◌, true, List, ℕ, ◌++◌, refl, subst}
use Rattle.ilk_plant.specs.Plant.{PlantLists}
use Rattle.ilk_plant_audit.specs.Audited.{HasAuditedBytes}
use Rattle.ilk_plant_audit.specs.PlantAudit.{PlantAudit}
use Rattle.ilk_words.specs.Limits.{within_extra_option_limits}
use Rattle.ilk_words.specs.declared.command.ExtraCommand.{ExtraCommand}
use Rattle.ilk_answers.specs.Reader.{ReaderHasReadExtraInput, ReaderWasFedBytes, has_query_within_limits}
use Rattle.ilk_answers.specs.declared.reader.ExtraInputReader.{ExtraInputReader}
use Rattle.ilk_answers.specs.declared.reader.ExtraInputReader.TheVariants.{Certificate, Run, Refutation, Scenario}

pub audit_fed : (before after : PlantAudit) (piece : List ℕ) → after.plant ≡ before.plant → ((bytes : List ℕ) → HasAuditedBytes before bytes → HasAuditedBytes after (bytes ++ piece)) → ReaderWasFedBytes (Certificate before)
    (Certificate after) piece
audit_fed before after piece same fed command p read h = (h.0, same ∙ h.1, fed read h.2)

-- A reader is within the limits of its command.
pub reader_within_limits : (command : ExtraCommand) (p : PlantLists) (reader : ExtraInputReader) (bytes : List ℕ) → ReaderHasReadExtraInput command p reader bytes → within_extra_option_limits command ≡ true → has_query_within_limits reader ≡ true
reader_within_limits command p (Certificate audit) bytes h limits = refl
reader_within_limits command p (Run text) bytes h limits = refl
reader_within_limits command p (Refutation query number text) bytes h limits = subst (λ k. within_extra_option_limits k ≡ true) h.0 limits
reader_within_limits command p (Scenario text) bytes h limits = refl
