-- An audit over a plant's system and goal is an audit over the plant.
use Rattle.std.proofs.Common.{◌≡◌, ◌++◌, Result, OnOk, sym, subst}
use Rattle.std.proofs.lemmas.Result.{on_ok_weaker}
use Rattle.ilk_ir.specs.System.{PlainSystem}
use Rattle.ilk_lines.specs.Lines.{Bytes}
use Rattle.ilk_plant.specs.Plant.{PlantLists}
use Rattle.ilk_behave.specs.Behaviour.{system_of_plant}
use Rattle.ilk_queries.specs.Goal.{goal_forms_of_plant}
use Rattle.ilk_unroll.specs.Goal.{PlainGoalForms}
use Rattle.ilk_cert_audit.specs.Fed.{AuditHasTakenBytes}
use Rattle.ilk_cert_audit.specs.declared.audit.SystemCertAudit.{SystemCertAudit}
use Rattle.ilk_plant_audit.specs.Audited.{HasAuditedBytes}
use Rattle.ilk_plant_audit.specs.PlantAudit.{PlantAudit}

pub made_over : (p : PlantLists) (system : PlainSystem) (goal : PlainGoalForms) (audit : SystemCertAudit) (bytes : Bytes) → system ≡ system_of_plant p → goal ≡ goal_forms_of_plant p → AuditHasTakenBytes system goal audit bytes
    → AuditHasTakenBytes (system_of_plant p) (goal_forms_of_plant p) audit bytes
made_over p system goal audit bytes one two fed =
    subst (λ g. AuditHasTakenBytes (system_of_plant p) g audit bytes) two (subst (λ s. AuditHasTakenBytes s goal audit bytes) one fed)

pub fed_over :
    {T E : Type 0} (before : PlantAudit) (p : PlantLists) (old new : SystemCertAudit) (piece : Bytes) (result : Result T E) →
    record { plant = p; audit = old } ≡ before →
    OnOk result ((s : PlainSystem) (g : PlainGoalForms) (bytes : Bytes) → AuditHasTakenBytes s g old bytes → AuditHasTakenBytes s g new (bytes ++ piece)) →
    OnOk result ((bytes : Bytes) → HasAuditedBytes before bytes → HasAuditedBytes (record { plant = p; audit = new }) (bytes ++ piece))
fed_over before p old new piece result same fed =
    on_ok_weaker result (λ more bytes h. more (system_of_plant p) (goal_forms_of_plant p) bytes (subst (λ a. HasAuditedBytes a bytes) (sym same) h)) fed
