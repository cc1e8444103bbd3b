use Rattle.ilk_lines.specs.Lines.{Bytes}
use Rattle.ilk_plant.specs.Plant.{PlantLists}
use Rattle.ilk_behave.specs.Behaviour.{system_of_plant}
use Rattle.ilk_queries.specs.Goal.{goal_forms_of_plant}
use Rattle.ilk_cert_audit.specs.Answers.{IsFinalAnswer, IsAnswerAfterBytes}
use Rattle.ilk_cert_audit.specs.Fed.{AuditHasTakenBytes as SystemHasFed}
use Rattle.ilk_cert_audit.specs.declared.answers.Ended.{Ended}
use Rattle.ilk_cert_audit.specs.declared.answers.Fed.{Fed}
use Rattle.ilk_plant_audit.specs.PlantAudit.{PlantAudit}

-- Holds if the check, for its plant, has taken these bytes, in one or more pieces.
abbrev pub HasAuditedBytes : PlantAudit → Bytes → Type 0
HasAuditedBytes audit bytes = SystemHasFed (system_of_plant audit.plant) (goal_forms_of_plant audit.plant) audit.audit bytes

-- Holds if the answer names the first bad line of the text `bytes` so far, or `More` if none is
-- bad.
abbrev pub NamesBadLineSoFar : PlantLists → Bytes → Fed → Type 0
NamesBadLineSoFar p bytes fed = IsAnswerAfterBytes (system_of_plant p) (goal_forms_of_plant p) bytes fed

-- Holds if `ended` is the answer at the end of a text: the number that it is a certificate of plant
-- `p` for, or its first bad line.
abbrev pub AnswersEnd : PlantLists → Bytes → Ended → Type 0
AnswersEnd p bytes ended = IsFinalAnswer (system_of_plant p) (goal_forms_of_plant p) bytes ended
