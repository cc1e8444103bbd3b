-- The answer to a certificate that is checked.
use Rattle.std.specs.Prelude.{ℕ, ◌≡◌, ◌⊎◌, List}
use Rattle.ilk_plant.specs.Plant.{PlantLists}
use Rattle.ilk_behave.specs.Behaviour.{system_of_plant}
use Rattle.ilk_queries.specs.Goal.{goal_forms_of_plant}
use Rattle.ilk_certificate.specs.Certificate.{IsValidCertificate}
use Rattle.ilk_cert_audit.specs.FirstBad.{FirstBadOrMissingLine}
use Rattle.ilk_forever.specs.Forever.{AlwaysKeepsInvariant}
use Rattle.ilk_answers.specs.Report.{certificate_accepted_line, first_bad_line_message, reply}
use Rattle.ilk_answers.specs.declared.reply.Reply.{Reply}
use Rattle.ilk_answers.specs.declared.status.Status.TheVariants.{Good, Rejected}

-- Holds if the bytes are a certificate for some `k`, and a reply accepts them for it. The plant is
-- then safe for runs of any length.
pub record ReplyAcceptsCertificate (p : PlantLists) (bytes : List ℕ) (made : Reply) : Type 0 where
  pub k : ℕ
  pub certificate : IsValidCertificate (system_of_plant p) (goal_forms_of_plant p) k bytes
  pub safe : AlwaysKeepsInvariant p
  pub reply : made ≡ reply Good (certificate_accepted_line k)

-- Holds if the bytes are not a certificate, and a reply rejects them by their first bad line.
pub record ReplyRejectsCertificate (p : PlantLists) (bytes : List ℕ) (made : Reply) : Type 0 where
  pub line : ℕ
  pub first : FirstBadOrMissingLine (system_of_plant p) (goal_forms_of_plant p) bytes line
  pub reply : made ≡ reply Rejected (first_bad_line_message line)

-- Holds if a reply accepts these bytes as a certificate of plant `p`, or rejects them, and is
-- right.
abbrev pub AnswersAudit : PlantLists → List ℕ → Reply → Type 0
AnswersAudit p bytes made = ReplyAcceptsCertificate p bytes made ⊎ ReplyRejectsCertificate p bytes made
