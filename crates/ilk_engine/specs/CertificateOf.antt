-- The certificate of a verdict on a plant.
use Rattle.std.specs.Prelude.{ℕ, ◌≡◌, List, []}
use Rattle.ilk_lines.specs.Lines.{Bytes}
use Rattle.ilk_plant.specs.Plant.{PlantLists}
use Rattle.ilk_behave.specs.Behaviour.{system_of_plant}
use Rattle.ilk_queries.specs.Goal.{goal_forms_of_plant}
use Rattle.ilk_certificate.specs.declared.asked.Asked.{Asked}
use Rattle.ilk_certificate.specs.Certificate.{IsValidCertificate}
use Rattle.ilk_certificate.specs.CertificateText.{total_conflicts, safe_text, spent_text}
use Rattle.ilk_certificate.specs.Kept.{drop_nonfinal_step_queries}
use Rattle.ilk_induct.specs.Spent.{IsSpentText}
use Rattle.ilk_engine.specs.declared.verdict.Verdict.{Verdict}
use Rattle.ilk_engine.specs.declared.verdict.Verdict.TheVariants.{Safe, Unsafe, Breach, NotInductive, Spent}

-- The certificate's text for a verdict and the queries asked for it. For `safe` it omits each step
-- query but the last, since the earlier ones had runs. For `spent` it has all
-- queries, and for a verdict with a run it is empty.
abbrev pub certificate_text_of : Verdict → List Asked → Bytes
certificate_text_of (Safe k) asked = safe_text k (drop_nonfinal_step_queries asked)
certificate_text_of (Unsafe events at) asked = []
certificate_text_of (Breach events family) asked = []
certificate_text_of (NotInductive first events) asked = []
certificate_text_of Spent asked = spent_text (total_conflicts asked) asked

-- Holds if `bytes`, regardless of their origin, are the certificate of a verdict on plant `p`. The
-- numbers are the depth and the conflict budget.
abbrev pub IsCertificateTextOfVerdict : PlantLists → ℕ → ℕ → Verdict → Bytes → Type 0
-- A refutation of each hazard query and each breach query for up to k events, and of the step query
-- for k.
IsCertificateTextOfVerdict p depth conflicts (Safe k) bytes = IsValidCertificate (system_of_plant p) (goal_forms_of_plant p) k bytes
-- A run shows its verdict itself: no bytes.
IsCertificateTextOfVerdict p depth conflicts (Unsafe events at) bytes = bytes ≡ []
IsCertificateTextOfVerdict p depth conflicts (Breach events family) bytes = bytes ≡ []
IsCertificateTextOfVerdict p depth conflicts (NotInductive first events) bytes = bytes ≡ []
-- The queries in order up to the one that was given up, with exactly `conflicts` conflicts.
IsCertificateTextOfVerdict p depth conflicts Spent bytes = IsSpentText (system_of_plant p) (goal_forms_of_plant p) depth conflicts bytes
