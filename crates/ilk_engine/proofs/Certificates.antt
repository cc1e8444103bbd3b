-- The text written for a verdict is its certificate, and the logs have no hint 0.
use Rattle.std.proofs.Common.{◌≡◌, ℕ, ◌≤◌, List, IsTrue, inl, inr, refl}
use Rattle.std.specs.Prelude.{◌⊎◌}
use Rattle.ilk_plant.specs.Plant.{PlantLists}
use Rattle.ilk_behave.specs.Behaviour.{system_of_plant}
use Rattle.ilk_queries.specs.Goal.{goal_forms_of_plant}
use Rattle.ilk_certificate.specs.declared.asked.Asked.{Asked}
use Rattle.ilk_induct.specs.declared.verdict.Verdict.TheVariants as system
use Rattle.ilk_certificate.specs.CertificateText.{have_no_hint_zero}
use Rattle.ilk_induct.proofs.Certificates.{hints_count, safe_certifies, spent_certifies}
use Rattle.ilk_engine.specs.AskedOf.{AreVerdictQueries}
use Rattle.ilk_engine.specs.CertificateOf.{IsCertificateTextOfVerdict, certificate_text_of}
use Rattle.ilk_engine.specs.Right.{IsRightVerdict}
use Rattle.ilk_engine.specs.declared.verdict.Verdict.{Verdict}
use Rattle.ilk_engine.specs.declared.verdict.Verdict.TheVariants.{Safe, Unsafe, Breach, NotInductive, Spent}

pub text_certifies : (p : PlantLists) (depth conflicts : ℕ) (verdict : Verdict) (asked : List Asked) →
    depth ≤ 16 → IsRightVerdict p depth verdict ⊎ (verdict ≡ Spent) → AreVerdictQueries p depth conflicts verdict asked →
    IsCertificateTextOfVerdict p depth conflicts verdict (certificate_text_of verdict asked)
text_certifies p depth conflicts (Safe k) asked deep (inl right) h = safe_certifies (system_of_plant p) (goal_forms_of_plant p) depth conflicts k asked deep right.induction.so.0 h
text_certifies p depth conflicts (Safe k) asked deep (inr spent) h = absurd cc
text_certifies p depth conflicts (Unsafe events at) asked deep right h = refl
text_certifies p depth conflicts (Breach events family) asked deep right h = refl
text_certifies p depth conflicts (NotInductive first events) asked deep right h = refl
text_certifies p depth conflicts Spent asked deep right h = spent_certifies (system_of_plant p) (goal_forms_of_plant p) depth conflicts asked h

pub asked_from_one : (p : PlantLists) (depth conflicts : ℕ) (verdict : Verdict) (asked : List Asked) → AreVerdictQueries p depth conflicts verdict asked → IsTrue (have_no_hint_zero asked)
asked_from_one p depth conflicts (Safe k) asked h = hints_count (system_of_plant p) (goal_forms_of_plant p) depth conflicts (system.Safe k) asked h
asked_from_one p depth conflicts (Unsafe events at) asked h = hints_count (system_of_plant p) (goal_forms_of_plant p) depth conflicts (system.Unsafe h.0) asked h.2
asked_from_one p depth conflicts (Breach events family) asked h = hints_count (system_of_plant p) (goal_forms_of_plant p) depth conflicts (system.Breach h.0) asked h.2
asked_from_one p depth conflicts (NotInductive first events) asked h = hints_count (system_of_plant p) (goal_forms_of_plant p) depth conflicts (system.NotInductive h.0) asked h.3
asked_from_one p depth conflicts Spent asked h = hints_count (system_of_plant p) (goal_forms_of_plant p) depth conflicts system.Spent asked h
