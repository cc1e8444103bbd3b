-- The answer for generated stations, for which no configuration is read.
use Rattle.std.specs.Prelude.{ℕ, ◌≡◌, ◌⊎◌, ◌++◌, List, [], ◌∷◌, codes, decimal, length}
use Rattle.ilk_plant.specs.Draft.{plant_from_drafts}
use Rattle.ilk_plant.specs.Plant.{PlantLists}
use Rattle.ilk_engine.specs.CertificateOf.{IsCertificateTextOfVerdict}
use Rattle.ilk_engine.specs.Forever.{SafeVerdictMeansAlwaysSafe}
use Rattle.ilk_engine.specs.Right.{IsRightVerdict}
use Rattle.ilk_engine.specs.declared.verdict.Verdict.{Verdict}
use Rattle.ilk_engine.specs.declared.verdict.Verdict.TheVariants.{Safe, Spent}
use Rattle.ilk_gen.specs.StationRoutes.{stations_table}
use Rattle.ilk_gen.specs.Stations.{stations_net}
use Rattle.ilk_gen.specs.StationsText.{stations_text}
use Rattle.ilk_answers.specs.Report.{reply}
use Rattle.ilk_answers.specs.Verdicts.{verdict_line, verdict_status}
use Rattle.ilk_answers.specs.declared.reply.Reply.{Reply}
use Rattle.ilk_answers.specs.declared.status.Status.TheVariants.{Good}

-- The reply with the configuration of n generated stations.
abbrev pub stations_conf_reply : ℕ → Reply
stations_conf_reply n = reply Good (stations_text n ++ 10 ∷ [])

abbrev pub stations_plant : ℕ → PlantLists
stations_plant n = plant_from_drafts (stations_net n) (stations_table n)

-- The report line with the verdict on the plant of n generated stations, its numbers of sections
-- and routes. The second number is the conflict budget.
abbrev pub demo_verdict_line : ℕ → ℕ → Verdict → List ℕ
demo_verdict_line n conflicts verdict =
    codes "stations=" ++ (decimal n
    ++ (codes " sections=" ++ (decimal (length (stations_plant n).sections)
    ++ (codes " routes=" ++ (decimal (length (stations_plant n).routes)
    ++ (codes " " ++ verdict_line (stations_plant n) conflicts verdict))))))

-- Holds if a reply has a right verdict on the plant of n generated stations: safe with k = 1, or
-- all conflicts are spent. A safe verdict holds for runs of any length. The reply has the verdict's
-- certificate, status and report.
pub record AnswersDemoWithRightVerdict (n depth conflicts : ℕ) (made : Reply) : Type 0 where
  pub verdict : Verdict
  pub safe : (verdict ≡ Safe 1) ⊎ (verdict ≡ Spent)
  pub right : IsRightVerdict (stations_plant n) depth verdict ⊎ (verdict ≡ Spent)
  pub lasts : SafeVerdictMeansAlwaysSafe (stations_plant n) verdict
  pub certificate : IsCertificateTextOfVerdict (stations_plant n) depth conflicts verdict made.certificate
  pub status : made.status ≡ verdict_status verdict
  pub report : made.report ≡ demo_verdict_line n conflicts verdict
