-- The answers with the verdict on a plant, and with the formula of a query.
use Rattle.std.specs.Prelude.{ℕ, ◌≡◌, ◌↔◌, ◌++◌, ◌⊎◌, false, List, [], ◌∷◌, codes, decimal, length}
use Rattle.ilk_plant.specs.Plant.{PlantLists}
use Rattle.ilk_replay.specs.RunText.{run_text}
use Rattle.ilk_replay.specs.Told.{run_from_start}
use Rattle.ilk_unroll.specs.Query.{query_formula}
use Rattle.ilk_unroll.specs.declared.queries.Wanted.{Wanted}
use Rattle.ilk_unroll.specs.declared.queries.Wanted.TheVariants.{Hazard, Breach as BreachQuery, Step}
use Rattle.ilk_behave.specs.Behaviour.{system_of_plant}
use Rattle.ilk_queries.specs.Asked.{HasQueriedRun}
use Rattle.ilk_queries.specs.Goal.{goal_forms_of_plant}
use Rattle.ilk_unroll.specs.Satisfied.{IsSatisfiable}
use Rattle.ilk_engine.specs.CertificateOf.{IsCertificateTextOfVerdict}
use Rattle.ilk_engine.specs.Forever.{SafeVerdictMeansAlwaysSafe}
use Rattle.ilk_engine.specs.Right.{IsRightVerdict}
use Rattle.ilk_engine.specs.declared.verdict.Verdict.{Verdict}
use Rattle.ilk_engine.specs.declared.verdict.Verdict.TheVariants.{Safe, Unsafe, Breach, NotInductive, Spent}
use Rattle.ilk_dimacs.specs.DimacsText.{dimacs_text}
use Rattle.ilk_words.specs.declared.command.QueryKind.{QueryKind}
use Rattle.ilk_words.specs.declared.command.QueryKind.TheVariants as kind
use Rattle.ilk_answers.specs.Report.{unsafe_line}
use Rattle.ilk_answers.specs.declared.reply.Reply.{Reply}
use Rattle.ilk_answers.specs.declared.status.Status.{Status}
use Rattle.ilk_answers.specs.declared.status.Status.TheVariants as status

-- The report line of a verdict. The number is the conflict budget, printed if it is spent.
abbrev pub verdict_line : PlantLists → ℕ → Verdict → List ℕ
verdict_line p conflicts (Safe k) = codes "safe k=" ++ decimal k ++ 10 ∷ []
verdict_line p conflicts (Unsafe events at) = unsafe_line p (length events) at
verdict_line p conflicts (Breach events family) = codes "breach steps=" ++ (decimal (length events) ++ (codes " family=V" ++ (decimal family ++ 10 ∷ [])))
verdict_line p conflicts (NotInductive first events) = codes "not inductive steps=" ++ decimal (length events) ++ 10 ∷ []
verdict_line p conflicts Spent = codes "spent conflicts=" ++ decimal conflicts ++ 10 ∷ []

-- The text of a verdict's run, empty if it has none. A run of `not inductive` starts in a given
-- state, the others in the initial state.
abbrev pub verdict_run_text : PlantLists → Verdict → List ℕ
verdict_run_text p (Unsafe events at) = run_text p (run_from_start p events)
verdict_run_text p (Breach events family) = run_text p (run_from_start p events)
verdict_run_text p (NotInductive first events) = run_text p (record { first = first; from_start = false; events = events })
verdict_run_text p _ = []

abbrev pub verdict_status : Verdict → Status
verdict_status (Safe k) = status.Good
verdict_status (Unsafe events at) = status.Unsafe
verdict_status (Breach events family) = status.Breach
verdict_status (NotInductive first events) = status.NotInductive
verdict_status Spent = status.Spent

-- Holds if a reply has a verdict on the plant: a right one, or that all conflicts are spent. A safe
-- verdict holds for runs of any length. The reply has the verdict's certificate, status, report
-- line and run.
pub record AnswersWithRightVerdict (p : PlantLists) (depth conflicts : ℕ) (made : Reply) : Type 0 where
  pub verdict : Verdict
  pub right : IsRightVerdict p depth verdict ⊎ (verdict ≡ Spent)
  pub lasts : SafeVerdictMeansAlwaysSafe p verdict
  pub certificate : IsCertificateTextOfVerdict p depth conflicts verdict made.certificate
  pub status : made.status ≡ verdict_status verdict
  pub report : made.report ≡ verdict_line p conflicts verdict ++ verdict_run_text p verdict

-- The query of this kind for runs of n events.
abbrev pub query_from_kind_and_length : QueryKind → ℕ → Wanted
query_from_kind_and_length kind.Hazard n = Hazard n
query_from_kind_and_length kind.Breach n = BreachQuery n
query_from_kind_and_length kind.Step n = Step n

-- Holds if a reply has the DIMACS text of a query's formula. The formula is satisfiable if and only
-- if the plant has a run that the query asks for.
pub record ReplyHasQueryFormulaText (p : PlantLists) (q : Wanted) (made : Reply) : Type 0 where
  pub status : made.status ≡ status.Good
  pub report : made.report ≡ dimacs_text (query_formula (system_of_plant p) (goal_forms_of_plant p) q)
  pub satisfiable : IsSatisfiable (query_formula (system_of_plant p) (goal_forms_of_plant p) q) ↔ HasQueriedRun p q
  pub certificate : made.certificate ≡ []
