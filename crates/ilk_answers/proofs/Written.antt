-- The run of a right verdict can be written, and the reply has that verdict.
use Rattle.std.proofs.Common.{◌≡◌, ℕ, All, Some, List, [], ◌∷◌, ◌++◌, ◌⊎◌, ◌<◌, length, inl, inr, is_some, IfOk, Result, Ok, Err, sym, ap, subst, ◌∙◌}
use Rattle.std.specs.Prelude.{option_and_then}
use Rattle.std.proofs.lemmas.List.Elements.{All-nil, All-cons}
use Rattle.ilk_base.proofs.Options.{bind_some, mapped-Some, some-and}
use Rattle.ilk_plant.specs.ColumnRules.{column_rules_broken}
use Rattle.ilk_plant.specs.Plant.{IsPlant, PlantLists}
use Rattle.ilk_plant.specs.Start.{start}
use Rattle.ilk_plant.specs.declared.state.State.{State}
use Rattle.ilk_model.specs.Event.{next}
use Rattle.ilk_model.specs.Hazard.{hazard}
use Rattle.ilk_model.specs.Run.{run}
use Rattle.ilk_model.specs.declared.event.Event.{Event}
use Rattle.ilk_replay.specs.Writable.{IsEventSubjectOfPlant}
use Rattle.ilk_replay.proofs.Enabled.{enabled-about, run-about}
use Rattle.ilk_queries.specs.Asked.{first_breaks_invariant_at}
use Rattle.ilk_queries.specs.Walk.{states_from}
use Rattle.ilk_engine.specs.CertificateOf.{IsCertificateTextOfVerdict}
use Rattle.ilk_engine.specs.Forever.{SafeVerdictMeansAlwaysSafe}
use Rattle.ilk_engine.specs.Right.{IsRightVerdict}
use Rattle.ilk_engine.specs.declared.verdict.Verdict.{Verdict}
use Rattle.ilk_engine.specs.declared.verdict.Verdict.TheVariants.{Safe, Unsafe, Breach, NotInductive, Spent}
use Rattle.ilk_engine.proofs.Strict.{clean-verdict}
use Rattle.ilk_answers.specs.Made.{AnswersDemoWithRightVerdict, demo_verdict_line, stations_plant}
use Rattle.ilk_answers.specs.Verdicts.{AnswersWithRightVerdict, verdict_line, verdict_run_text, verdict_status}
use Rattle.ilk_answers.specs.Writable.{VerdictRunFitsPlant}
use Rattle.ilk_answers.specs.declared.reply.Reply.{Reply}

states-about : (p : PlantLists) (s : State) (events : List Event) (states : List State) → states_from p s events ≡ Some states → All (IsEventSubjectOfPlant p) events
states-about p s [] states e = All-nil (IsEventSubjectOfPlant p)
states-about p s (event ∷ rest) states e =
    let more = mapped-Some (λ left. s ∷ left) (option_and_then (λ t. states_from p t rest) (next p s event)) states e in
    let led = bind_some (next p s event) (λ t. states_from p t rest) more.0 more.1 in
    All-cons (IsEventSubjectOfPlant p) event rest (enabled-about p s led.0 event led.1) (states-about p led.0 rest more.0 led.2)

pub verdict-written : (p : PlantLists) (depth : ℕ) (verdict : Verdict) → IsRightVerdict p depth verdict ⊎ (verdict ≡ Spent) → VerdictRunFitsPlant p verdict
verdict-written p depth (Safe k) right = tt
verdict-written p depth (Unsafe events at) (inl right) =
    let ends = some-and (run p (start p) events) (λ t. is_some (hazard p t)) right.1.2 in
    run-about p (start p) ends.0 events ends.1
verdict-written p depth (Unsafe events at) (inr spent) = absurd (cc)
verdict-written p depth (Breach events family) (inl right) =
    let ends = some-and (run p (start p) events) _ right.1.2 in
    run-about p (start p) ends.0 events ends.1
verdict-written p depth (Breach events family) (inr spent) = absurd (cc)
verdict-written p depth (NotInductive first events) (inl right) =
    let ends = some-and (states_from p first events) (first_breaks_invariant_at p (length events)) right.1.2 in
    (right.1.0, states-about p first events ends.0 ends.1)
verdict-written p depth (NotInductive first events) (inr spent) = absurd (cc)
verdict-written p depth Spent right = tt

pub verdict-told :
    {E : Type 0} (p : PlantLists) (depth conflicts : ℕ) (verdict : Verdict) (text wanted : List ℕ)
    (made : Result Reply E) →
    IsRightVerdict p depth verdict ⊎ (verdict ≡ Spent) → SafeVerdictMeansAlwaysSafe p verdict →
    IsCertificateTextOfVerdict p depth conflicts verdict wanted → text ≡ wanted →
    IfOk made (λ r. r.status ≡ verdict_status verdict) →
    IfOk made (λ r. r.report ≡ verdict_line p conflicts verdict ++ verdict_run_text p verdict) →
    IfOk made (λ r. r.certificate ≡ text) → IfOk made (AnswersWithRightVerdict p depth conflicts)
verdict-told p depth conflicts verdict text wanted (Err e) right lasts certified same status report certificate = tt
verdict-told p depth conflicts verdict text wanted (Ok r) right lasts certified same status report certificate = record {
  verdict = verdict;
  right = right;
  lasts = lasts;
  certificate = subst (IsCertificateTextOfVerdict p depth conflicts verdict) (sym (certificate ∙ same)) certified;
  status = status;
  report = report;
}

pub demo-told :
    (n depth conflicts : ℕ) (p : PlantLists) (verdict : Verdict) (text wanted : List ℕ) (made : Reply) →
    p ≡ stations_plant n → IsPlant p → column_rules_broken (stations_plant n) ≡ [] → 0 < depth →
    IsRightVerdict p depth verdict ⊎ (verdict ≡ Spent) → SafeVerdictMeansAlwaysSafe p verdict →
    IsCertificateTextOfVerdict p depth conflicts verdict wanted → text ≡ wanted → made.status ≡ verdict_status verdict →
    made.certificate ≡ text → made.report ≡ demo_verdict_line n conflicts verdict → AnswersDemoWithRightVerdict n depth conflicts made
demo-told n depth conflicts p verdict text wanted made is plant kept some right lasts certified same status certificate report = record {
  verdict = verdict;
  safe = clean-verdict p depth verdict plant (ap column_rules_broken is ∙ kept) some right;
  right = subst (λ q. IsRightVerdict q depth verdict ⊎ (verdict ≡ Spent)) is right;
  lasts = subst (λ q. SafeVerdictMeansAlwaysSafe q verdict) is lasts;
  certificate = subst (λ q. IsCertificateTextOfVerdict q depth conflicts verdict made.certificate) is (subst (IsCertificateTextOfVerdict p depth conflicts verdict) (sym (certificate ∙ same)) certified);
  status = status;
  report = report;
}
