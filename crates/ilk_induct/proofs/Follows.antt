-- The continuation after an answer keeps the invariant, and ends rightly.
use Rattle.std.proofs.Common.{◌≡◌, ℕ, zero, suc, ◌+◌, ◌-◌, ◌*◌, ◌≤◌, ◌<◌, Bool, true, false, cond, List, [], ◌∷◌, ◌++◌, length, Some, None, refl, sym, ap, ◌∙◌, subst, arith, nat_lt, inl, inr}
use Rattle.std.specs.List.{list_all}
use Rattle.std.proofs.lemmas.Bool.{and_from, and_parts, lt-ltb, ltb-true}
use Rattle.std.proofs.lemmas.Bool.Decides.{nat_tests}
use Rattle.std.proofs.lemmas.List.Elements.{All-nil}
use Rattle.ilk_ir.specs.System.{PlainSystem, rule_valid, system_valid}
use Rattle.ilk_solver.specs.Answered.{IsEmpoweringLogWithinBudget}
use Rattle.ilk_unroll.specs.Query.{query_formula}
use Rattle.ilk_unroll.specs.Satisfied.{IsSatisfiable}
use Rattle.ilk_log.specs.declared.step.Step.{Step as LogStep}
use Rattle.ilk_log.specs.Conflicts.{count_learned_clauses}
use Rattle.ilk_unroll.specs.declared.queries.Wanted.{Wanted}
use Rattle.ilk_unroll.specs.declared.queries.Wanted.TheVariants.{Hazard, Breach as BreachQuery, Step}
use Rattle.ilk_unroll.specs.declared.reading.Trace.{Trace}
use Rattle.ilk_unroll.specs.Goal.{PlainGoalForms, step_count_is_allowed}
use Rattle.ilk_induct.specs.declared.ask.Response.{Response}
use Rattle.ilk_induct.specs.declared.ask.Response.TheVariants.{Run, Refuted, GivenUp}
use Rattle.ilk_induct.specs.declared.due.DueQuery.{DueQuery}
use Rattle.ilk_induct.specs.declared.due.DueQuery.TheVariants.{Unbroken, Broken}
use Rattle.ilk_induct.specs.declared.due.Next.{Next}
use Rattle.ilk_induct.specs.declared.due.Next.TheVariants.{Ask, End}
use Rattle.ilk_certificate.specs.declared.asked.Asked.{Asked}
use Rattle.ilk_certificate.specs.Certificate.{IsRefuted}
use Rattle.ilk_certificate.specs.CertificateText.{total_conflicts}
use Rattle.ilk_induct.specs.declared.verdict.Verdict.TheVariants.{Safe, NotInductive, Spent}
use Rattle.ilk_unroll.specs.Evidence.{HasRun}
use Rattle.ilk_induct.specs.Right.{IsRunOfQuery}
use Rattle.ilk_induct.specs.Spent.{LogStepsDerivedAndEmpowering, AskedQueryAllowsNext}
use Rattle.ilk_induct.specs.Due.{query_with_log, IsResponse, due_query, breach_length, query_or_verdict_after_response, NoHazardBreachInductionBelow, QueryFollowsAskedInOrder, IsDueAfterAskedQueries, IsRightOrSpentVerdict, IsValidContinuation, max_queries_left}
use Rattle.ilk_unroll.proofs.Induction.{forever}
use Rattle.ilk_induct.proofs.Orders.{to-breach, to-step, to-hazard, more-conflicts, asked-to, asked-all, go-on, all-conflicts}
use Rattle.ilk_induct.proofs.Breaches.{after-broken, below-more, broke, endangered, few, hazard-valid, steps-of}

some-step : (n : ℕ) → step_count_is_allowed (Step n) ≡ true → 0 < n
some-step n h = ltb-true 0 n (and_parts _ _ h).0

left-invariant :
    (s : PlainSystem) (g : PlainGoalForms) (depth conflicts n : ℕ) (t : Trace) (log : List LogStep)
    (asked : List Asked) (left rest : ℕ) → depth ≤ 16 →
    QueryFollowsAskedInOrder s g depth conflicts None (Step n) asked left → NoHazardBreachInductionBelow s g (n + 1) (n + 1) n →
    LogStepsDerivedAndEmpowering s g (query_with_log (Step n) log) → count_learned_clauses log + rest ≡ left → IsRunOfQuery s g (Step n) t →
    IsSatisfiable (query_formula s g (Step n)) →
    IsValidContinuation s g depth conflicts (3 * (depth - n))
    (cond (nat_lt n depth) (Ask (Unbroken (Hazard (n + 1)))) (End (NotInductive t)))
    (asked ++ query_with_log (Step n) log ∷ []) rest
left-invariant s g depth conflicts n t log asked left rest low d known logged count run sat = by_case (nat_lt n depth) refl
  where
    has : HasRun s g (Step n)
    has = (t.first, t.rules, run)

    runs : (m : ℕ) → m < n + 1 → 0 < m → HasRun s g (Step m)
    runs = below-more (λ m. 0 < m → HasRun s g (Step m)) n (λ m less pos. known.runs m pos less) (λ pos. has)

    by_case : (c : Bool) → nat_lt n depth ≡ c → IsValidContinuation s g depth conflicts (3 * (depth - n)) (cond c (Ask (Unbroken (Hazard (n + 1)))) (End (NotInductive t))) (asked ++ query_with_log (Step n) log ∷ []) rest
    by_case true e =
        let a = query_with_log (Step n) log in
        let less : n < depth = grind (arith, nat_tests) in (
          record {
            in_order = go-on s g depth conflicts None a (Hazard (n + 1)) asked left rest d logged sat count (to-hazard n (some-step n d.valid)) (hazard-valid depth n low less) (omega arith);
            known = record { no_hazard = known.no_hazard; no_breach = known.no_breach; runs = λ m pos below. runs m below pos };
          },
          omega arith,
        )
    by_case false e =
        let a = query_with_log (Step n) log in
        let least : depth ≤ n = grind (arith, nat_tests) in
        let within = d.within in
        let same : n ≡ depth = omega (arith, least, within) in
        record {
          right = inl (
            record {
              no_hazard = λ m le. known.no_hazard m (omega (arith, same, le));
              no_breach = λ m le. known.no_breach m (omega (arith, same, le));
              no_induction = λ m le inducts. inducts.1 (runs m (omega (arith, same, le)) inducts.0);
            },
            subst (λ (k : ℕ). IsRunOfQuery s g (Step k) t) same run,
          );
          lasts = tt;
          queries = asked-all s g depth conflicts depth a asked left (AskedQueryAllowsNext s g None) d logged (ap Step same) sat;
          few = few (total_conflicts (asked ++ a ∷ [])) rest conflicts (more-conflicts asked a left rest conflicts d.counted count);
        }

carried :
    (s : PlainSystem) (g : PlainGoalForms) (depth conflicts n : ℕ) (log : List LogStep) (asked : List Asked)
    (left rest : ℕ) →
    list_all (rule_valid s.ranges) s.rules ≡ true → QueryFollowsAskedInOrder s g depth conflicts None (Step n) asked left →
    NoHazardBreachInductionBelow s g (n + 1) (n + 1) n → LogStepsDerivedAndEmpowering s g (query_with_log (Step n) log) → count_learned_clauses log + rest ≡ left →
    IsRefuted s g (Step n) log → ¬ HasRun s g (Step n) →
    IsRightOrSpentVerdict s g depth conflicts (Safe n) (asked ++ query_with_log (Step n) log ∷ [])
carried s g depth conflicts n log asked left rest rules d known logged count refuted none =
    let a = query_with_log (Step n) log in
    let ever = forever s g n rules (λ m le. known.no_hazard m (omega (arith, le))) (λ m le. known.no_breach m (omega (arith, le))) none in
    record {
      right = inl (record {
        no_hazard = λ m le. (ever m).0;
        no_breach = λ m le. (ever m).1;
        induction = record { within = d.within; so = (some-step n d.valid, none); least = λ m less inducts. inducts.1 (known.runs m inducts.0 less) };
      });
      lasts = ever;
      queries = (d.within, asked-all s g depth conflicts n a asked left (λ (b : Asked). (b.query ≡ Step n) × IsRefuted s g b.query b.log) d logged refl (refl, refuted));
      few = few (total_conflicts (asked ++ a ∷ [])) rest conflicts (more-conflicts asked a left rest conflicts d.counted count);
    }

given-up :
    (s : PlainSystem) (g : PlainGoalForms) (depth conflicts : ℕ) (due : DueQuery) (log : List LogStep)
    (asked : List Asked) (left rest : ℕ) →
    IsDueAfterAskedQueries s g depth conflicts due asked left → LogStepsDerivedAndEmpowering s g (query_with_log (due_query due) log) →
    count_learned_clauses log + rest ≡ left → IsResponse s g (due_query due) left GivenUp log →
    IsRightOrSpentVerdict s g depth conflicts Spent (asked ++ query_with_log (due_query due) log ∷ [])
given-up s g depth conflicts due log asked left rest d logged count spent =
    let a = query_with_log (due_query due) log in
    let total = more-conflicts asked a left rest conflicts d.in_order.counted count in
    let all : count_learned_clauses log ≡ length log = all-conflicts log spent.unfinished in
    let steps = spent.steps in
    record {
      right = inr refl;
      lasts = tt;
      queries = ((breach_length due, (a, asked-to s g depth conflicts (breach_length due) a asked left d.in_order logged, record { unfinished = all; stuck = spent.stuck })), omega (arith, total, all, steps, count));
      few = few (total_conflicts (asked ++ a ∷ [])) rest conflicts total;
    }

no-hazard :
    (s : PlainSystem) (g : PlainGoalForms) (depth conflicts n : ℕ) (log : List LogStep) (asked : List Asked)
    (left rest : ℕ) →
    QueryFollowsAskedInOrder s g depth conflicts None (Hazard n) asked left → NoHazardBreachInductionBelow s g n n n →
    LogStepsDerivedAndEmpowering s g (query_with_log (Hazard n) log) → count_learned_clauses log + rest ≡ left → IsRefuted s g (Hazard n) log →
    ¬ HasRun s g (Hazard n) →
    IsDueAfterAskedQueries s g depth conflicts (Unbroken (BreachQuery n)) (asked ++ query_with_log (Hazard n) log ∷ []) rest
no-hazard s g depth conflicts n log asked left rest d known logged count refuted none =
    record {
      in_order = go-on s g depth conflicts None (query_with_log (Hazard n) log) (BreachQuery n) asked left rest d logged refuted count (to-breach n) d.valid d.within;
      known = record { no_hazard = below-more (λ m. ¬ HasRun s g (Hazard m)) n known.no_hazard none; no_breach = known.no_breach; runs = known.runs };
    }

no-breach :
    (s : PlainSystem) (g : PlainGoalForms) (depth conflicts n : ℕ) (log : List LogStep) (asked : List Asked)
    (left rest : ℕ) →
    QueryFollowsAskedInOrder s g depth conflicts None (BreachQuery (suc n)) asked left →
    NoHazardBreachInductionBelow s g (suc n + 1) (suc n) (suc n) → LogStepsDerivedAndEmpowering s g (query_with_log (BreachQuery (suc n)) log) →
    count_learned_clauses log + rest ≡ left → IsRefuted s g (BreachQuery (suc n)) log →
    ¬ HasRun s g (BreachQuery (suc n)) →
    IsDueAfterAskedQueries s g depth conflicts (Unbroken (Step (suc n))) (asked ++ query_with_log (BreachQuery (suc n)) log ∷ [])
    rest
no-breach s g depth conflicts n log asked left rest d known logged count refuted none =
    record {
      in_order = go-on s g depth conflicts None (query_with_log (BreachQuery (suc n)) log) (Step (suc n)) asked
          left rest d logged (inl refuted) count (to-step (suc n))
          (and_from (nat_lt 0 (suc n)) (step_count_is_allowed (BreachQuery (suc n))) (lt-ltb 0 (suc n) (omega arith))
          d.valid) d.within;
      known = record { no_hazard = known.no_hazard; no_breach = below-more (λ m. ¬ HasRun s g (BreachQuery m)) (suc n) known.no_breach none; runs = known.runs };
    }

no-breach-at-start :
    (s : PlainSystem) (g : PlainGoalForms) (depth conflicts : ℕ) (log : List LogStep) (asked : List Asked)
    (left rest : ℕ) → 0 < depth →
    QueryFollowsAskedInOrder s g depth conflicts None (BreachQuery 0) asked left → NoHazardBreachInductionBelow s g 1 0 0 →
    LogStepsDerivedAndEmpowering s g (query_with_log (BreachQuery 0) log) → count_learned_clauses log + rest ≡ left →
    IsRefuted s g (BreachQuery 0) log → ¬ HasRun s g (BreachQuery 0) →
    IsDueAfterAskedQueries s g depth conflicts (Unbroken (Hazard 1)) (asked ++ query_with_log (BreachQuery 0) log ∷ []) rest
no-breach-at-start s g depth conflicts log asked left rest deep d known logged count refuted none =
    record {
      in_order = go-on s g depth conflicts None (query_with_log (BreachQuery 0) log) (Hazard 1) asked left rest d logged (inl refuted) count refl refl (omega (arith, deep));
      known = record { no_hazard = known.no_hazard; no_breach = below-more (λ m. ¬ HasRun s g (BreachQuery m)) 0 known.no_breach none; runs = λ m pos less. absurd (omega (arith, pos, less)) };
    }

pub follows :
    (s : PlainSystem) (g : PlainGoalForms) (depth conflicts : ℕ) (due : DueQuery) (response : Response)
    (log : List LogStep) (asked : List Asked) (left rest : ℕ) →
    list_all (rule_valid s.ranges) s.rules ≡ true → 0 < depth → depth ≤ 16 →
    IsDueAfterAskedQueries s g depth conflicts due asked left → LogStepsDerivedAndEmpowering s g (query_with_log (due_query due) log) →
    count_learned_clauses log + rest ≡ left → IsResponse s g (due_query due) left response log →
    IsValidContinuation s g depth conflicts (max_queries_left depth due) (query_or_verdict_after_response depth due response)
    (asked ++ query_with_log (due_query due) log ∷ []) rest
follows s g depth conflicts (Unbroken (Hazard n)) (Run t) log asked left rest rules deep low d logged count r = endangered s g depth conflicts None n t log asked left rest d.in_order d.known.no_hazard logged count r.0
follows s g depth conflicts (Unbroken (BreachQuery n)) (Run t) log asked left rest rules deep low d logged count r = broke s g depth conflicts n t log asked left rest low (steps-of s g (BreachQuery n) t r.0) d.in_order d.known logged count r.0 r.1
follows s g depth conflicts (Unbroken (Step n)) (Run t) log asked left rest rules deep low d logged count r = left-invariant s g depth conflicts n t log asked left rest low d.in_order d.known logged count r.0 r.1
follows s g depth conflicts (Broken n breach) (Run t) log asked left rest rules deep low d logged count r = endangered s g depth conflicts (Some (length breach.rules)) n t log asked left rest d.in_order d.known.known.no_hazard logged count r.0
follows s g depth conflicts (Unbroken (Hazard n)) Refuted log asked left rest rules deep low d logged count r = (no-hazard s g depth conflicts n log asked left rest d.in_order d.known logged count r.0 r.1, omega arith)
follows s g depth conflicts (Unbroken (BreachQuery zero)) Refuted log asked left rest rules deep low d logged count r = (no-breach-at-start s g depth conflicts log asked left rest deep d.in_order d.known logged count r.0 r.1, omega arith)
follows s g depth conflicts (Unbroken (BreachQuery (suc n))) Refuted log asked left rest rules deep low d logged count r = (no-breach s g depth conflicts n log asked left rest d.in_order d.known logged count r.0 r.1, omega arith)
follows s g depth conflicts (Unbroken (Step n)) Refuted log asked left rest rules deep low d logged count r = carried s g depth conflicts n log asked left rest rules d.in_order d.known logged count r.0 r.1
follows s g depth conflicts (Broken n t) Refuted log asked left rest rules deep low d logged count r = after-broken s g depth conflicts n t log asked left rest low d.in_order d.known logged count r.0 r.1
follows s g depth conflicts due GivenUp log asked left rest rules deep low d logged count r = given-up s g depth conflicts due log asked left rest d logged count r

pub first-due : (s : PlainSystem) (g : PlainGoalForms) (depth conflicts : ℕ) → IsDueAfterAskedQueries s g depth conflicts (Unbroken (Hazard 0)) [] conflicts
first-due s g depth conflicts =
    record {
      in_order = record { order = refl; valid = refl; within = omega arith; found = tt; passed = All-nil (AskedQueryAllowsNext s g None); logs = All-nil (LogStepsDerivedAndEmpowering s g); counted = omega arith };
      known = record { no_hazard = λ m less. absurd (omega (arith, less)); no_breach = λ m less. absurd (omega (arith, less)); runs = λ m pos less. absurd (omega (arith, less)) };
    }

pub turned :
    (s : PlainSystem) (g : PlainGoalForms) (depth conflicts : ℕ) (due : DueQuery) (q : Wanted) (response : Response)
    (log : List LogStep) (asked new : List Asked) (left count rest : ℕ) (next : Next) →
    system_valid s ≡ true → 0 < depth → depth ≤ 16 → IsDueAfterAskedQueries s g depth conflicts due asked left →
    q ≡ due_query due → IsEmpoweringLogWithinBudget (query_formula s g q) left log → IsResponse s g q left response log →
    count ≡ count_learned_clauses log → rest ≡ left - count → new ≡ asked ++ query_with_log q log ∷ [] →
    next ≡ query_or_verdict_after_response depth due response → IsValidContinuation s g depth conflicts (max_queries_left depth due) next new rest
turned s g depth conflicts due q response log asked new left count rest next valid deep low d same is_log says counted rested grown is_next =
    let good = subst (λ (u : Wanted). IsEmpoweringLogWithinBudget (query_formula s g u) left log) same is_log in
    let said = subst (λ (u : Wanted). IsResponse s g u left response log) same says in
    let logged : LogStepsDerivedAndEmpowering s g (query_with_log (due_query due) log) = record { derived = good.derived; fresh = good.fresh } in
    let most = good.few in
    let sum : count_learned_clauses log + rest ≡ left = omega (arith, most, counted, rested) in
    let main = follows s g depth conflicts due response log asked left rest (and_parts _ _ valid).1 deep low d logged sum said in
    let to = subst (λ (n : Next). IsValidContinuation s g depth conflicts (max_queries_left depth due) n (asked ++ query_with_log (due_query due) log ∷ []) rest) (sym is_next) main in
    subst (λ (xs : List Asked). IsValidContinuation s g depth conflicts (max_queries_left depth due) next xs rest) (sym (grown ∙ ap (λ (u : Wanted). asked ++ query_with_log u log ∷ []) same)) to
