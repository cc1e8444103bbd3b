-- For private contracts and proofs: the query to be asked, and what follows after its response.
use Rattle.std.specs.Prelude.{ℕ, zero, suc, ◌+◌, ◌-◌, ◌*◌, ◌≡◌, ◌<◌, ◌≤◌, ◌⊎◌, nat_lt, Option, Some, None, IfSome, List, [], ◌∷◌, ◌++◌, length, map, IsTrue, All, if◌then◌else◌}
use Rattle.std.specs.List.{range_with_len}
use Rattle.ilk_ir.specs.System.{PlainSystem}
use Rattle.ilk_log.specs.declared.step.Step.{Step as LogStep}
use Rattle.ilk_solver.specs.Answered.{IsSpentLog}
use Rattle.ilk_unroll.specs.declared.queries.Wanted.{Wanted}
use Rattle.ilk_unroll.specs.declared.queries.Wanted.TheVariants.{Hazard, Breach as BreachQuery, Step}
use Rattle.ilk_unroll.specs.declared.reading.Trace.{Trace}
use Rattle.ilk_unroll.specs.Goal.{PlainGoalForms, query_step_count, step_count_is_allowed}
use Rattle.ilk_unroll.specs.Query.{query_formula}
use Rattle.ilk_unroll.specs.Satisfied.{IsSatisfiable}
use Rattle.ilk_certificate.specs.declared.asked.Asked.{Asked}
use Rattle.ilk_certificate.specs.Certificate.{IsRefuted}
use Rattle.ilk_certificate.specs.CertificateText.{total_conflicts}
use Rattle.ilk_induct.specs.declared.ask.Response.{Response}
use Rattle.ilk_induct.specs.declared.ask.Response.TheVariants.{Run, Refuted, GivenUp}
use Rattle.ilk_induct.specs.declared.due.DueQuery.{DueQuery}
use Rattle.ilk_induct.specs.declared.due.DueQuery.TheVariants.{Unbroken, Broken}
use Rattle.ilk_induct.specs.declared.due.Next.{Next}
use Rattle.ilk_induct.specs.declared.due.Next.TheVariants.{Ask, End}
use Rattle.ilk_induct.specs.declared.verdict.Verdict.{Verdict}
use Rattle.ilk_induct.specs.declared.verdict.Verdict.TheVariants.{Safe, Unsafe, Breach, NotInductive, Spent}
use Rattle.ilk_unroll.specs.Evidence.{HasRun}
use Rattle.ilk_induct.specs.Right.{IsRunOfQuery, IsExactSystemVerdict, SystemVerdictHoldsAtAnyLength}
use Rattle.ilk_induct.specs.Order.{queries_below}
use Rattle.ilk_induct.specs.Spent.{LogStepsDerivedAndEmpowering, AskedQueryAllowsNext}
use Rattle.ilk_induct.specs.Asked.{AreQueriesOfVerdict}

-- Holds if the response to a query is right: its run is one that the query asks for, its log
-- refutes the query, or its search used up the budget.
abbrev pub IsResponse : PlainSystem → PlainGoalForms → Wanted → ℕ → Response → List LogStep → Type 0
IsResponse s g q budget (Run t) log = IsRunOfQuery s g q t × IsSatisfiable (query_formula s g q)
IsResponse s g q budget Refuted log = IsRefuted s g q log × ¬ HasRun s g q
IsResponse s g q budget GivenUp log = IsSpentLog (query_formula s g q) budget log

abbrev pub query_with_log : Wanted → List LogStep → Asked
query_with_log q log = record { query = q; log = log }

-- The queries in order, up to this one. After a breach of `b` steps, only hazard queries.
abbrev pub queries_to_query_given_breach : Option ℕ → Wanted → List Wanted
queries_to_query_given_breach None (Hazard n) = queries_below n ++ Hazard n ∷ []
queries_to_query_given_breach None (BreachQuery n) = queries_below n ++ Hazard n ∷ BreachQuery n ∷ []
queries_to_query_given_breach None (Step n) = queries_below n ++ Hazard n ∷ BreachQuery n ∷ Step n ∷ []
queries_to_query_given_breach (Some b) q = (queries_below b ++ Hazard b ∷ BreachQuery b ∷ []) ++ map Hazard (range_with_len (b + 1) (query_step_count q - b))

-- The query to be asked.
abbrev pub due_query : DueQuery → Wanted
due_query (Unbroken q) = q
due_query (Broken n t) = Hazard n

-- The number of steps of the breach found before this query, or `None` if there is none.
abbrev pub breach_length : DueQuery → Option ℕ
breach_length (Unbroken q) = None
breach_length (Broken n t) = Some (length t.rules)

-- What follows after a breach by run `t` if the hazard query for `n` steps has no run: the next
-- hazard query, or the verdict `Breach`.
abbrev pub next_hazard_query_or_breach : ℕ → ℕ → Trace → Next
next_hazard_query_or_breach depth n t = if nat_lt n depth then Ask (Broken (n + 1) t) else End (Breach t)

-- The query or verdict that follows if the query to be asked has run `t`.
abbrev pub query_or_verdict_after_run : ℕ → DueQuery → Trace → Next
query_or_verdict_after_run depth (Unbroken (Hazard n)) t = End (Unsafe t)
query_or_verdict_after_run depth (Unbroken (BreachQuery n)) t = next_hazard_query_or_breach depth n t
query_or_verdict_after_run depth (Unbroken (Step n)) t = if nat_lt n depth then Ask (Unbroken (Hazard (n + 1))) else End (NotInductive t)
query_or_verdict_after_run depth (Broken n breach) t = End (Unsafe t)

-- The query or verdict that follows if the query to be asked has no run.
abbrev pub query_or_verdict_after_refutation : ℕ → DueQuery → Next
query_or_verdict_after_refutation depth (Unbroken (Hazard n)) = Ask (Unbroken (BreachQuery n))
query_or_verdict_after_refutation depth (Unbroken (BreachQuery zero)) = Ask (Unbroken (Hazard 1))
query_or_verdict_after_refutation depth (Unbroken (BreachQuery (suc n))) = Ask (Unbroken (Step (suc n)))
query_or_verdict_after_refutation depth (Unbroken (Step n)) = End (Safe n)
query_or_verdict_after_refutation depth (Broken n breach) = next_hazard_query_or_breach depth n breach

abbrev pub query_or_verdict_after_response : ℕ → DueQuery → Response → Next
query_or_verdict_after_response depth due (Run t) = query_or_verdict_after_run depth due t
query_or_verdict_after_response depth due Refuted = query_or_verdict_after_refutation depth due
query_or_verdict_after_response depth due GivenUp = End Spent

-- Holds if no hazard is reached in fewer than `h` steps, no breach in fewer than `b`, and each step
-- query for fewer than `i` steps has a run.
pub record NoHazardBreachInductionBelow (s : PlainSystem) (g : PlainGoalForms) (h b i : ℕ) : Type 0 where
  pub no_hazard : (m : ℕ) → m < h → ¬ HasRun s g (Hazard m)
  pub no_breach : (m : ℕ) → m < b → ¬ HasRun s g (BreachQuery m)
  pub runs : (m : ℕ) → 0 < m → m < i → HasRun s g (Step m)

-- Holds if `t` is a shortest breach of fewer than `n` steps, and no hazard is reached in fewer than
-- `n`.
pub record IsFoundBreachWithoutShorter (s : PlainSystem) (g : PlainGoalForms) (n : ℕ) (t : Trace) : Type 0 where
  pub known : NoHazardBreachInductionBelow s g n (length t.rules) 0
  pub run : IsRunOfQuery s g (BreachQuery (length t.rules)) t
  pub later : length t.rules < n

abbrev pub ResultsKnownBeforeDueQuery : PlainSystem → PlainGoalForms → DueQuery → Type 0
ResultsKnownBeforeDueQuery s g (Unbroken (Hazard n)) = NoHazardBreachInductionBelow s g n n n
ResultsKnownBeforeDueQuery s g (Unbroken (BreachQuery n)) = NoHazardBreachInductionBelow s g (n + 1) n n
ResultsKnownBeforeDueQuery s g (Unbroken (Step n)) = NoHazardBreachInductionBelow s g (n + 1) (n + 1) n
ResultsKnownBeforeDueQuery s g (Broken n t) = IsFoundBreachWithoutShorter s g n t

-- Holds if query `q` is next in order after the queries `asked`, none of which ended the series,
-- and `left` conflicts are left.
pub record QueryFollowsAskedInOrder (s : PlainSystem) (g : PlainGoalForms) (depth conflicts : ℕ) (breach : Option ℕ) (q : Wanted) (asked : List Asked) (left : ℕ) : Type 0 where
  pub order : map (λ (a : Asked). a.query) asked ++ q ∷ [] ≡ queries_to_query_given_breach breach q
  pub valid : IsTrue (step_count_is_allowed q)
  pub within : query_step_count q ≤ depth
  pub found : IfSome breach (λ b. (b ≤ depth) × IsSatisfiable (query_formula s g (BreachQuery b)))
  pub passed : All (AskedQueryAllowsNext s g breach) asked
  pub logs : All (LogStepsDerivedAndEmpowering s g) asked
  pub counted : total_conflicts asked + left ≡ conflicts

pub record IsDueAfterAskedQueries (s : PlainSystem) (g : PlainGoalForms) (depth conflicts : ℕ) (due : DueQuery) (asked : List Asked) (left : ℕ) : Type 0 where
  pub in_order : QueryFollowsAskedInOrder s g depth conflicts (breach_length due) (due_query due) asked left
  pub known : ResultsKnownBeforeDueQuery s g due

-- Holds if the verdict is right, or `Spent`, and the queries `asked` lead to it.
pub record IsRightOrSpentVerdict (s : PlainSystem) (g : PlainGoalForms) (depth conflicts : ℕ) (verdict : Verdict) (asked : List Asked) : Type 0 where
  pub right : IsExactSystemVerdict s g depth verdict ⊎ (verdict ≡ Spent)
  pub lasts : SystemVerdictHoldsAtAnyLength s g verdict
  pub queries : AreQueriesOfVerdict s g depth conflicts verdict asked
  pub few : total_conflicts asked ≤ conflicts

-- An upper bound on the number of queries still to be asked.
abbrev pub max_queries_left : ℕ → DueQuery → ℕ
max_queries_left depth (Unbroken (Hazard n)) = 3 * (depth - n) + 2
max_queries_left depth (Unbroken (BreachQuery n)) = 3 * (depth - n) + 1
max_queries_left depth (Unbroken (Step n)) = 3 * (depth - n)
max_queries_left depth (Broken n t) = 3 * (depth - n) + 2

-- Holds if what follows after a query is right: a query that is next, with fewer than `due` queries
-- left, or a verdict.
abbrev pub IsValidContinuation : PlainSystem → PlainGoalForms → ℕ → ℕ → ℕ → Next → List Asked → ℕ → Type 0
IsValidContinuation s g depth conflicts due (Ask next) asked left = IsDueAfterAskedQueries s g depth conflicts next asked left × (max_queries_left depth next < due)
IsValidContinuation s g depth conflicts due (End verdict) asked left = IsRightOrSpentVerdict s g depth conflicts verdict asked
