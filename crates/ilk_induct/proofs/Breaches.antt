-- The continuation after a hazard, and after a breach.
use Rattle.std.proofs.Common.{◌≡◌, ℕ, ◌+◌, ◌-◌, ◌*◌, ◌≤◌, ◌<◌, Bool, true, false, cond, List, [], ◌∷◌, ◌++◌, length, Option, Some, None, refl, sym, ap, ◌∙◌, subst, arith, nat_lt, inl, inr}
use Rattle.std.proofs.lemmas.Bool.{le-leb}
use Rattle.std.proofs.lemmas.Bool.Decides.{nat_tests}
use Rattle.std.proofs.Math.Nat.{eq-or-lt_of_le}
use Rattle.ilk_ir.specs.System.{PlainSystem}
use Rattle.ilk_unroll.specs.Query.{query_formula}
use Rattle.ilk_unroll.specs.Satisfied.{IsSatisfiable}
use Rattle.ilk_log.specs.declared.step.Step.{Step as LogStep}
use Rattle.ilk_log.specs.Conflicts.{count_learned_clauses}
use Rattle.ilk_unroll.specs.declared.queries.Wanted.{Wanted}
use Rattle.ilk_unroll.specs.declared.queries.Wanted.TheVariants.{Hazard, Breach as BreachQuery}
use Rattle.ilk_unroll.specs.declared.reading.Trace.{Trace}
use Rattle.ilk_unroll.specs.Goal.{PlainGoalForms, query_step_count, step_count_is_allowed}
use Rattle.ilk_induct.specs.declared.due.DueQuery.TheVariants.{Broken}
use Rattle.ilk_induct.specs.declared.due.Next.TheVariants.{Ask, End}
use Rattle.ilk_certificate.specs.declared.asked.Asked.{Asked}
use Rattle.ilk_certificate.specs.Certificate.{IsRefuted}
use Rattle.ilk_certificate.specs.CertificateText.{total_conflicts}
use Rattle.ilk_induct.specs.declared.verdict.Verdict.TheVariants.{Unsafe, Breach}
use Rattle.ilk_unroll.specs.Evidence.{HasRun}
use Rattle.ilk_induct.specs.Right.{IsRunOfQuery, IsExactSystemVerdict}
use Rattle.ilk_induct.specs.Spent.{LogStepsDerivedAndEmpowering}
use Rattle.ilk_induct.specs.Due.{query_with_log, queries_to_query_given_breach, next_hazard_query_or_breach, NoHazardBreachInductionBelow, IsFoundBreachWithoutShorter, QueryFollowsAskedInOrder, IsRightOrSpentVerdict, IsValidContinuation}
use Rattle.ilk_unroll.proofs.QueryDemands.{wanted-parts}
use Rattle.ilk_induct.proofs.Orders.{to-hazard-after, all-to-hazard, more-queries, more-conflicts, asked-to, go-on, found-order, found-to, go-on-found}

pub below-more : (P : ℕ → Type 0) (n : ℕ) → ((m : ℕ) → m < n → P m) → P n → (m : ℕ) → m < n + 1 → P m
below-more P n below at m less =
    elim (eq-or-lt_of_le (let le : m ≤ n = omega arith in le)) [ inl e ↦ subst P (sym e) at | inr lt ↦ below m lt ]

pub hazard-valid : (depth n : ℕ) → depth ≤ 16 → n < depth → step_count_is_allowed (Hazard (n + 1)) ≡ true
hazard-valid depth n few less = le-leb (n + 1) 16 (omega arith)

pub steps-of : (s : PlainSystem) (g : PlainGoalForms) (q : Wanted) (t : Trace) → IsRunOfQuery s g q t → length t.rules ≡ query_step_count q
steps-of s g q t run = (wanted-parts s g q t.first t.rules run).many

pub few : (total rest conflicts : ℕ) → total + rest ≡ conflicts → total ≤ conflicts
few total rest conflicts h = omega (arith, h)

pub endangered :
    (s : PlainSystem) (g : PlainGoalForms) (depth conflicts : ℕ) (breach : Option ℕ) (n : ℕ) (t : Trace)
    (log : List LogStep) (asked : List Asked) (left rest : ℕ) →
    QueryFollowsAskedInOrder s g depth conflicts breach (Hazard n) asked left → ((m : ℕ) → m < n → ¬ HasRun s g (Hazard m)) →
    LogStepsDerivedAndEmpowering s g (query_with_log (Hazard n) log) → count_learned_clauses log + rest ≡ left → IsRunOfQuery s g (Hazard n) t →
    IsRightOrSpentVerdict s g depth conflicts (Unsafe t) (asked ++ query_with_log (Hazard n) log ∷ [])
endangered s g depth conflicts breach n t log asked left rest d none logged count run =
    let a = query_with_log (Hazard n) log in
    let e : length t.rules ≡ n = steps-of s g (Hazard n) t run in
    let same : IsRunOfQuery s g (Hazard (length t.rules)) t = subst (λ (k : ℕ). IsRunOfQuery s g (Hazard k) t) (sym e) run in
    let within = d.within in
    record {
      right = inl (record { hazard = record { within = omega (arith, e, within); so = (t.first, t.rules, same); least = λ m less. none m (omega (arith, e, less)) } }, same);
      lasts = tt;
      queries = (breach, (a, asked-to s g depth conflicts breach a asked left d logged, ap Hazard (sym e)));
      few = few (total_conflicts (asked ++ a ∷ [])) rest conflicts (more-conflicts asked a left rest conflicts d.counted count);
    }

breach-end : (s : PlainSystem) (g : PlainGoalForms) (depth : ℕ) (t : Trace) → length t.rules ≤ depth → NoHazardBreachInductionBelow s g (depth + 1) (length t.rules) 0 → IsRunOfQuery s g (BreachQuery (length t.rules)) t →
    IsExactSystemVerdict s g depth (Breach t)
breach-end s g depth t within known run =
    (record { no_hazard = λ m le. known.no_hazard m (omega arith); breach = record { within = within; so = (t.first, t.rules, run); least = known.no_breach } }, run)

pub after-broken :
    (s : PlainSystem) (g : PlainGoalForms) (depth conflicts n : ℕ) (t : Trace) (log : List LogStep)
    (asked : List Asked) (left rest : ℕ) → depth ≤ 16 →
    QueryFollowsAskedInOrder s g depth conflicts (Some (length t.rules)) (Hazard n) asked left → IsFoundBreachWithoutShorter s g n t →
    LogStepsDerivedAndEmpowering s g (query_with_log (Hazard n) log) → count_learned_clauses log + rest ≡ left → IsRefuted s g (Hazard n) log →
    ¬ HasRun s g (Hazard n) →
    IsValidContinuation s g depth conflicts (3 * (depth - n) + 2) (next_hazard_query_or_breach depth n t)
    (asked ++ query_with_log (Hazard n) log ∷ []) rest
after-broken s g depth conflicts n t log asked left rest low d found logged count refuted none = by_case (nat_lt n depth) refl
  where
    no_hazard : (m : ℕ) → m < n + 1 → ¬ HasRun s g (Hazard m)
    no_hazard = below-more (λ m. ¬ HasRun s g (Hazard m)) n found.known.no_hazard none

    by_case : (b : Bool) → nat_lt n depth ≡ b → IsValidContinuation s g depth conflicts (3 * (depth - n) + 2) (cond b (Ask (Broken (n + 1) t)) (End (Breach t))) (asked ++ query_with_log (Hazard n) log ∷ []) rest
    by_case true e =
        let a = query_with_log (Hazard n) log in
        let less : n < depth = grind (arith, nat_tests) in
        let later = found.later in (
          record {
            in_order = go-on s g depth conflicts (Some (length t.rules)) a (Hazard (n + 1)) asked left rest d logged refuted count (to-hazard-after (length t.rules) n (Hazard n) refl (omega arith)) (hazard-valid depth n low less) (omega arith);
            known = record { known = record { no_hazard = no_hazard; no_breach = found.known.no_breach; runs = found.known.runs }; run = found.run; later = omega arith };
          },
          omega arith,
        )
    by_case false e =
        let a = query_with_log (Hazard n) log in
        let least : depth ≤ n = grind (arith, nat_tests) in
        let within = d.within in
        let same : n ≡ depth = omega arith in
        let later = found.later in
        record {
          right = inl (breach-end s g depth t (omega arith) (record { no_hazard = λ m less. no_hazard m (omega arith); no_breach = found.known.no_breach; runs = found.known.runs }) found.run);
          lasts = tt;
          queries = record {
            all = more-queries asked a (queries_to_query_given_breach (Some (length t.rules)) (Hazard n)) d.order
                ∙ all-to-hazard (length t.rules) depth (Hazard n) same;
            ends = (
              a,
              asked-to s g depth conflicts (Some (length t.rules)) a asked left d logged,
              refuted,
            );
          };
          few = few (total_conflicts (asked ++ a ∷ [])) rest conflicts (more-conflicts asked a left rest conflicts d.counted count);
        }

broke-at :
    (s : PlainSystem) (g : PlainGoalForms) (depth conflicts : ℕ) (t : Trace) (log : List LogStep)
    (asked : List Asked) (left rest : ℕ) → depth ≤ 16 →
    QueryFollowsAskedInOrder s g depth conflicts None (BreachQuery (length t.rules)) asked left →
    NoHazardBreachInductionBelow s g (length t.rules + 1) (length t.rules) (length t.rules) →
    LogStepsDerivedAndEmpowering s g (query_with_log (BreachQuery (length t.rules)) log) → count_learned_clauses log + rest ≡ left →
    IsRunOfQuery s g (BreachQuery (length t.rules)) t →
    IsSatisfiable (query_formula s g (BreachQuery (length t.rules))) →
    IsValidContinuation s g depth conflicts (3 * (depth - length t.rules) + 1) (next_hazard_query_or_breach depth (length t.rules) t)
    (asked ++ query_with_log (BreachQuery (length t.rules)) log ∷ []) rest
broke-at s g depth conflicts t log asked left rest low d known logged count run has = by_case (nat_lt (length t.rules) depth) refl
  where
    by_case : (c : Bool) → nat_lt (length t.rules) depth ≡ c →
        IsValidContinuation s g depth conflicts (3 * (depth - length t.rules) + 1)
        (cond c (Ask (Broken (length t.rules + 1) t)) (End (Breach t)))
        (asked ++ query_with_log (BreachQuery (length t.rules)) log ∷ []) rest
    by_case true e =
        let less : length t.rules < depth = grind (arith, nat_tests) in (
          record {
            in_order = go-on-found s g depth conflicts (length t.rules) log asked left rest d logged has count (hazard-valid depth (length t.rules) low less) (omega arith);
            known = record { known = record { no_hazard = known.no_hazard; no_breach = known.no_breach; runs = λ m pos none. absurd (omega (arith, none)) }; run = run; later = omega arith };
          },
          omega arith,
        )
    by_case false e =
        let a = query_with_log (BreachQuery (length t.rules)) log in
        let least : depth ≤ length t.rules = grind (arith, nat_tests) in
        let within = d.within in
        let same : length t.rules ≡ depth = omega (arith, least, within) in
        record {
          right = inl (breach-end s g depth t (omega (arith, within)) (record { no_hazard = λ m below. known.no_hazard m (omega (arith, same, below)); no_breach = known.no_breach; runs = λ m pos none. absurd (omega (arith, none)) }) run);
          lasts = tt;
          queries = record {
            all = found-order asked (length t.rules) log d.order
                ∙ all-to-hazard (length t.rules) depth (BreachQuery (length t.rules)) same;
            ends = (
              a,
              found-to s g depth conflicts (length t.rules) log asked left d logged has,
              inr refl,
            );
          };
          few = few (total_conflicts (asked ++ a ∷ [])) rest conflicts (more-conflicts asked a left rest conflicts d.counted count);
        }

pub broke :
    (s : PlainSystem) (g : PlainGoalForms) (depth conflicts n : ℕ) (t : Trace) (log : List LogStep)
    (asked : List Asked) (left rest : ℕ) → depth ≤ 16 →
    length t.rules ≡ n → QueryFollowsAskedInOrder s g depth conflicts None (BreachQuery n) asked left →
    NoHazardBreachInductionBelow s g (n + 1) n n → LogStepsDerivedAndEmpowering s g (query_with_log (BreachQuery n) log) → count_learned_clauses log + rest ≡ left →
    IsRunOfQuery s g (BreachQuery n) t → IsSatisfiable (query_formula s g (BreachQuery n)) →
    IsValidContinuation s g depth conflicts (3 * (depth - n) + 1) (next_hazard_query_or_breach depth n t)
    (asked ++ query_with_log (BreachQuery n) log ∷ []) rest
broke s g depth conflicts n t log asked left rest low size =
    subst
    (λ (k : ℕ). QueryFollowsAskedInOrder s g depth conflicts None (BreachQuery k) asked left → NoHazardBreachInductionBelow s g (k + 1) k k →
    LogStepsDerivedAndEmpowering s g (query_with_log (BreachQuery k) log) → count_learned_clauses log + rest ≡ left →
    IsRunOfQuery s g (BreachQuery k) t → IsSatisfiable (query_formula s g (BreachQuery k)) →
    IsValidContinuation s g depth conflicts (3 * (depth - k) + 1) (next_hazard_query_or_breach depth k t)
    (asked ++ query_with_log (BreachQuery k) log ∷ []) rest) size
    (broke-at s g depth conflicts t log asked left rest low)
