-- The text written for a verdict is a certificate for it, and its logs have no hint 0.
use Rattle.std.proofs.Common.{◌≡◌, ℕ, zero, suc, ◌<◌, ◌≤◌, true, List, [], ◌∷◌, ◌++◌, Option, Some, None, IsTrue, refl, ap, arith, All}
use Rattle.std.specs.Prelude.{nat_lt}
use Rattle.std.specs.List.{list_all}
use Rattle.std.proofs.lemmas.Bool.{and_parts, lt-ltb, and_from}
use Rattle.std.proofs.lemmas.List.Elements.{All-head, All-tail}
use Rattle.ilk_base.specs.Option.{is_some_and}
use Rattle.ilk_cnf.specs.Literal.{Literal}
use Rattle.ilk_ir.specs.System.{PlainSystem}
use Rattle.ilk_log.specs.declared.step.Step.{Step as LogStep}
use Rattle.ilk_log.specs.Derived.{negated_clause, hints_end_in_conflict, is_derived, each_derived}
use Rattle.ilk_log.specs.Propagation.{after_hint}
use Rattle.ilk_unroll.specs.Goal.{PlainGoalForms}
use Rattle.ilk_unroll.specs.Query.{query_formula}
use Rattle.ilk_certificate.specs.declared.asked.Asked.{Asked}
use Rattle.ilk_certificate.specs.Certificate.{IsValidCertificate}
use Rattle.ilk_certificate.specs.CertificateText.{total_conflicts, has_no_hint_zero, have_no_hint_zero, safe_text, spent_text}
use Rattle.ilk_certificate.specs.Kept.{drop_nonfinal_step_queries}
use Rattle.ilk_induct.specs.declared.verdict.Verdict.{Verdict}
use Rattle.ilk_induct.specs.declared.verdict.Verdict.TheVariants.{Safe, Unsafe, Breach, NotInductive, Spent}
use Rattle.ilk_induct.specs.Spent.{LogStepsDerivedAndEmpowering, IsSpentText}
use Rattle.ilk_induct.specs.Asked.{AreQueriesOfVerdict}
use Rattle.ilk_induct.specs.Certified.{AreRefutedCertificateQueries}
use Rattle.ilk_induct.proofs.Certified.{certifies}

from-one : (h : ℕ) → nat_lt 0 (suc h) ≡ true
from-one h = lt-ltb 0 (suc h) (omega arith)

ends-count : (clauses : List (List Literal)) (set : List Literal) (hints : List ℕ) → hints_end_in_conflict clauses set hints ≡ true → list_all (λ h. nat_lt 0 h) hints ≡ true
ends-count clauses set [] e = cc
ends-count clauses set (zero ∷ []) e = absurd cc
ends-count clauses set (suc h ∷ []) e = and_from (nat_lt 0 (suc h)) true (from-one h) refl
ends-count clauses set (zero ∷ (k ∷ hints)) e = absurd cc
ends-count clauses set (suc h ∷ (k ∷ hints)) e = and_from (nat_lt 0 (suc h)) (list_all (λ h. nat_lt 0 h) (k ∷ hints)) (from-one h) (by_next (after_hint clauses set (suc h)) (λ next. ends-count clauses next (k ∷ hints)) e)
  where
    by_next : (o : Option (List Literal)) →
        ((next : List Literal) → hints_end_in_conflict clauses next (k ∷ hints) ≡ true →
        list_all (λ h. nat_lt 0 h) (k ∷ hints) ≡ true) →
        is_some_and o (λ next. hints_end_in_conflict clauses next (k ∷ hints)) ≡ true →
        list_all (λ h. nat_lt 0 h) (k ∷ hints) ≡ true
    by_next None count e = absurd cc
    by_next (Some next) count e = count next e

derived-count : (n : ℕ) (clauses : List (List Literal)) (steps : List LogStep) → each_derived n clauses steps ≡ true → list_all has_no_hint_zero steps ≡ true
derived-count n clauses [] e = refl
derived-count n clauses (s ∷ steps) e =
    let parts = and_parts (is_derived n clauses s) (each_derived n (clauses ++ s.clause ∷ []) steps) e in
    let here = and_parts _ _ parts.0 in
    let hints : has_no_hint_zero s ≡ true = ends-count clauses (negated_clause s.clause) s.hints here.1 in
    rw hints (derived-count n (clauses ++ s.clause ∷ []) steps parts.1)

logs-count : (s : PlainSystem) (g : PlainGoalForms) (asked : List Asked) → All (LogStepsDerivedAndEmpowering s g) asked → IsTrue (have_no_hint_zero asked)
logs-count s g [] logs = refl
logs-count s g (a ∷ asked) logs =
    let one : LogStepsDerivedAndEmpowering s g a = All-head (LogStepsDerivedAndEmpowering s g) a asked logs in
    let here : list_all has_no_hint_zero a.log ≡ true = derived-count (query_formula s g a.query).vars (query_formula s g a.query).clauses a.log one.derived in
    rw here (logs-count s g asked (All-tail (LogStepsDerivedAndEmpowering s g) a asked logs))

pub hints_count : (s : PlainSystem) (g : PlainGoalForms) (depth conflicts : ℕ) (verdict : Verdict) (asked : List Asked) → AreQueriesOfVerdict s g depth conflicts verdict asked → IsTrue (have_no_hint_zero asked)
hints_count s g depth conflicts (Unsafe t) asked h = logs-count s g asked h.1.1.logs
hints_count s g depth conflicts (Breach t) asked h = logs-count s g asked h.ends.1.logs
hints_count s g depth conflicts (Safe k) asked h = logs-count s g asked h.1.ends.1.logs
hints_count s g depth conflicts (NotInductive t) asked h = logs-count s g asked h.ends.1.logs
hints_count s g depth conflicts Spent asked h = logs-count s g asked h.0.1.1.logs

pub safe_certifies : (s : PlainSystem) (g : PlainGoalForms) (depth conflicts k : ℕ) (asked : List Asked) → depth ≤ 16 → 0 < k → AreQueriesOfVerdict s g depth conflicts (Safe k) asked → IsValidCertificate s g k (safe_text k
    (drop_nonfinal_step_queries asked))
safe_certifies s g depth conflicts k asked deep some h =
    let all : AreRefutedCertificateQueries s g k asked = certifies s g depth conflicts (Safe k) asked h in
    let within = h.0 in
    record {
      asked = drop_nonfinal_step_queries asked;
      some = some;
      most = omega (arith, deep, within);
      queries = all.queries;
      refuted = all.refuted;
      text = refl;
    }

pub spent_certifies : (s : PlainSystem) (g : PlainGoalForms) (depth conflicts : ℕ) (asked : List Asked) → AreQueriesOfVerdict s g depth conflicts Spent asked → IsSpentText s g depth conflicts (spent_text (total_conflicts asked) asked)
spent_certifies s g depth conflicts asked h = record { asked = asked; breach = h.0.0; given_up = h.0.1; counted = h.1; text = ap (λ (n : ℕ). spent_text n asked) h.1 }
