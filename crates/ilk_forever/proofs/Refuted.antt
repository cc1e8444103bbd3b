-- A certificate refutes each of its queries, so no run of any length ends in a hazard or breaks a
-- family.
use Rattle.std.proofs.Common.{◌≡◌, ℕ, zero, suc, ◌+◌, ◌<◌, ◌≤◌, All, List, [], ◌∷◌, ◌++◌, inl, inr, sym, ◌∙◌, subst, arith}
use Rattle.std.specs.List.{flat_map, range_with_len}
use Rattle.std.proofs.lemmas.Bool.{false≢true}
use Rattle.std.proofs.lemmas.List.Elements.{All-head, All-map, All-tail, All-weaker}
use Rattle.ilk_base.proofs.Ranges.{below_or_past}
use Rattle.ilk_ir.specs.System.{PlainSystem}
use Rattle.ilk_lines.specs.Lines.{Bytes}
use Rattle.ilk_log.specs.declared.step.Step.{Step as LogStep}
use Rattle.ilk_log.proofs.Sound.{refutation_refutes}
use Rattle.ilk_unroll.specs.Goal.{PlainGoalForms}
use Rattle.ilk_unroll.specs.Query.{query_formula}
use Rattle.ilk_unroll.specs.Satisfied.{IsSatisfiable}
use Rattle.ilk_unroll.specs.declared.queries.Wanted.{Wanted}
use Rattle.ilk_unroll.specs.declared.queries.Wanted.TheVariants.{Hazard, Breach, Step}
use Rattle.ilk_certificate.specs.declared.asked.Asked.{Asked}
use Rattle.ilk_certificate.specs.Certificate.{hazard_and_breach_query_pair, certified_queries, IsValidCertificate, IsRefuted}
use Rattle.ilk_unroll.specs.Evidence.{HasRun, NoHazardOrBreachEver, HoldsForNoneUpTo, ReachesHazard, ReachesBreach}

each-base : (P : Wanted → Type 0) (a m n : ℕ) (rest : List Wanted) → All P (flat_map hazard_and_breach_query_pair (range_with_len a m) ++ rest) → a ≤ n → n < a + m → P (Hazard n) × P (Breach n)
each-base P a zero n rest all from below = absurd (omega arith)
each-base P a (suc m) n rest all from below =
    let more = flat_map hazard_and_breach_query_pair (range_with_len (a + 1) m) ++ rest in
    let later : All P (Breach a ∷ more) = All-tail P (Hazard a) (Breach a ∷ more) all in
    elim (below_or_past a n) [
      | inl past ↦ each-base P (a + 1) m n rest (All-tail P (Breach a) more later) (omega arith) (omega arith)
      | inr short ↦ (let same : a ≡ n = omega arith in
          subst (λ k. P (Hazard k) × P (Breach k)) same (All-head P (Hazard a) (Breach a ∷ more) all, All-head P (Breach a) more later))
    ]

last-query : (P : Wanted → Type 0) (a m : ℕ) (q : Wanted) → All P (flat_map hazard_and_breach_query_pair (range_with_len a m) ++ q ∷ []) → P q
last-query P a zero q all = All-head P q [] all
last-query P a (suc m) q all =
    let more = flat_map hazard_and_breach_query_pair (range_with_len (a + 1) m) ++ q ∷ [] in
    last-query P (a + 1) m q (All-tail P (Breach a) more (All-tail P (Hazard a) (Breach a ∷ more) all))

module _ (s : PlainSystem) (g : PlainGoalForms) (solves : (q : Wanted) → HasRun s g q → IsSatisfiable (query_formula s g q)) where
  no-run : (q : Wanted) (log : List LogStep) → IsRefuted s g q log → ¬ HasRun s g q
  no-run q log refuted has =
      let is = solves q has in
      false≢true (sym (refutation_refutes is.assignment (query_formula s g q) log refuted) ∙ is.satisfied)

  none-has-run : (k : ℕ) (bytes : Bytes) → IsValidCertificate s g k bytes → All (λ q. ¬ HasRun s g q) (certified_queries k)
  none-has-run k bytes c =
      let Never : Wanted → Type 0 = λ q. ¬ HasRun s g q in
      let each : All (λ (a : Asked). Never a.query) c.asked = All-weaker (λ (a : Asked). IsRefuted s g a.query a.log) (λ (a : Asked). Never a.query) (λ a refuted. no-run a.query a.log refuted) c.asked c.refuted in
      subst (All Never) c.queries (All-map Never (λ (a : Asked). a.query) c.asked each)

  pub certified-forever : (k : ℕ) (bytes : Bytes)
      → (HoldsForNoneUpTo k (ReachesHazard (HasRun s g)) → HoldsForNoneUpTo k (ReachesBreach (HasRun s g)) → ¬ HasRun s g (Step k) → NoHazardOrBreachEver (HasRun s g))
      → IsValidCertificate s g k bytes → NoHazardOrBreachEver (HasRun s g)
  certified-forever k bytes law c =
      let Never : Wanted → Type 0 = λ q. ¬ HasRun s g q in
      let none : All Never (certified_queries k) = none-has-run k bytes c in
      law (λ n le. (each-base Never 0 (k + 1) n (Step k ∷ []) none (omega arith) (omega arith)).0)
      (λ n le. (each-base Never 0 (k + 1) n (Step k ∷ []) none (omega arith) (omega arith)).1)
      (last-query Never 0 (k + 1) (Step k) none)
