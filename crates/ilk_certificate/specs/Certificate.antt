use Rattle.std.specs.Prelude.{ℕ, ◌+◌, ◌≡◌, ◌<◌, ◌≤◌, List, [], ◌∷◌, ◌++◌, map, All, IsTrue}
use Rattle.std.specs.List.{range_with_len, flat_map}
use Rattle.ilk_ir.specs.System.{PlainSystem}
use Rattle.ilk_lines.specs.Lines.{Bytes}
use Rattle.ilk_log.specs.declared.step.Step.{Step as LogStep}
use Rattle.ilk_log.specs.Derived.{is_refutation}
use Rattle.ilk_unroll.specs.declared.queries.Wanted.{Wanted}
use Rattle.ilk_unroll.specs.declared.queries.Wanted.TheVariants.{Hazard, Breach, Step}
use Rattle.ilk_unroll.specs.Goal.{PlainGoalForms}
use Rattle.ilk_unroll.specs.Query.{query_formula}
use Rattle.ilk_certificate.specs.declared.asked.Asked.{Asked}
use Rattle.ilk_certificate.specs.CertificateText.{safe_text}

-- Holds if the log is a refutation of the query's formula.
abbrev pub IsRefuted : PlainSystem → PlainGoalForms → Wanted → List LogStep → Type 0
IsRefuted s g q log = IsTrue (is_refutation (query_formula s g q) log)

-- The hazard query and the breach query for runs of `n` steps.
abbrev pub hazard_and_breach_query_pair : ℕ → List Wanted
hazard_and_breach_query_pair n = Hazard n ∷ Breach n ∷ []

-- The queries of a certificate for `k`: the hazard and the breach query for each number of steps up
-- to `k`, and the step query for `k`.
abbrev pub certified_queries : ℕ → List Wanted
certified_queries k = flat_map hazard_and_breach_query_pair (range_with_len 0 (k + 1)) ++ Step k ∷ []

-- Holds if the bytes are a certificate for `k`, from 1 to 16: the text that states `safe k`, with
-- its queries, each followed by a log that refutes it.
pub record IsValidCertificate (s : PlainSystem) (g : PlainGoalForms) (k : ℕ) (bytes : Bytes) : Type 0 where
  pub asked : List Asked
  pub some : 0 < k
  pub most : k ≤ 16
  pub queries : map (λ (a : Asked). a.query) asked ≡ certified_queries k
  pub refuted : All (λ (a : Asked). IsRefuted s g a.query a.log) asked
  pub text : bytes ≡ safe_text k asked
