use Rattle.std.specs.Prelude.{ℕ, ◌≡◌, List, map, All}
use Rattle.ilk_ir.specs.System.{PlainSystem}
use Rattle.ilk_unroll.specs.Goal.{PlainGoalForms}
use Rattle.ilk_certificate.specs.declared.asked.Asked.{Asked}
use Rattle.ilk_certificate.specs.Certificate.{IsRefuted, certified_queries}
use Rattle.ilk_certificate.specs.Kept.{drop_nonfinal_step_queries}
use Rattle.ilk_induct.specs.declared.verdict.Verdict.{Verdict}
use Rattle.ilk_induct.specs.declared.verdict.Verdict.TheVariants.{Safe, Unsafe, Breach, NotInductive, Spent}

-- Holds if the asked queries, without the step queries before the last, are those of a certificate
-- for `k`, and each is refuted by its log.
pub record AreRefutedCertificateQueries (s : PlainSystem) (g : PlainGoalForms) (k : ℕ) (asked : List Asked) : Type 0 where
  pub queries : map (λ (a : Asked). a.query) (drop_nonfinal_step_queries asked) ≡ certified_queries k
  pub refuted : All (λ (a : Asked). IsRefuted s g a.query a.log) (drop_nonfinal_step_queries asked)

-- Holds if the queries that were asked prove a safe verdict. It always holds for the other
-- verdicts.
abbrev pub QueriesProveVerdictIfSafe : PlainSystem → PlainGoalForms → Verdict → List Asked → Type 0
QueriesProveVerdictIfSafe s g (Unsafe t) asked = Unit {0}
QueriesProveVerdictIfSafe s g (Breach t) asked = Unit {0}
QueriesProveVerdictIfSafe s g (Safe k) asked = AreRefutedCertificateQueries s g k asked
QueriesProveVerdictIfSafe s g (NotInductive t) asked = Unit {0}
QueriesProveVerdictIfSafe s g Spent asked = Unit {0}
