-- The queries asked for a verdict.
use Rattle.std.specs.Prelude.{ℕ, ◌≡◌, ◌≤◌, Option, Some, None, List, length, map}
use Rattle.ilk_ir.specs.System.{PlainSystem}
use Rattle.ilk_unroll.specs.declared.queries.Wanted.TheVariants.{Hazard, Step}
use Rattle.ilk_unroll.specs.Goal.{PlainGoalForms}
use Rattle.ilk_certificate.specs.declared.asked.Asked.{Asked}
use Rattle.ilk_certificate.specs.Certificate.{IsRefuted}
use Rattle.ilk_certificate.specs.CertificateText.{total_conflicts}
use Rattle.ilk_induct.specs.declared.verdict.Verdict.{Verdict}
use Rattle.ilk_induct.specs.declared.verdict.Verdict.TheVariants.{Safe, Unsafe, Breach, NotInductive, Spent}
use Rattle.ilk_induct.specs.Order.{queries_to_depth_given_breach}
use Rattle.ilk_induct.specs.Spent.{AskedQueryAllowsNext, AskedPrefixAndLastMeets, GaveUpWithStuckLog}

-- Holds if `asked` are all queries up to the depth, in order, and `Ends` holds for the last. After
-- a breach of `breach` steps, only hazard queries follow.
pub record AllAskedAndLastMeets (s : PlainSystem) (g : PlainGoalForms) (depth : ℕ) (breach : Option ℕ) (Ends : Asked → Type 0) (asked : List Asked) : Type 0 where
  pub all : map (λ (a : Asked). a.query) asked ≡ queries_to_depth_given_breach breach depth
  pub ends : AskedPrefixAndLastMeets s g depth breach Ends asked

-- Holds if these queries, in order, lead to this verdict. The numbers are the depth and the
-- conflict budget.
abbrev pub AreQueriesOfVerdict : PlainSystem → PlainGoalForms → ℕ → ℕ → Verdict → List Asked → Type 0
-- The last is the hazard query that has the run.
AreQueriesOfVerdict s g depth conflicts (Unsafe t) asked =
    (breach : Option ℕ) × AskedPrefixAndLastMeets s g depth breach (λ a. a.query ≡ Hazard (length t.rules)) asked
-- All up to the depth, and none has ended the series.
AreQueriesOfVerdict s g depth conflicts (Breach t) asked = AllAskedAndLastMeets s g depth (Some (length t.rules)) (AskedQueryAllowsNext s g (Some (length t.rules))) asked
-- All up to this number, and the last, its step query, is refuted.
AreQueriesOfVerdict s g depth conflicts (Safe k) asked =
    (k ≤ depth) × AllAskedAndLastMeets s g k None (λ a. (a.query ≡ Step k) × IsRefuted s g a.query a.log) asked
-- All up to the depth, and none has ended the series.
AreQueriesOfVerdict s g depth conflicts (NotInductive t) asked = AllAskedAndLastMeets s g depth None (AskedQueryAllowsNext s g None) asked
-- The last was given up, and all conflicts are spent.
AreQueriesOfVerdict s g depth conflicts Spent asked =
    ((breach : Option ℕ) × AskedPrefixAndLastMeets s g depth breach (GaveUpWithStuckLog s g) asked) × (total_conflicts asked ≡ conflicts)
