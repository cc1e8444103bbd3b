-- Spent texts: queries in their order, up to one whose search was given up.
use Rattle.std.specs.Prelude.{ℕ, ◌≡◌, ◌≤◌, ◌⊎◌, Option, Some, IfSome, List, [], ◌∷◌, ◌++◌, length, map, IsTrue, All}
use Rattle.ilk_ir.specs.System.{PlainSystem}
use Rattle.ilk_lines.specs.Lines.{Bytes}
use Rattle.ilk_log.specs.declared.step.Step.{Step as LogStep}
use Rattle.ilk_log.specs.Conflicts.{count_learned_clauses}
use Rattle.ilk_log.specs.Derived.{is_derived_log}
use Rattle.ilk_log.specs.Fresh.{EachEmpowering, CanLearnButNotRefute}
use Rattle.ilk_unroll.specs.declared.queries.Wanted.{Wanted}
use Rattle.ilk_unroll.specs.declared.queries.Wanted.TheVariants.{Hazard, Breach, Step}
use Rattle.ilk_unroll.specs.Goal.{PlainGoalForms}
use Rattle.ilk_unroll.specs.Query.{query_formula}
use Rattle.ilk_unroll.specs.Satisfied.{IsSatisfiable}
use Rattle.ilk_certificate.specs.declared.asked.Asked.{Asked}
use Rattle.ilk_certificate.specs.Certificate.{IsRefuted}
use Rattle.ilk_certificate.specs.CertificateText.{total_conflicts, spent_text}
use Rattle.ilk_induct.specs.Order.{queries_to_depth_given_breach, IsPrefix}

-- Holds if each step of the query's log is derived, and no clause learned was already given by unit
-- propagation (fresh).
pub record LogStepsDerivedAndEmpowering (s : PlainSystem) (g : PlainGoalForms) (a : Asked) : Type 0 where
  pub derived : IsTrue (is_derived_log (query_formula s g a.query) a.log)
  pub fresh : EachEmpowering (query_formula s g a.query).clauses a.log

-- Holds if another query may follow after this one. A hazard query is refuted; so is a breach
-- query, except that of the breach found; a step query is satisfiable.
abbrev pub QueryAnswerAllowsNext : PlainSystem → PlainGoalForms → Option ℕ → Wanted → List LogStep → Type 0
QueryAnswerAllowsNext s g breach (Hazard n) log = IsRefuted s g (Hazard n) log
QueryAnswerAllowsNext s g breach (Breach n) log = IsRefuted s g (Breach n) log ⊎ (breach ≡ Some n)
QueryAnswerAllowsNext s g breach (Step n) log = IsSatisfiable (query_formula s g (Step n))

abbrev pub AskedQueryAllowsNext : PlainSystem → PlainGoalForms → Option ℕ → Asked → Type 0
AskedQueryAllowsNext s g breach a = QueryAnswerAllowsNext s g breach a.query a.log

-- Holds if the queries `asked` are a prefix of the order up to the depth, and all but the last let
-- another query follow. If a breach was found, its query is satisfiable.
pub record AskedPrefixPassedExceptLast (s : PlainSystem) (g : PlainGoalForms) (depth : ℕ) (breach : Option ℕ) (asked : List Asked) (last : Asked) : Type 0 where
  pub before : List Asked
  pub split : asked ≡ before ++ last ∷ []
  pub order : IsPrefix (map (λ (a : Asked). a.query) asked) (queries_to_depth_given_breach breach depth)
  pub found : IfSome breach (λ b. (b ≤ depth) × IsSatisfiable (query_formula s g (Breach b)))
  pub passed : All (AskedQueryAllowsNext s g breach) before
  pub logs : All (LogStepsDerivedAndEmpowering s g) asked

-- Holds if the queries `asked` are a prefix of the order up to the depth, and `Ends` holds for the
-- last.
abbrev pub AskedPrefixAndLastMeets : PlainSystem → PlainGoalForms → ℕ → Option ℕ → (Asked → Type 0) → List Asked → Type 0
AskedPrefixAndLastMeets s g depth breach Ends asked = (last : Asked) × AskedPrefixPassedExceptLast s g depth breach asked last × Ends last

-- Holds if the query's search was given up: its log only learned clauses. With them, unit
-- propagation doesn't refute the formula, and another clause could be learned (stuck).
pub record GaveUpWithStuckLog (s : PlainSystem) (g : PlainGoalForms) (a : Asked) : Type 0 where
  pub unfinished : count_learned_clauses a.log ≡ length a.log
  pub stuck : CanLearnButNotRefute (query_formula s g a.query) a.log

-- Holds if the bytes are the text that states that `n` conflicts are spent, for queries whose last
-- was given up. `n` clauses were learned.
pub record IsSpentText (s : PlainSystem) (g : PlainGoalForms) (depth n : ℕ) (bytes : Bytes) : Type 0 where
  pub asked : List Asked
  pub breach : Option ℕ
  pub given_up : AskedPrefixAndLastMeets s g depth breach (GaveUpWithStuckLog s g) asked
  pub counted : total_conflicts asked ≡ n
  pub text : bytes ≡ spent_text n asked
