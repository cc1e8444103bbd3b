-- The position in a certificate up to which lines were checked, and the lines that may follow.
use Rattle.std.specs.Prelude.{ℕ, Bool, true, false, ◌≡◌, ◌+◌, ◌-◌, ◌&&◌, ◌↔◌, not, List, [], ◌∷◌, ◌++◌, Option, Some, None, IsTrue, bytes_eq, codes, length, nat_le, nat_lt, take}
use Rattle.std.specs.List.{range_with_len, flat_map}
use Rattle.ilk_ir.specs.System.{PlainSystem}
use Rattle.ilk_lines.specs.Lines.{Bytes}
use Rattle.ilk_unroll.specs.declared.queries.Wanted.{Wanted}
use Rattle.ilk_unroll.specs.declared.queries.Wanted.TheVariants as wanted
use Rattle.ilk_unroll.specs.Goal.{PlainGoalForms, query_step_count, step_count_is_allowed}
use Rattle.ilk_audit.specs.Audited.{AuditState, with_step}
use Rattle.ilk_log.specs.declared.step.Step.{Step as LogStep}
use Rattle.ilk_log.specs.Derived.{is_derived, is_empty_clause}
use Rattle.ilk_log.specs.StepText.{has_writable_numbers, step_text}
use Rattle.ilk_certificate.specs.Certificate.{hazard_and_breach_query_pair}
use Rattle.ilk_cert_audit.specs.Grammar.{CertificateLines, QueriesLinesAndEnd, RefutationLinesAndRest, LinesAfterHeader}
use Rattle.ilk_cert_audit.specs.declared.next.Line.{Line}
use Rattle.ilk_cert_audit.specs.declared.next.Line.TheVariants.{Follows, Closes, Bad}
use Rattle.ilk_cert_audit.specs.declared.stage.Stage.{Stage}
use Rattle.ilk_cert_audit.specs.declared.stage.TheConstants.{MAX_NON_STEP_LINE}
use Rattle.ilk_cert_audit.specs.declared.stage.Stage.TheVariants.{Head, Told, Between, Within, Ended, Refused}

-- The queries that come after this one in a certificate for `k`.
abbrev pub certified_queries_after_query : ℕ → Wanted → List Wanted
certified_queries_after_query k (wanted.Hazard n) = wanted.Breach n ∷ (flat_map hazard_and_breach_query_pair (range_with_len (n + 1) (k - n)) ++ wanted.Step k ∷ [])
certified_queries_after_query k (wanted.Breach n) = flat_map hazard_and_breach_query_pair (range_with_len (n + 1) (k - n)) ++ wanted.Step k ∷ []
certified_queries_after_query k (wanted.Step n) = []

-- This query and those that come after it in a certificate for `k`; no query for `None`.
abbrev pub certified_queries_from_next : ℕ → Option Wanted → List Wanted
certified_queries_from_next k None = []
certified_queries_from_next k (Some q) = q ∷ certified_queries_after_query k q

-- Returns whether the query is valid and has at most `k` steps.
abbrev pub is_valid_query_within_k : ℕ → Wanted → Bool
is_valid_query_within_k k q = nat_le (query_step_count q) k && step_count_is_allowed q

-- Holds if the lines may follow at a stage of a certificate for `k`, up to its last line. If
-- `may_stop` is true, they may stop earlier.
abbrev pub FollowingLines : Bool → PlainSystem → PlainGoalForms → ℕ → Stage → List Bytes → Type 0
FollowingLines may_stop s g k Head lines = CertificateLines may_stop s g k lines
FollowingLines may_stop s g k Told lines = LinesAfterHeader may_stop s g k lines
FollowingLines may_stop s g k (Between m next) lines = (k ≡ m) × QueriesLinesAndEnd may_stop s g (certified_queries_from_next m next) lines
FollowingLines may_stop s g k (Within m q auditor) lines =
    (k ≡ m) × RefutationLinesAndRest may_stop auditor.vars auditor.clauses (QueriesLinesAndEnd may_stop s g (certified_queries_after_query m q)) lines
FollowingLines may_stop s g k (Ended m) lines = (k ≡ m) × (lines ≡ [])
FollowingLines may_stop s g k (Refused n) lines = ⊥

-- Returns whether `k` is from 1 to 16.
abbrev pub is_valid_k : ℕ → Bool
is_valid_k k = nat_lt 0 k && nat_le k 16

-- Returns whether the stage is possible without a bad line: its `k` is from 1 to 16, its query is
-- valid with at most `k` steps, and its steps have no empty clause.
abbrev pub is_valid_stage : Stage → Bool
is_valid_stage Head = true
is_valid_stage Told = true
is_valid_stage (Between k None) = is_valid_k k
is_valid_stage (Between k (Some q)) = is_valid_k k && is_valid_query_within_k k q
is_valid_stage (Within k q auditor) = is_valid_k k && is_valid_query_within_k k q && not auditor.closed
is_valid_stage (Ended k) = is_valid_k k
is_valid_stage (Refused n) = false

abbrev pub is_refused : Stage → Bool
is_refused Head = false
is_refused Told = false
is_refused (Between k next) = false
is_refused (Within k q auditor) = false
is_refused (Ended k) = false
is_refused (Refused n) = true

-- Returns whether the bytes show that the line is not a proof step's: five bytes or more that don't
-- start with `step `.
abbrev pub begins_no_step : Bytes → Bool
begins_no_step begun = nat_le 5 (length begun) && not (bytes_eq (take 5 begun) (codes "step "))

-- Returns whether these bytes already show that a line that starts with them may not follow at a
-- stage: among steps it is not a step, elsewhere it is too long.
abbrev pub begins_bad_line : Stage → Bytes → Bool
begins_bad_line Head begun = nat_lt MAX_NON_STEP_LINE (length begun)
begins_bad_line Told begun = nat_lt MAX_NON_STEP_LINE (length begun)
begins_bad_line (Between k next) begun = nat_lt MAX_NON_STEP_LINE (length begun)
begins_bad_line (Within k q auditor) begun = begins_no_step begun
begins_bad_line (Ended k) begun = nat_lt MAX_NON_STEP_LINE (length begun)
begins_bad_line (Refused n) begun = nat_lt MAX_NON_STEP_LINE (length begun)

-- Holds if `next` is the stage after this line, or `None` if the line may not follow.
abbrev pub IsNextStage : PlainSystem → PlainGoalForms → Stage → Bytes → Option Stage → Type 0
IsNextStage s g stage line None = (may_stop : Bool) (k : ℕ) (lines : List Bytes) → ¬ (FollowingLines may_stop s g k stage (line ∷ lines))
IsNextStage s g stage line (Some next) =
    (may_stop : Bool) (k : ℕ) (lines : List Bytes) → FollowingLines may_stop s g k stage (line ∷ lines) ↔ FollowingLines may_stop s g k next lines

-- Holds if the line is that of step `t`, and of no other step whose numbers may be in a line.
pub record IsOnlyStepOfLine (line : Bytes) (t : LogStep) : Type 0 where
  pub own : line ≡ step_text t
  pub only : (u : LogStep) → line ≡ step_text u → IsTrue (has_writable_numbers u) → t ≡ u

-- Holds if the line is that of a step derivable from the checker's state `old`, and `new` is the
-- state after it.
pub record IsDerivedStepLine (line : Bytes) (old new : AuditState) : Type 0 where
  pub step : LogStep
  pub own : line ≡ step_text step
  pub only : (u : LogStep) → line ≡ step_text u → IsTrue (is_derived old.vars old.clauses u) → step ≡ u
  pub derived : IsTrue (is_derived old.vars old.clauses step)
  pub after : new ≡ with_step old step

-- Holds if a line among a query's steps is of this kind: a derivable step with a literal, a
-- derivable empty step, or a bad line.
abbrev pub IsOutcomeOfStepLine : Bytes → AuditState → AuditState → Line → Type 0
IsOutcomeOfStepLine line old new Follows = (f : IsDerivedStepLine line old new) × (is_empty_clause f.step.clause ≡ false)
IsOutcomeOfStepLine line old new Closes = (f : IsDerivedStepLine line old new) × (is_empty_clause f.step.clause ≡ true)
IsOutcomeOfStepLine line old new Bad = (u : LogStep) → line ≡ step_text u → ¬ (IsTrue (is_derived old.vars old.clauses u))
