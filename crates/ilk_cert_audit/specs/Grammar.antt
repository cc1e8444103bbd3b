-- The lines of a certificate, from the header to the line `end`. If `may_stop` is true, they may
-- stop after any line.
use Rattle.std.specs.Prelude.{ℕ, Bool, true, false, ◌≡◌, ◌<◌, ◌≤◌, List, [], ◌∷◌, ◌++◌, codes, IsTrue}
use Rattle.std.specs.Fmt.{decimal}
use Rattle.ilk_cnf.specs.Literal.{Literal}
use Rattle.ilk_ir.specs.System.{PlainSystem}
use Rattle.ilk_lines.specs.Lines.{Bytes}
use Rattle.ilk_lines.specs.Written.{join_words_with_spaces}
use Rattle.ilk_log.specs.declared.step.Step.{Step as LogStep}
use Rattle.ilk_log.specs.Derived.{is_derived, is_empty_clause}
use Rattle.ilk_log.specs.StepText.{step_text}
use Rattle.ilk_unroll.specs.declared.queries.Wanted.{Wanted}
use Rattle.ilk_unroll.specs.Goal.{PlainGoalForms}
use Rattle.ilk_unroll.specs.Query.{query_formula}
use Rattle.ilk_certificate.specs.Certificate.{certified_queries}
use Rattle.ilk_certificate.specs.CertificateText.{query_header_line}

-- The first proposition if the test passes, otherwise the second.
abbrev pub IfElse : Bool → Type 0 → Type 0 → Type 0
IfElse true A B = A
IfElse false A B = B

-- Holds if the lines are those of derivable steps over the clauses, up to the first step with the
-- empty clause, and `After` holds for the rest. A step may use the clauses, over the variables 1 to
-- `n`, and the steps before it.
abbrev pub RefutationLinesAndRest : Bool → ℕ → List (List Literal) → (List Bytes → Type 0) → List Bytes → Type 0
RefutationLinesAndRest may_stop n clauses After [] = IsTrue may_stop
RefutationLinesAndRest may_stop n clauses After (line ∷ lines) =
    (s : LogStep) × (line ≡ step_text s) × IsTrue (is_derived n clauses s) × IfElse (is_empty_clause s.clause) (After lines) (RefutationLinesAndRest may_stop n (clauses ++ s.clause ∷ []) After lines)

-- Holds if the lines are those of these queries, each with the steps that refute its formula, and
-- then the line `end`.
abbrev pub QueriesLinesAndEnd : Bool → PlainSystem → PlainGoalForms → List Wanted → List Bytes → Type 0
QueriesLinesAndEnd may_stop s g [] [] = IsTrue may_stop
QueriesLinesAndEnd may_stop s g [] (line ∷ lines) = (line ≡ codes "end") × (lines ≡ [])
QueriesLinesAndEnd may_stop s g (q ∷ qs) [] = IsTrue may_stop
QueriesLinesAndEnd may_stop s g (q ∷ qs) (line ∷ lines) =
    (line ≡ query_header_line q) × RefutationLinesAndRest may_stop (query_formula s g q).vars (query_formula s g q).clauses (QueriesLinesAndEnd may_stop s g qs) lines

-- The line that states that a system is safe at `k`.
abbrev pub safe_line : ℕ → Bytes
safe_line k = join_words_with_spaces (codes "safe" ∷ decimal k ∷ [])

-- Holds if the lines are those of a certificate for `k` after its header: `safe k`, `k` from 1 to
-- 16, and its queries.
abbrev pub LinesAfterHeader : Bool → PlainSystem → PlainGoalForms → ℕ → List Bytes → Type 0
LinesAfterHeader may_stop s g k [] = IsTrue may_stop
LinesAfterHeader may_stop s g k (line ∷ lines) = (line ≡ safe_line k) × (0 < k) × (k ≤ 16) × QueriesLinesAndEnd may_stop s g (certified_queries k) lines

-- Holds if the lines are those of a certificate for `k`.
abbrev pub CertificateLines : Bool → PlainSystem → PlainGoalForms → ℕ → List Bytes → Type 0
CertificateLines may_stop s g k [] = IsTrue may_stop
CertificateLines may_stop s g k (line ∷ lines) = (line ≡ codes "irv certificate 3") × LinesAfterHeader may_stop s g k lines
