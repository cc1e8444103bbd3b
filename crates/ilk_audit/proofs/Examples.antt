-- Steps over the clauses (1 2), (1 -2), (-1 2), (-1 -2), of two variables.
use Rattle.std.proofs.Common.{◌≡◌, List, [], ◌∷◌, false, ℕ, refl}
use Rattle.ilk_cnf.specs.Literal.{Literal, negative_lit, positive_lit}
use Rattle.ilk_log.specs.declared.step.Step.{Step}
use Rattle.ilk_audit.specs.Audited.{AuditState}
use Rattle.ilk_audit.specs.Taken.{after_step, step_answer}
use Rattle.ilk_audit.specs.declared.taken.Taken.TheVariants.{Bad, Closed, Good}
use Rattle.ilk_audit.specs.declared.taken.Why.TheVariants.{BadHint, BadLiteral, NotFalse, NotUnit}

abbrev four : AuditState
four = record {
  vars = 2;
  clauses = (positive_lit 1 ∷ positive_lit 2 ∷ []) ∷ (positive_lit 1 ∷ negative_lit 2 ∷ []) ∷ (negative_lit 1 ∷ positive_lit 2 ∷ []) ∷ (negative_lit 1 ∷ negative_lit 2 ∷ []) ∷ [];
  closed = false;
}

abbrev step : List Literal → List ℕ → Step
step clause hints = record { clause = clause; hints = hints }

unit-follows : step_answer four (step (positive_lit 1 ∷ []) (1 ∷ 2 ∷ [])) ≡ Good
unit-follows = refl

empty-follows : step_answer (after_step four (step (positive_lit 1 ∷ []) (1 ∷ 2 ∷ []))) (step [] (5 ∷ 3 ∷ 4 ∷ [])) ≡ Closed
empty-follows = refl

true-literal : step_answer four (step (positive_lit 1 ∷ []) (3 ∷ [])) ≡ Bad NotUnit
true-literal = refl

two-unset : step_answer four (step [] (1 ∷ [])) ≡ Bad NotUnit
two-unset = refl

no-clause : step_answer four (step (positive_lit 1 ∷ []) (9 ∷ [])) ≡ Bad BadHint
no-clause = refl

no-zero : step_answer four (step (positive_lit 1 ∷ []) (0 ∷ [])) ≡ Bad BadHint
no-zero = refl

no-end : step_answer four (step (positive_lit 1 ∷ []) (1 ∷ [])) ≡ Bad NotFalse
no-end = refl

no-hints : step_answer four (step (positive_lit 1 ∷ []) []) ≡ Bad NotFalse
no-hints = refl

after-end : step_answer four (step (positive_lit 1 ∷ []) (1 ∷ 2 ∷ 1 ∷ [])) ≡ Bad NotFalse
after-end = refl

no-variable : step_answer four (step (positive_lit 7 ∷ []) (1 ∷ [])) ≡ Bad BadLiteral
no-variable = refl

twice : step_answer four (step (positive_lit 1 ∷ negative_lit 1 ∷ []) (9 ∷ [])) ≡ Bad BadLiteral
twice = refl
