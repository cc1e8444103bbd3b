-- The auditor's answer to the step of a line.
use Rattle.std.proofs.Common.{◌≡◌, ◌<◌, ◌≤◌, ◌^◌, inl, inr, true, false, length, refl, sym, ap, ◌∙◌, Option, Some, None}
use Rattle.std.proofs.lemmas.Bool.{cases_Bool, true≢false}
use Rattle.ilk_audit.specs.Audited.{AuditState}
use Rattle.ilk_audit.specs.Taken.{after_step, step_answer_from_fault_if_any, why_step_not_derived, is_taken, step_answer}
use Rattle.ilk_audit.specs.declared.taken.Taken.TheVariants.{Good, Closed, Bad}
use Rattle.ilk_audit.specs.declared.taken.Why.{Why}
use Rattle.ilk_audit.proofs.Derived.{taken_derived}
use Rattle.ilk_lines.specs.Lines.{Bytes}
use Rattle.ilk_log.specs.declared.step.Step.{Step as LogStep}
use Rattle.ilk_log.specs.Derived.{is_derived, is_empty_clause}
use Rattle.ilk_log.specs.StepText.{has_writable_numbers, step_text}
use Rattle.ilk_cert_audit.specs.Stages.{IsDerivedStepLine, IsOutcomeOfStepLine, IsOnlyStepOfLine}
use Rattle.ilk_cert_audit.specs.declared.next.Line.TheVariants as line
use Rattle.ilk_cert_audit.proofs.Numbers.{derived-numbers}

pub record IsFew (a : AuditState) : Type 0 where
  pub vars : a.vars ≤ 2 ^ 62
  pub clauses : length a.clauses < 2 ^ 64

good-open : (s : LogStep) (o : Option Why) → step_answer_from_fault_if_any s o ≡ Good → is_empty_clause s.clause ≡ false
good-open s (Some why) e = absurd (cc)
good-open s None e = elim (cases_Bool (is_empty_clause s.clause)) [
  | inl t ↦ absurd (let z : Closed ≡ Good = rw t at e in cc)
  | inr f ↦ f
]

closed-empty : (s : LogStep) (o : Option Why) → step_answer_from_fault_if_any s o ≡ Closed → is_empty_clause s.clause ≡ true
closed-empty s (Some why) e = absurd (cc)
closed-empty s None e = elim (cases_Bool (is_empty_clause s.clause)) [
  | inl t ↦ t
  | inr f ↦ absurd (let z : Good ≡ Closed = rw f at e in cc)
]

abbrev following : (a new : AuditState) (text : Bytes) (t : LogStep) → IsFew a → IsOnlyStepOfLine text t → is_taken (step_answer a t) ≡ true → new ≡ after_step a t → IsDerivedStepLine text a new
following a new text t few read taken after = record {
  step = t;
  own = read.own;
  only = λ u own d. read.only u own (derived-numbers a.vars a.clauses u few.vars few.clauses d);
  derived = sym (taken_derived a t) ∙ taken;
  after = after ∙ rw taken refl;
}

pub good_follows : (a new : AuditState) (text : Bytes) (t : LogStep) → IsFew a → IsOnlyStepOfLine text t → Good ≡ step_answer a t → new ≡ after_step a t → IsOutcomeOfStepLine text a new line.Follows
good_follows a new text t few read e after = (following a new text t few read (ap is_taken (sym e)) after, good-open t (why_step_not_derived a.vars a.clauses t) (sym e))

pub closed_closes : (a new : AuditState) (text : Bytes) (t : LogStep) → IsFew a → IsOnlyStepOfLine text t → Closed ≡ step_answer a t → new ≡ after_step a t → IsOutcomeOfStepLine text a new line.Closes
closed_closes a new text t few read e after = (following a new text t few read (ap is_taken (sym e)) after, closed-empty t (why_step_not_derived a.vars a.clauses t) (sym e))

pub bad_is : (a new : AuditState) (text : Bytes) (t : LogStep) (why : Why) → IsFew a → IsOnlyStepOfLine text t → Bad why ≡ step_answer a t → IsOutcomeOfStepLine text a new line.Bad
bad_is a new text t why few read e u own d =
    let same = read.only u own (derived-numbers a.vars a.clauses u few.vars few.clauses d) in
    true≢false (sym d ∙ ap (is_derived a.vars a.clauses) (sym same) ∙ sym (taken_derived a t) ∙ ap is_taken (sym e))

pub unread_is : (a new : AuditState) (text : Bytes) → IsFew a → ((u : LogStep) → text ≡ step_text u → has_writable_numbers u ≡ true → ⊥) → IsOutcomeOfStepLine text a new line.Bad
unread_is a new text few none u own d = none u own (derived-numbers a.vars a.clauses u few.vars few.clauses d)
