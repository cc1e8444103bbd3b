use Rattle.std.proofs.Common.{◌≡◌, List, ℕ, ap, sym, ◌∙◌}
use Rattle.ilk_audit.specs.Taken.{after_step, step_answer}
use Rattle.ilk_cnf.specs.Literal.{Literal}
use Rattle.ilk_log.specs.declared.step.Step.{Step as LogStep}
use Rattle.ilk_cert_audit.proofs.Answered.{bad_is, closed_closes, good_follows, IsFew, unread_is}
use Rattle.ilk_cert_audit.proofs.Steps.{read-is, unread-is}
use Rattle.ilk_cert_audit.proofs.next.take_step.Goals as goal

pub returns-then-not-branch : goal.returns-then-not-branch
returns-then-not-branch c =
    let a = c.args.auditor.now in
    let t : LogStep = record { clause = c.read_step_into.new.step.clause.items; hints = c.read_step_into.new.step.hints.items } in
    let few : IsFew a = record { vars = c.closed.ensures.formula.numbered; clauses = c.closed.ensures.few } in
    unread_is a a c.args.line.now few (unread-is c.in_ok-read_step_into.field-0 t c.args.line.now c.if-not-branch.true (c.in_ok-read_step_into.ensures {u = tt}))

pub returns-in-Good : goal.returns-in-Good
returns-in-Good c =
    let a = c.args.auditor.now in
    let line = c.args.line.now in
    let t : LogStep = record { clause = c.read_step_into.new.step.clause.items; hints = c.read_step_into.new.step.hints.items } in
    let few : IsFew a = record { vars = c.closed.ensures.formula.numbered; clauses = c.closed.ensures.few } in
    let read = read-is c.in_ok-read_step_into.field-0 t line c.if-not-branch.false (c.in_ok-read_step_into.ensures {u = tt}) in
    let same :
    (let x : LogStep = record { clause = c.as_slice.result.now; hints = c.as_slice-2.result.now } in x)
    ≡ t =
    ap
    (λ (ls : List Literal).
    let x : LogStep = record { clause = ls; hints = c.as_slice-2.result.now } in x)
    c.as_slice.ensures.value
    ∙ ap
    (λ (hs : List ℕ).
    let x : LogStep = record { clause = c.read_step_into.new.step.clause.items; hints = hs } in x)
    c.as_slice-2.ensures.value in
    let ok = c.in_ok-add_step_if_derived.ensures {u = tt} in
    let answer = sym c.in-Good.is ∙ ok.taken ∙ ap (step_answer a) same in
    let after = ok.after ∙ ap (after_step a) same in
    good_follows a c.add_step_if_derived.new.self line t few read answer after

pub returns-in-Closed : goal.returns-in-Closed
returns-in-Closed c =
    let a = c.args.auditor.now in
    let line = c.args.line.now in
    let t : LogStep = record { clause = c.read_step_into.new.step.clause.items; hints = c.read_step_into.new.step.hints.items } in
    let few : IsFew a = record { vars = c.closed.ensures.formula.numbered; clauses = c.closed.ensures.few } in
    let read = read-is c.in_ok-read_step_into.field-0 t line c.if-not-branch.false (c.in_ok-read_step_into.ensures {u = tt}) in
    let same :
    (let x : LogStep = record { clause = c.as_slice.result.now; hints = c.as_slice-2.result.now } in x)
    ≡ t =
    ap
    (λ (ls : List Literal).
    let x : LogStep = record { clause = ls; hints = c.as_slice-2.result.now } in x)
    c.as_slice.ensures.value
    ∙ ap
    (λ (hs : List ℕ).
    let x : LogStep = record { clause = c.read_step_into.new.step.clause.items; hints = hs } in x)
    c.as_slice-2.ensures.value in
    let ok = c.in_ok-add_step_if_derived.ensures {u = tt} in
    let answer = sym c.in-Closed.is ∙ ok.taken ∙ ap (step_answer a) same in
    let after = ok.after ∙ ap (after_step a) same in
    closed_closes a c.add_step_if_derived.new.self line t few read answer after

pub returns-in-Bad : goal.returns-in-Bad
returns-in-Bad c =
    let a = c.args.auditor.now in
    let line = c.args.line.now in
    let t : LogStep = record { clause = c.read_step_into.new.step.clause.items; hints = c.read_step_into.new.step.hints.items } in
    let few : IsFew a = record { vars = c.closed.ensures.formula.numbered; clauses = c.closed.ensures.few } in
    let read = read-is c.in_ok-read_step_into.field-0 t line c.if-not-branch.false (c.in_ok-read_step_into.ensures {u = tt}) in
    let same :
    (let x : LogStep = record { clause = c.as_slice.result.now; hints = c.as_slice-2.result.now } in x)
    ≡ t =
    ap
    (λ (ls : List Literal).
    let x : LogStep = record { clause = ls; hints = c.as_slice-2.result.now } in x)
    c.as_slice.ensures.value
    ∙ ap
    (λ (hs : List ℕ).
    let x : LogStep = record { clause = c.read_step_into.new.step.clause.items; hints = hs } in x)
    c.as_slice-2.ensures.value in
    let ok = c.in_ok-add_step_if_derived.ensures {u = tt} in
    let answer = sym c.in-Bad.is ∙ ok.taken ∙ ap (step_answer a) same in
    let after = ok.after ∙ ap (after_step a) same in
    bad_is a c.add_step_if_derived.new.self line t c.in-Bad.field-0 few read answer
