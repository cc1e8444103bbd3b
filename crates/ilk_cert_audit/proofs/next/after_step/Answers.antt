use Rattle.std.proofs.Common.{subst}
use Rattle.ilk_cert_audit.specs.Stages.{IsOutcomeOfStepLine}
use Rattle.ilk_cert_audit.specs.declared.next.Line.{Line}
use Rattle.ilk_cert_audit.proofs.Stages.{bad-step, next-closed, next-good}
use Rattle.ilk_cert_audit.proofs.next.after_step.Goals as goal

pub returns-in-Follows-clause-next : goal.returns-in-Follows-clause-next
returns-in-Follows-clause-next c =
    let P : Line → Type 0 = λ l. IsOutcomeOfStepLine c.args.line.now c.args.auditor c.take_step.new.auditor l in
    λ s g. next-good s g c.args.k c.args.query c.args.auditor c.take_step.new.auditor c.args.line.now (subst P c.in-Follows.is (c.in_ok-take_step.ensures {u = tt}))

pub returns-in-Closes-clause-next : goal.returns-in-Closes-clause-next
returns-in-Closes-clause-next c =
    let P : Line → Type 0 = λ l. IsOutcomeOfStepLine c.args.line.now c.args.auditor c.take_step.new.auditor l in
    λ s g. next-closed s g c.args.k c.args.query c.query_after.result c.args.auditor c.take_step.new.auditor c.args.line.now (subst P c.in-Closes.is (c.in_ok-take_step.ensures {u = tt})) c.query_after.ensures.next

pub returns-in-Bad-clause-next : goal.returns-in-Bad-clause-next
returns-in-Bad-clause-next c =
    let P : Line → Type 0 = λ l. IsOutcomeOfStepLine c.args.line.now c.args.auditor c.take_step.new.auditor l in
    λ s g. bad-step s g c.args.k c.args.query c.args.auditor c.take_step.new.auditor c.args.line.now (subst P c.in-Bad.is (c.in_ok-take_step.ensures {u = tt}))
