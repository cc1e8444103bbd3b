use Rattle.ilk_cert_audit.proofs.Stages.{next-told}
use Rattle.ilk_cert_audit.proofs.next.after_told.Goals as goal

pub returns-clause-next : goal.returns-clause-next
returns-clause-next c = (let told = (c.in_ok-k.ensures {u = tt}).told in λ s g. next-told s g c.args.line.now c.in_ok-k.k told.0 told.1)
