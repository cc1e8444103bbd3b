use Rattle.ilk_cert_audit.proofs.Taking.{bad-next, reached-at, staged}
use Rattle.ilk_cert_audit.proofs.lines.LineAudit.refuse.Goals as goal

pub returns-clause-bad : goal.returns-clause-bad
returns-clause-bad c = λ s g lines line h open_ bad.
    (let old = c.args.self.now in
    record {
      system = h.system;
      goal = h.goal;
      reached = bad-next s g old.stage lines old.line line (reached-at s g old.stage lines old.line (staged old.stage open_ old.staged) h.reached) bad;
    })
