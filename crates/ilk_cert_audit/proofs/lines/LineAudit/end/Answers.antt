use Rattle.std.proofs.Common.{sym, ap, ◌∙◌, subst}
use Rattle.std.proofs.lemmas.Bool.{true≢false}
use Rattle.ilk_lines.specs.Lines.{lines_of}
use Rattle.ilk_cert_audit.specs.Fed.{IsStageAfterLines}
use Rattle.ilk_cert_audit.specs.Stages.{is_refused}
use Rattle.ilk_cert_audit.specs.declared.stage.Stage.{Stage}
use Rattle.ilk_cert_audit.specs.declared.stage.Stage.TheVariants.{Ended}
use Rattle.ilk_cert_audit.proofs.Ends.{accepted-at, bad-first, missing-at}
use Rattle.ilk_cert_audit.proofs.Taking.{reached-at, unrefused}
use Rattle.ilk_cert_audit.proofs.lines.LineAudit.end.Goals as goal
use Rattle.ilk_cert_audit.proofs.lines.LineAudit.end.Goals.{in_default-via-in-Ended+else-is_whole, in_default-via-in_default}

pub returns-in-Refused : goal.returns-in-Refused
returns-in-Refused c = λ s g bytes h whole.
    (let P : Stage → Type 0 = λ stage. IsStageAfterLines s g stage (lines_of bytes) c.args.self.now.line in
    let r = subst P c.in-Refused.is h.reached in
    (r.0, bad-first s g bytes r.0 r.1, r.2))

pub returns-in-Ended : goal.returns-in-Ended
returns-in-Ended c = λ s g bytes h whole.
    (let P : Stage → Type 0 = λ stage. IsStageAfterLines s g stage (lines_of bytes) c.args.self.now.line in
    accepted-at s g bytes c.args.self.now.line c.in-Ended.k (subst P c.in-Ended.is h.reached) ((whole (ap is_refused c.in-Ended.is)).0 c.if-is_whole.true))

pub returns-in_default : goal.returns-in_default
returns-in_default c = λ s g bytes h whole.
    (let old = c.args.self.now in
    elim c.in_default.branch [
      | in_default-via-in-Ended+else-is_whole w ↦ (let P : Stage → Type 0 = λ stage. IsStageAfterLines s g stage (lines_of bytes) old.line in
          missing-at s g (Ended w.in-Ended.k) bytes old.line (subst P w.in-Ended.is h.reached) (λ k e ends. true≢false (sym ((whole (ap is_refused w.in-Ended.is)).1 ends) ∙ w.if-is_whole.false)))
      | in_default-via-in_default w ↦ (let staged = unrefused old.stage old.staged w.in_default.not-Refused in
          missing-at s g old.stage bytes old.line (reached-at s g old.stage (lines_of bytes) old.line staged h.reached) (λ k e ends. w.in_default.not-Ended k e))
    ])
