use Rattle.std.proofs.Common.{sym, subst}
use Rattle.ilk_cert_audit.specs.Stages.{IsNextStage}
use Rattle.ilk_cert_audit.specs.declared.stage.Stage.{Stage}
use Rattle.ilk_ir.specs.System.{plain_system}
use Rattle.ilk_unroll.specs.Goal.{plain_goal}
use Rattle.ilk_cert_audit.proofs.next.next_stage.Goals as goal

pub returns-in-Told-clause-next : goal.returns-in-Told-clause-next
returns-in-Told-clause-next c =
    let P : Stage → Type 0 = λ stage. IsNextStage (plain_system c.args.system.now) (plain_goal c.args.goal.now) stage c.args.line.now c.after_told.result in
    subst P (sym c.in-Told.is) (c.after_told.ensures.next (plain_system c.args.system.now) (plain_goal c.args.goal.now))
