use Rattle.std.proofs.Common.{◌++◌, ◌∷◌, [], sym, subst, Option, Some, None, IsTrue}
use Rattle.std.specs.Prelude.{IfSome}
use Rattle.ilk_ir.specs.System.{plain_system, PlainSystem}
use Rattle.ilk_unroll.specs.Goal.{plain_goal, PlainGoalForms}
use Rattle.ilk_cert_audit.specs.Fed.{IsStageAfterLines}
use Rattle.ilk_cert_audit.specs.Stages.{is_valid_stage, IsNextStage}
use Rattle.ilk_cert_audit.specs.declared.stage.Stage.{Stage}
use Rattle.ilk_cert_audit.proofs.Taking.{at-next, at-reached, bad-more, bad-next, reached-at, unrefused}
use Rattle.ilk_cert_audit.proofs.lines.LineAudit.take.Goals as goal

pub returns-in-Refused : goal.returns-in-Refused
returns-in-Refused c = λ s g lines h.
    (let P : Stage → Type 0 = λ stage. IsStageAfterLines s g stage lines c.args.self.now.line in
    let Q : Stage → Type 0 = λ stage. IsStageAfterLines s g stage (lines ++ c.args.line.now ∷ []) c.args.self.now.line in
    let r = subst P c.in-Refused.is h.reached in
    record {
      system = h.system;
      goal = h.goal;
      reached = subst Q (sym c.in-Refused.is) (r.0, bad-more s g lines r.0 c.args.line.now r.1, r.2);
    })

pub returns-in-Some : goal.returns-in-Some
returns-in-Some c = λ s g lines h.
    (let old = c.args.self.now in
    let line = c.args.line.now in
    let ok = c.in_ok-next.ensures {u = tt} in
    let staged = unrefused old.stage old.staged c.in_default.not-Refused in
    let at = reached-at s g old.stage lines old.line staged h.reached in
    let F : Stage → Type 0 = λ stage. IsNextStage (plain_system old.system) (plain_goal old.goal) stage line c.in_ok-next.next in
    let N : Option Stage → Type 0 = λ next. IsNextStage (plain_system old.system) (plain_goal old.goal) old.stage line next in
    let S : PlainSystem → Type 0 = λ x. IsNextStage x (plain_goal old.goal) old.stage line (Some c.in-Some.next) in
    let G : PlainGoalForms → Type 0 = λ x. IsNextStage s x old.stage line (Some c.in-Some.next) in
    let goes = subst G h.goal (subst S h.system (subst N c.in-Some.is (subst F c.replace-stage.ensures.value ok.next))) in
    let I : Option Stage → Type 0 = λ next. IfSome next (λ stage. IsTrue (is_valid_stage stage)) in
    let next_staged = subst I c.in-Some.is ok.stage in
    record {
      system = h.system;
      goal = h.goal;
      reached = at-reached s g c.in-Some.next (lines ++ line ∷ []) c.saturating_add-self.result next_staged (at-next s g old.stage c.in-Some.next lines old.line c.saturating_add-self.result line at goes next_staged c.saturating_add-self.ensures);
    })

pub returns-in_default-next : goal.returns-in_default-next
returns-in_default-next c = λ s g lines h.
    (let old = c.args.self.now in
    let line = c.args.line.now in
    let ok = c.in_ok-next.ensures {u = tt} in
    let staged = unrefused old.stage old.staged c.in_default.not-Refused in
    let at = reached-at s g old.stage lines old.line staged h.reached in
    let F : Stage → Type 0 = λ stage. IsNextStage (plain_system old.system) (plain_goal old.goal) stage line c.in_ok-next.next in
    let N : Option Stage → Type 0 = λ next. IsNextStage (plain_system old.system) (plain_goal old.goal) old.stage line next in
    let S : PlainSystem → Type 0 = λ x. IsNextStage x (plain_goal old.goal) old.stage line None in
    let G : PlainGoalForms → Type 0 = λ x. IsNextStage s x old.stage line None in
    let goes = subst G h.goal (subst S h.system (subst N c.in_default-next.is (subst F c.replace-stage.ensures.value ok.next))) in
    let Q : Stage → Type 0 = λ stage. IsStageAfterLines s g stage (lines ++ line ∷ []) old.line in
    record {
      system = h.system;
      goal = h.goal;
      reached = subst Q (sym c.replace-stage.ensures.after) (bad-next s g old.stage lines old.line line at goes);
    })
