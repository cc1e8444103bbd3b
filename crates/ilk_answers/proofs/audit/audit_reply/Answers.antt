use Rattle.std.proofs.Common.{◌<◌, ◌^◌, inl, inr, length, ap, ◌∙◌, ◌≡◌, List, ℕ, subst, arith}
use Rattle.ilk_behave.specs.Behaviour.{system_of_plant}
use Rattle.ilk_queries.specs.Goal.{goal_forms_of_plant}
use Rattle.ilk_plant.specs.Plant.{PlantLists}
use Rattle.ilk_plant_audit.specs.Audited.{AnswersEnd}
use Rattle.ilk_plant_audit.specs.PlantAudit.{PlantAudit}
use Rattle.ilk_cert_audit.specs.declared.answers.Ended.{Ended}
use Rattle.ilk_cert_audit.specs.declared.answers.Ended.TheVariants.{Accepted, Rejected}
use Rattle.ilk_answers.specs.Report.{reply}
use Rattle.ilk_answers.specs.declared.status.Status.TheVariants.{Good, Rejected as IsRejected}
use Rattle.ilk_answers.proofs.audit.audit_reply.Goals as goal

over-plant : (audit : PlantAudit) (p : PlantLists) (bytes : List ℕ) (ended told : Ended) → audit.plant ≡ p → ended ≡ told → AnswersEnd audit.plant bytes ended → AnswersEnd p bytes told
over-plant audit p bytes ended told same is ends =
    subst (λ q. AnswersEnd q bytes told) same (subst (λ e. AnswersEnd audit.plant bytes e) is ends)

pub returns-in_ok-text-in-Accepted-clause-reply : goal.returns-in_ok-text-in-Accepted-clause-reply
returns-in_ok-text-in-Accepted-clause-reply c same bytes fed short =
    let p = c.args.plant.now in
    let told : Ended = Accepted c.in-Accepted.k in
    let ends : AnswersEnd p bytes told = over-plant c.args.audit p bytes c.end.result told same c.in-Accepted.is (c.end.ensures bytes fed) in
    inl (record {
      k = c.in-Accepted.k;
      certificate = ends;
      safe = c.certificates_imply_safety.ensures c.in-Accepted.k bytes ends;
      reply = c.with_report.ensures ∙ ap (reply Good) c.in_ok-text-in-Accepted.ensures;
    })

pub returns-in_ok-text-in-Rejected-clause-reply : goal.returns-in_ok-text-in-Rejected-clause-reply
returns-in_ok-text-in-Rejected-clause-reply c same bytes fed short =
    let p = c.args.plant.now in
    let told : Ended = Rejected c.in-Rejected.line in
    let ends : AnswersEnd p bytes told = over-plant c.args.audit p bytes c.end.result told same c.in-Rejected.is (c.end.ensures bytes fed) in
    let fits : length bytes < 2 ^ 63 = grind (arith, short) in
    inr (record {
      line = c.in-Rejected.line;
      first = c.rejected_line_is_first_bad.ensures (system_of_plant p) (goal_forms_of_plant p) bytes c.in-Rejected.line fits ends;
      reply = c.with_report-in-Rejected.ensures ∙ ap (reply IsRejected) c.in_ok-text-in-Rejected.ensures;
    })
