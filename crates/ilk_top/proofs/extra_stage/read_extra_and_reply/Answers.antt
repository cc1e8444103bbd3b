use Rattle.std.proofs.Common.{Ok, subst, sym}
use Rattle.ilk_answers.specs.Besides.{AnswersForSomeExtraInput}
use Rattle.ilk_answers.proofs.Besides.{some-unread}
use Rattle.ilk_top.proofs.extra_stage.read_extra_and_reply.Goals as goal

-- A command without extra input ignores the second source.
pub returns-in_ok-answer_on_plant_without_extra-in-Plain-clause-reply : goal.returns-in_ok-answer_on_plant_without_extra-in-Plain-clause-reply
returns-in_ok-answer_on_plant_without_extra-in-Plain-clause-reply g c =
    let left = g.D.Source.left c.args.extra.now in
    subst (λ command. AnswersForSomeExtraInput command (Ok c.args.plant.now) left c.in_ok-answer_on_plant_without_extra-in-Plain.field-0) (sym c.in-Plain.is)
    (some-unread c.in-Plain.command c.args.plant.now left c.in_ok-answer_on_plant_without_extra-in-Plain.field-0 c.in_ok-answer_on_plant_without_extra-in-Plain.ensures.reply)
