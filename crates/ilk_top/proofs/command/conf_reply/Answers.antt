use Rattle.std.proofs.Common.{◌≡◌, true, Ok, Err, IfSome, Result, subst, is_ok}
use Rattle.ilk_answers.specs.Answer.{plant_or_refusals_of_conf}
use Rattle.ilk_answers.specs.declared.refusals.Refusals.{Refusals}
use Rattle.ilk_answers.proofs.Besides.{some-refused}
use Rattle.ilk_answers.proofs.Strict.{strictly-right}
use Rattle.ilk_plant.specs.Plant.{PlantLists}
use Rattle.ilk_words.specs.Plan.{stages_of}
use Rattle.ilk_words.specs.declared.plan.CheckedRuleStages.{CheckedRuleStages}
use Rattle.ilk_top.proofs.Joined.{answer-told, comes-maybe, comes-not, conf-first, read-needed, rises-not, untouched}
use Rattle.ilk_top.specs.declared.no_reply.NoReply.{NoReply}
use Rattle.ilk_top.proofs.command.conf_reply.Goals as goal

pub returns-in-Ok-clause-reply : goal.returns-in-Ok-clause-reply
returns-in-Ok-clause-reply g c =
    let Found : CheckedRuleStages → Result PlantLists Refusals → Type 0 = λ stages found. IfSome (g.C.Source.left c.args.conf.now) (λ x. found ≡ plant_or_refusals_of_conf stages x) in
    let known : Found (stages_of c.args.columns c.args.command.now) (Ok c.in-Ok.plant) = subst (λ s. Found s (Ok c.in-Ok.plant)) c.stages-stages.ensures (subst (Found c.stages-stages.result) c.in-Ok.is c.in_ok-plant.ensures.found) in
    answer-told c.args.columns c.args.command.now (g.C.Source.left c.args.conf.now)
    (g.D.Source.left c.args.extra.now) (Ok c.in-Ok.plant) c.read_extra_and_reply-reply.result known
    c.read_extra_and_reply-reply.ensures.reply

pub returns-in-Ok-clause-strict : goal.returns-in-Ok-clause-strict
returns-in-Ok-clause-strict g c =
    let Found : CheckedRuleStages → Result PlantLists Refusals → Type 0 = λ stages found. IfSome (g.C.Source.left c.args.conf.now) (λ x. found ≡ plant_or_refusals_of_conf stages x) in
    let known : Found (stages_of c.args.columns c.args.command.now) (Ok c.in-Ok.plant) = subst (λ s. Found s (Ok c.in-Ok.plant)) c.stages-stages.ensures (subst (Found c.stages-stages.result) c.in-Ok.is c.in_ok-plant.ensures.found) in
    strictly-right c.args.columns c.args.command.now (g.C.Source.left c.args.conf.now)
    (g.D.Source.left c.args.extra.now) (Ok c.in-Ok.plant) c.read_extra_and_reply-reply.result c.requires known
    c.in_ok-plant.ensures.plant
    (record {
      plant = c.prove_is_plant.ensures;
      walks = c.prove_sound_acyclic_drafts.ensures.walks;
      drafts = c.prove_sound_acyclic_drafts.ensures.drafts;
    })
    c.read_extra_and_reply-reply.ensures.reply

pub returns-in-Ok-clause-handled : goal.returns-in-Ok-clause-handled
returns-in-Ok-clause-handled g c =
    let Found : CheckedRuleStages → Result PlantLists Refusals → Type 0 = λ stages found. IfSome (g.C.Source.left c.args.conf.now) (λ x. found ≡ plant_or_refusals_of_conf stages x) in
    let known : Found (stages_of c.args.columns c.args.command.now) (Ok c.in-Ok.plant) = subst (λ s. Found s (Ok c.in-Ok.plant)) c.stages-stages.ensures (subst (Found c.stages-stages.result) c.in-Ok.is c.in_ok-plant.ensures.found) in
    conf-first c.args.columns c.args.command.now _ _ g.D.Source.left g.D.Source.faults _ _ _ _
    (is_ok c.read_extra_and_reply-reply.result) _ _ (λ e. cc) c.in_ok-plant.ensures.handled
    (read-needed g.D.Source.left _ _ _ _ _
    (comes-maybe c.args.columns c.args.command.now (g.C.Source.left c.args.conf.now) c.in-Ok.plant known)
    c.read_extra_and_reply-reply.ensures.handled.read)
    c.read_extra_and_reply-reply.ensures.handled.failed c.read_extra_and_reply-reply.ensures.handled.rises

-- A refusal keeps the second source from being read.
pub returns-in_ok-reply-in-Err-clause-handled : goal.returns-in_ok-reply-in-Err-clause-handled
returns-in_ok-reply-in-Err-clause-handled g c =
    let Found : CheckedRuleStages → Result PlantLists Refusals → Type 0 = λ stages found. IfSome (g.C.Source.left c.args.conf.now) (λ x. found ≡ plant_or_refusals_of_conf stages x) in
    let known : Found (stages_of c.args.columns c.args.command.now) (Err c.in-Err.refusals) = subst (λ s. Found s (Err c.in-Err.refusals)) c.stages-stages.ensures (subst (Found c.stages-stages.result) c.in-Err.is c.in_ok-plant.ensures.found) in
    conf-first c.args.columns c.args.command.now _ _ g.D.Source.left g.D.Source.faults _ _ _ _ true _ _ (λ e. cc)
    c.in_ok-plant.ensures.handled
    (untouched g.D.Source.left _ _ true c.args.extra.now
    (λ e. comes-not c.args.columns c.args.command.now (g.C.Source.left c.args.conf.now) c.in-Err.refusals known))
    (λ f. cc) (rises-not _ _)

pub returns-in_ok-reply-in-Err-clause-strict : goal.returns-in_ok-reply-in-Err-clause-strict
returns-in_ok-reply-in-Err-clause-strict g c =
    let Found : CheckedRuleStages → Result PlantLists Refusals → Type 0 = λ stages found. IfSome (g.C.Source.left c.args.conf.now) (λ x. found ≡ plant_or_refusals_of_conf stages x) in
    let known : Found (stages_of c.args.columns c.args.command.now) (Err c.in-Err.refusals) = subst (λ s. Found s (Err c.in-Err.refusals)) c.stages-stages.ensures (subst (Found c.stages-stages.result) c.in-Err.is c.in_ok-plant.ensures.found) in
    strictly-right {E = NoReply} c.args.columns c.args.command.now (g.C.Source.left c.args.conf.now)
    (g.D.Source.left c.args.extra.now) (Err c.in-Err.refusals) (Ok c.in_ok-reply-in-Err.field-0)
    c.requires known c.in_ok-plant.ensures.plant tt
    (some-refused c.args.command.now c.in-Err.refusals (g.D.Source.left c.args.extra.now)
    c.in_ok-reply-in-Err.field-0 c.in_ok-reply-in-Err.ensures.reply)
