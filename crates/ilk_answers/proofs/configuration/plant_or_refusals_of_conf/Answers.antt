use Rattle.std.proofs.Common.{Ok}
use Rattle.ilk_answers.proofs.Deviations.{free-plant, holds-if_ok}
use Rattle.ilk_answers.proofs.configuration.plant_or_refusals_of_conf.Goals as goal

pub returns-in-Ok-clause-plant : goal.returns-in-Ok-clause-plant
returns-in-Ok-clause-plant c =
    holds-if_ok c.check_drafts.result _ (free-plant c.args.conf.now (Ok (c.in-Ok.net, c.in-Ok.table)) c.in-Ok.ensures.exact c.in-Ok.ensures.limits)
