use Rattle.ilk_behave.proofs.EnterSteps.{enter-steps}
use Rattle.ilk_behave.proofs.laws.enter_rules_match_event.Goals as goal

pub returns : goal.returns
returns c x s shape calm = enter-steps c.args.plant.now c.prove_is_plant.ensures c.prove_sound_acyclic_drafts.ensures.walks s shape calm x
