use Rattle.ilk_behave.proofs.HeadSteps.{head-steps}
use Rattle.ilk_behave.proofs.laws.head_rules_match_event.Goals as goal

pub returns : goal.returns
returns c x s shape calm = head-steps c.args.plant.now c.prove_is_plant.ensures c.prove_sound_acyclic_drafts.ensures.walks s shape calm x
