use Rattle.ilk_behave.proofs.AllSteps.{steps-as}
use Rattle.ilk_behave.proofs.laws.system_matches_events.Goals as goal

pub returns : goal.returns
returns c = steps-as c.args.plant.now c.prove_is_plant.ensures c.prove_sound_acyclic_drafts.ensures.walks
