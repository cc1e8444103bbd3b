use Rattle.ilk_behave.proofs.AllocateSteps.{lock-steps}
use Rattle.ilk_behave.proofs.laws.lock_rules_match_event.Goals as goal

pub returns : goal.returns
returns c r s shape calm = lock-steps c.args.plant.now c.prove_is_plant.ensures s shape calm r
