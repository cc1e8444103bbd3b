use Rattle.ilk_behave.proofs.AllocateSteps.{allocate-steps}
use Rattle.ilk_behave.proofs.laws.allocate_rules_match_event.Goals as goal

pub returns : goal.returns
returns c r s shape calm = allocate-steps c.args.plant.now c.prove_is_plant.ensures s shape calm r
