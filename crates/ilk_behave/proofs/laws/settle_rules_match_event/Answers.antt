use Rattle.ilk_behave.proofs.PointSteps.{settle-steps}
use Rattle.ilk_behave.proofs.laws.settle_rules_match_event.Goals as goal

pub returns : goal.returns
returns c r s shape calm = settle-steps c.args.plant.now c.prove_is_plant.ensures s shape calm r
