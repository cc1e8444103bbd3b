use Rattle.ilk_behave.proofs.PointSteps.{throw-steps}
use Rattle.ilk_behave.proofs.laws.throw_rules_match_event.Goals as goal

pub returns : goal.returns
returns c r s shape calm = throw-steps c.args.plant.now c.prove_is_plant.ensures s shape calm r
