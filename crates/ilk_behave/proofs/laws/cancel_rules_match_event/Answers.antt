use Rattle.ilk_behave.proofs.RouteSteps.{cancel-steps}
use Rattle.ilk_behave.proofs.laws.cancel_rules_match_event.Goals as goal

pub returns : goal.returns
returns c r s shape calm = cancel-steps c.args.plant.now c.prove_is_plant.ensures s shape calm r
