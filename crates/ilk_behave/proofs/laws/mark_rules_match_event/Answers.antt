use Rattle.ilk_behave.proofs.RouteSteps.{mark-steps}
use Rattle.ilk_behave.proofs.laws.mark_rules_match_event.Goals as goal

pub returns : goal.returns
returns c r s shape calm = mark-steps c.args.plant.now c.prove_is_plant.ensures s shape calm r
