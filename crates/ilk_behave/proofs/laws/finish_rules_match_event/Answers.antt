use Rattle.ilk_behave.proofs.ReleaseSteps.{finish-steps}
use Rattle.ilk_behave.proofs.laws.finish_rules_match_event.Goals as goal

pub returns : goal.returns
returns c r s shape calm = finish-steps c.args.plant.now c.prove_is_plant.ensures s shape calm r
