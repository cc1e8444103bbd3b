use Rattle.ilk_behave.proofs.RuleBounds.{few-rules}
use Rattle.ilk_behave.proofs.validity.each_event_has_few_rules.Goals as goal

pub returns : goal.returns
returns c event = few-rules c.args.plant.now c.prove_is_plant.ensures event
