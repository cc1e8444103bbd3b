use Rattle.ilk_forever.proofs.OnPlant.{lifts}
use Rattle.ilk_forever.proofs.laws.query_runs_correspond.Goals as goal

pub returns : goal.returns
returns c = λ q valid. lifts c.args.plant.now c.prove_is_plant.ensures c.system_matches_events.ensures c.goal_forms_valid_and_correct.ensures.means q valid
