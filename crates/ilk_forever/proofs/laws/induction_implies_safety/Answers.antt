use Rattle.ilk_behave.specs.Behaviour.{system_of_plant}
use Rattle.ilk_queries.specs.Goal.{goal_forms_of_plant}
use Rattle.ilk_forever.proofs.OnPlant.{lasting}
use Rattle.ilk_forever.proofs.laws.induction_implies_safety.Goals as goal

pub returns : goal.returns
returns c = λ k some few hazards breaches step.
    lasting c.args.plant.now c.prove_is_plant.ensures c.system_matches_events.ensures c.goal_forms_valid_and_correct.ensures.means k some few
    (c.k_induction_is_sound.ensures (system_of_plant c.args.plant.now) (goal_forms_of_plant c.args.plant.now) k c.system_is_valid.ensures) hazards breaches step
