use Rattle.ilk_props.proofs.FormsValid.{hazard-valid, start-valid, wellformed-valid}
use Rattle.ilk_props.proofs.HazardHolds.{hazard-holds}
use Rattle.ilk_props.proofs.StartHolds.{start-holds}
use Rattle.ilk_props.proofs.WellformedHolds.{holds-at_images}
use Rattle.ilk_queries.proofs.GoalMeaning.{goal_fits, goal_is}
use Rattle.ilk_forever.proofs.laws.goal_forms_valid_and_correct.Goals as goal

pub returns : goal.returns
returns c =
    let p = c.args.plant.now in
    record {
      means = goal_is p c.images_are_in_range.ensures (start-holds p) (holds-at_images p c.prove_is_plant.ensures c.prove_sound_acyclic_drafts.ensures.walks) (hazard-holds p) c.family_forms_are_correct.ensures;
      valid = goal_fits p (start-valid p) (hazard-valid p) (wellformed-valid p c.prove_is_plant.ensures) c.family_forms_are_valid.ensures;
    }
