use Rattle.ilk_props.proofs.FormsValid.{wellformed-valid}
use Rattle.ilk_props.proofs.WellformedHolds.{holds-at_images, wellformed-holds}
use Rattle.ilk_props.proofs.wellformed.wellformed_form.Goals as goal

pub returns-clause-valid : goal.returns-clause-valid
returns-clause-valid c = wellformed-valid c.args.plant.now c.prove_is_plant.ensures

pub returns-clause-wellformed : goal.returns-clause-wellformed
returns-clause-wellformed c = wellformed-holds c.args.plant.now c.prove_is_plant.ensures

pub returns-clause-images : goal.returns-clause-images
returns-clause-images c = holds-at_images c.args.plant.now c.prove_is_plant.ensures c.prove_sound_acyclic_drafts.ensures.walks
