use Rattle.ilk_layout.proofs.Ranged.{wellformed-images}
use Rattle.ilk_layout.proofs.laws.wellformed_iff_safe_state_image.Goals as goal

pub returns : goal.returns
returns c = wellformed-images c.args.plant.now c.prove_is_plant.ensures c.prove_sound_acyclic_drafts.ensures.walks
