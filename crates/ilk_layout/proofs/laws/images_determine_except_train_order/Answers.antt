use Rattle.ilk_layout.proofs.Read.{images-tell}
use Rattle.ilk_layout.proofs.laws.images_determine_except_train_order.Goals as goal

pub returns : goal.returns
returns c = images-tell c.args.plant.now c.prove_is_plant.ensures c.prove_sound_acyclic_drafts.ensures.walks
