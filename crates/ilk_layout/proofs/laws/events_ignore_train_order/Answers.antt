use Rattle.ilk_layout.proofs.Unseen.{order-unseen}
use Rattle.ilk_layout.proofs.laws.events_ignore_train_order.Goals as goal

pub returns : goal.returns
returns c = order-unseen c.args.plant.now c.prove_is_plant.ensures c.prove_sound_acyclic_drafts.ensures.walks
