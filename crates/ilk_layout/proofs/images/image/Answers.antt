use Rattle.ilk_layout.proofs.Pushes.{counts-small}
use Rattle.ilk_layout.proofs.images.image.Goals as goal

pub push_routes-requires : goal.push_routes-requires
push_routes-requires c = counts-small c.args.plant.now c.args.s.now c.prove_is_plant.ensures c.requires
