use Rattle.ilk_plant.proofs.plant.Plant.make.Goals as goal

pub from_numbered-requires : goal.from_numbered-requires
from_numbered-requires c = record {
  net = c.args.net.now;
  table = c.args.table.now;
  sound = record { limits = c.requires.limits; network = c.requires.network; routes = c.requires.routes };
  same = c.in_ok-made.ensures;
}
