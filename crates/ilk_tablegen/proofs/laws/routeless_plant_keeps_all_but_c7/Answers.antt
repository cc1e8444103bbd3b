use Rattle.ilk_tablegen.proofs.BarePlant.{bare-asks_c7}
use Rattle.ilk_tablegen.proofs.laws.routeless_plant_keeps_all_but_c7.Goals as goal

pub returns : goal.returns
returns c = bare-asks_c7 c.args._plant.now c.requires
