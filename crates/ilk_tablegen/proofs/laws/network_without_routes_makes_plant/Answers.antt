use Rattle.ilk_tablegen.proofs.FoundSound.{bare-sound}
use Rattle.ilk_tablegen.proofs.laws.network_without_routes_makes_plant.Goals as goal

pub returns : goal.returns
returns c = bare-sound
