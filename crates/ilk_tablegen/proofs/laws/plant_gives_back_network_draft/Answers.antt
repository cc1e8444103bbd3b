use Rattle.ilk_tablegen.proofs.FoundSound.{drafted-back}
use Rattle.ilk_tablegen.proofs.laws.plant_gives_back_network_draft.Goals as goal

pub returns : goal.returns
returns c = drafted-back
