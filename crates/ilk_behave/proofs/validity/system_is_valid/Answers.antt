use Rattle.ilk_behave.proofs.SystemValid.{system-valid}
use Rattle.ilk_behave.proofs.validity.system_is_valid.Goals as goal

pub returns : goal.returns
returns c = system-valid c.args.plant.now c.prove_is_plant.ensures
