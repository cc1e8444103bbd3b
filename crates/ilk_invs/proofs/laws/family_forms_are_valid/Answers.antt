use Rattle.ilk_invs.proofs.ValidTrees.{family-valid}
use Rattle.ilk_invs.proofs.laws.family_forms_are_valid.Goals as goal

pub returns : goal.returns
returns c j = family-valid c.args.plant.now c.prove_is_plant.ensures j
