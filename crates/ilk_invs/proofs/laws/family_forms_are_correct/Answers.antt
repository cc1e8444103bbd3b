use Rattle.ilk_invs.proofs.FamilyLaws.{family-law}
use Rattle.ilk_invs.proofs.laws.family_forms_are_correct.Goals as goal

pub returns : goal.returns
returns c j = family-law c.args.plant.now c.prove_is_plant.ensures c.prove_sound_acyclic_drafts.ensures.walks j
