use Rattle.ilk_invs.proofs.FamilyLaws.{family_holds}
use Rattle.ilk_invs.proofs.ValidTrees.{form-valid}
use Rattle.ilk_invs.proofs.families.family_form.Goals as goal

pub returns-clause-kept : goal.returns-clause-kept
returns-clause-kept c =
    family_holds c.args.plant.now c.prove_is_plant.ensures c.prove_sound_acyclic_drafts.ensures.walks c.args.j _ c.in_ok-form.ensures

pub returns-clause-valid : goal.returns-clause-valid
returns-clause-valid c =
    form-valid c.args.plant.now c.prove_is_plant.ensures c.args.j _ c.in_ok-form.ensures
