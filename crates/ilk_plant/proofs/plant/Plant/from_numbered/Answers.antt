use Rattle.std.proofs.Common.{rules}
use Rattle.ilk_plant.proofs.Sound.{sound-of_drafts}
use Rattle.ilk_plant.specs.Kept.{IsAcyclicFromSoundDrafts}
use Rattle.ilk_plant.proofs.plant.Plant.from_numbered.Goals as goal

pub invariant_of-result : goal.invariant_of-result
invariant_of-result c =
    let sound : IsAcyclicFromSoundDrafts c.args.numbered = sound-of_drafts c.args.numbered c.requires in search rules
