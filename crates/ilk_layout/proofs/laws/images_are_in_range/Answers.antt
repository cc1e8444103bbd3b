use Rattle.ilk_layout.proofs.Ranged.{image-in_ranges}
use Rattle.ilk_layout.proofs.laws.images_are_in_range.Goals as goal

pub returns : goal.returns
returns c = image-in_ranges c.args.plant.now
