use Rattle.std.proofs.Common.{arith}
use Rattle.ilk_replay.proofs.Items.{unnamed}
use Rattle.ilk_replay.proofs.state_line.point_from_line.Goals as goal

pub returns-then-x-sections : goal.returns-then-x-sections
returns-then-x-sections c = unnamed c.args.plant.now.section_names c.args.x _ (omega (arith, c.prove_is_plant.ensures.sections_named))
