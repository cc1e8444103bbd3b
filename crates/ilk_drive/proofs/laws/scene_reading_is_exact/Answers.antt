use Rattle.ilk_drive.proofs.SceneTexts.{bad_exactly, no_line_bad, told_exactly}
use Rattle.ilk_drive.proofs.laws.scene_reading_is_exact.Goals as goal

pub returns-clause-scene : goal.returns-clause-scene
returns-clause-scene c = told_exactly c.args.plant.now c.prove_is_plant.ensures c.args.text.now

pub returns-clause-lines : goal.returns-clause-lines
returns-clause-lines c = no_line_bad c.args.plant.now c.prove_is_plant.ensures c.args.text.now

pub returns-clause-first : goal.returns-clause-first
returns-clause-first c = bad_exactly c.args.plant.now c.prove_is_plant.ensures c.args.text.now
