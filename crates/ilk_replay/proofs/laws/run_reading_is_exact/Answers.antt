use Rattle.ilk_replay.proofs.FirstBad.{bad_exactly}
use Rattle.ilk_replay.proofs.OfPlant.{no_line_bad, told_exactly}
use Rattle.ilk_replay.proofs.laws.run_reading_is_exact.Goals as goal

pub returns-clause-run : goal.returns-clause-run
returns-clause-run c = told_exactly c.args.plant.now c.prove_is_plant.ensures c.args.text.now

pub returns-clause-lines : goal.returns-clause-lines
returns-clause-lines c = no_line_bad c.args.plant.now c.prove_is_plant.ensures c.args.text.now

pub returns-clause-first : goal.returns-clause-first
returns-clause-first c = bad_exactly c.args.plant.now c.prove_is_plant.ensures c.args.text.now
