use Rattle.ilk_drive.proofs.Drives.{drive-few, drive-one, drive-run, drive-safe}
use Rattle.ilk_drive.proofs.laws.drives_are_unique_bounded_runs.Goals as goal

pub returns-clause-one : goal.returns-clause-one
returns-clause-one c = drive-one c.args.plant.now

pub returns-clause-run : goal.returns-clause-run
returns-clause-run c = drive-run c.args.plant.now

pub returns-clause-few : goal.returns-clause-few
returns-clause-few c = drive-few c.args.plant.now c.prove_is_plant.ensures c.prove_sound_acyclic_drafts.ensures.walks

pub returns-clause-strict : goal.returns-clause-strict
returns-clause-strict c = drive-safe c.args.plant.now c.prove_is_plant.ensures
