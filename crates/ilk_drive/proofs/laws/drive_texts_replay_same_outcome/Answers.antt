use Rattle.ilk_drive.proofs.Drives.{drive-read, drive-seen, drive-writable}
use Rattle.ilk_drive.proofs.laws.drive_texts_replay_same_outcome.Goals as goal

pub returns-clause-writable : goal.returns-clause-writable
returns-clause-writable c = drive-writable c.args.plant.now

pub returns-clause-read : goal.returns-clause-read
returns-clause-read c = drive-read c.args.plant.now c.prove_is_plant.ensures

pub returns-clause-seen : goal.returns-clause-seen
returns-clause-seen c = drive-seen c.args.plant.now
