use Rattle.ilk_props.proofs.FormsValid.{start-valid}
use Rattle.ilk_props.proofs.StartHolds.{start-holds}
use Rattle.ilk_props.proofs.start.start_form.Goals as goal

pub returns-clause-valid : goal.returns-clause-valid
returns-clause-valid c = start-valid c.args.plant.now

pub returns-clause-holds : goal.returns-clause-holds
returns-clause-holds c = start-holds c.args.plant.now
