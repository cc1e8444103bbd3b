use Rattle.ilk_props.proofs.FormsValid.{hazard-valid}
use Rattle.ilk_props.proofs.HazardHolds.{hazard-holds}
use Rattle.ilk_props.proofs.hazard.hazard_form.Goals as goal

pub returns-clause-valid : goal.returns-clause-valid
returns-clause-valid c = hazard-valid c.args.plant.now

pub returns-clause-holds : goal.returns-clause-holds
returns-clause-holds c = hazard-holds c.args.plant.now
