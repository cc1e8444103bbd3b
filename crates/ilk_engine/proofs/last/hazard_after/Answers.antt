use Rattle.ilk_plant.specs.Start.{start}
use Rattle.ilk_engine.proofs.Ends.{hazard-run}
use Rattle.ilk_engine.proofs.last.hazard_after.Goals as goal

pub state_after-requires : goal.state_after-requires
state_after-requires c = hazard-run c.args.plant.now (start c.args.plant.now) c.args.events.now c.requires
