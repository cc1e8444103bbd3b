use Rattle.ilk_plant.specs.Start.{start}
use Rattle.ilk_engine.proofs.Ends.{breach-run}
use Rattle.ilk_engine.proofs.last.broken_family_after.Goals as goal

pub state_after-requires : goal.state_after-requires
state_after-requires c = breach-run c.args.plant.now (start c.args.plant.now) c.args.events.now c.requires
