use Rattle.std.proofs.Common.{◌≡◌, drop}
use Rattle.ilk_plant.specs.Shape.{HasShape}
use Rattle.ilk_plant.specs.Start.{start}
use Rattle.ilk_model.specs.Run.{run}
use Rattle.ilk_engine.proofs.last.state_after.Given as goal

abbrev pub invariant-loop-event : goal.invariant-loop-event
invariant-loop-event l = record {
  rest : run l.plant l.s (drop l.event-index l.event-items) ≡ run l.plant (start l.plant) l.events;
  shape : HasShape l.plant l.s;
}
