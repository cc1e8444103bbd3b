use Rattle.ilk_behave.proofs.Located.{IsPast}
use Rattle.ilk_behave.proofs.PlantEvents.{events_before_route, events_before_section}
use Rattle.ilk_behave.proofs.events.event_of.Given as goal

abbrev pub invariant-loop-r : goal.invariant-loop-r
invariant-loop-r l = IsPast l.plant (events_before_route l.r) l.rule l.left

abbrev pub invariant-loop-x : goal.invariant-loop-x
invariant-loop-x l = IsPast l.plant (events_before_section l.plant l.x) l.rule l.left
