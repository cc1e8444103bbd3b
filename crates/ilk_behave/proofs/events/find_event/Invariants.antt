use Rattle.std.proofs.Common.{take}
use Rattle.ilk_behave.proofs.Located.{IsPast}
use Rattle.ilk_behave.proofs.events.find_event.Given as goal

abbrev pub invariant-loop-event : goal.invariant-loop-event
invariant-loop-event l = IsPast l.plant (take l.event-index l.events) l.place l.left
