use Rattle.std.proofs.Common.{arith}
use Rattle.ilk_behave.proofs.Located.{found-at, past-all, past-at}
use Rattle.ilk_behave.proofs.events.find_event.Goals as goal

pub returns-then-left-count-clause-found : goal.returns-then-left-count-clause-found
returns-then-left-count-clause-found c =
    found-at c.args.plant.now c.args.events.now c.loop-event.event-index _ c.args.place c.loop-event.left c.count_event_rules-count.result c.loop-event-test.true c.count_event_rules-count.ensures (omega arith) c.loop-event.invariant

pub loop-event-preserved : goal.loop-event-preserved
loop-event-preserved c =
    past-at c.args.plant.now c.args.events.now c.loop-event.event-index _ c.args.place c.loop-event.left c.count_event_rules-count.result c.loop-event-test.true c.count_event_rules-count.ensures (omega arith) c.loop-event.invariant

pub returns-clause-past : goal.returns-clause-past
returns-clause-past c = past-all c.args.plant.now c.args.events.now c.loop-event.event-index c.args.place c.loop-event.left (omega arith) c.loop-event.invariant
