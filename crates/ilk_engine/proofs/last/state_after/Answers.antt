use Rattle.std.proofs.lemmas.List.{drop_all}
use Rattle.ilk_engine.proofs.Ends.{run-begins, run-goes, run-done}
use Rattle.ilk_engine.proofs.last.state_after.Goals as goal

pub loop-event-init : goal.loop-event-init
loop-event-init c = record {
  rest = run-begins c.args.plant.now c.in_ok-s.s c.as_slice-event-items.result.now c.args.events.now c.in_ok-s.ensures.start c.as_slice-event-items.ensures;
  shape = c.in_ok-s.ensures.shape;
}

pub loop-event-preserved : goal.loop-event-preserved
loop-event-preserved c = record {
  rest = run-goes c.args.plant.now c.loop-event.s c.apply.new.s c.as_slice-event-items.result.now c.loop-event.event-index _ _ c.loop-event-test.true c.requires c.in_ok-apply.ensures.next c.loop-event.invariant.rest;
  shape = c.apply.ensures.shape;
}

pub returns-clause-state : goal.returns-clause-state
returns-clause-state c =
    run-done c.args.plant.now c.loop-event.s c.as_slice-event-items.result.now c.loop-event.event-index _ (drop_all c.loop-event.event-index c.as_slice-event-items.result.now c.loop-event-test.false) c.loop-event.invariant.rest
