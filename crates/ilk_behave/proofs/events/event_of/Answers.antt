use Rattle.std.proofs.Common.{◌+◌, arith}
use Rattle.ilk_behave.proofs.Located.{found-in-route, found-in-section, found-nowhere, past-more, past-routes}
use Rattle.ilk_behave.proofs.PlantEvents.{events_before_route, events_before_section, route-numbered, routes-more, section-numbered, sections-more}
use Rattle.ilk_behave.proofs.events.event_of.Goals as goal

pub find_event-requires : goal.find_event-requires
find_event-requires c = route-numbered c.args.plant.now c.loop-r.r c.events_of_route.result (omega arith) c.events_of_route.ensures

pub returns-in-Ok : goal.returns-in-Ok
returns-in-Ok c =
    let found = found-in-route c.args.plant.now c.loop-r.r c.args.rule c.loop-r.left c.events_of_route.result c.in-Ok.event (omega arith) c.events_of_route.ensures c.loop-r.invariant c.in-Ok.ensures.found in
    record { event = found.0; none = found.1 }

pub loop-r-preserved : goal.loop-r-preserved
loop-r-preserved c =
    past-more c.args.plant.now (events_before_route c.loop-r.r) c.events_of_route.result
    (events_before_route (c.loop-r.r + 1)) c.args.rule c.loop-r.left c.in-Err.rest
    (routes-more c.loop-r.r c.events_of_route.result c.events_of_route.ensures) c.loop-r.invariant
    c.in-Err.ensures.past

pub loop-x-init : goal.loop-x-init
loop-x-init c = past-routes c.args.plant.now c.loop-r.r c.args.rule c.loop-r.left (omega arith) c.loop-r.invariant

pub find_event-requires-in-loop-x : goal.find_event-requires-in-loop-x
find_event-requires-in-loop-x c = section-numbered c.args.plant.now c.loop-x.x c.events_of_section.result (omega arith) c.events_of_section.ensures

pub returns-in-Ok-find_event : goal.returns-in-Ok-find_event
returns-in-Ok-find_event c =
    let found = found-in-section c.args.plant.now c.loop-x.x c.args.rule c.loop-x.left c.events_of_section.result c.in-Ok-find_event.event (omega arith) c.events_of_section.ensures c.loop-x.invariant c.in-Ok-find_event.ensures.found in
    record { event = found.0; none = found.1 }

pub loop-x-preserved : goal.loop-x-preserved
loop-x-preserved c =
    past-more c.args.plant.now (events_before_section c.args.plant.now c.loop-x.x) c.events_of_section.result
    (events_before_section c.args.plant.now (c.loop-x.x + 1)) c.args.rule c.loop-x.left
    c.in-Err-find_event.rest
    (sections-more c.args.plant.now c.loop-x.x c.events_of_section.result c.events_of_section.ensures)
    c.loop-x.invariant c.in-Err-find_event.ensures.past

pub returns : goal.returns
returns c =
    let none = found-nowhere c.args.plant.now c.loop-x.x c.args.rule c.loop-x.left (omega arith) c.loop-x.invariant in
    record { event = none.0; none = none.1 }
