use Rattle.std.proofs.Common.{◌≡◌, ◌+◌, ◌∙◌, ap, arith, length, map}
use Rattle.std.specs.List.{flat_map}
use Rattle.ilk_ir.specs.System.{plain_rule}
use Rattle.ilk_behave.specs.Behaviour.{rules_of_event}
use Rattle.ilk_behave.proofs.PlantEvents.{events_before_route, events_before_section, route-numbered, routes-more, section-numbered, sections-more, sections-start}
use Rattle.ilk_behave.proofs.Pushed.{made_next}
use Rattle.ilk_behave.proofs.system.all_rules.Goals as goal

pub push_rules_of_all-requires : goal.push_rules_of_all-requires
push_rules_of_all-requires c = route-numbered c.args.plant.now c.loop-r.r c.events_of_route.result (omega arith) c.events_of_route.ensures

pub push_rules_of_all-requires-in-loop-x : goal.push_rules_of_all-requires-in-loop-x
push_rules_of_all-requires-in-loop-x c = section-numbered c.args.plant.now c.loop-x.x c.events_of_section.result (omega arith) c.events_of_section.ensures

pub loop-r-preserved : goal.loop-r-preserved
loop-r-preserved c =
    made_next (rules_of_event c.args.plant.now) (events_before_route c.loop-r.r) c.events_of_route.result
    (events_before_route (c.loop-r.r + 1)) (map plain_rule c.loop-r.rules)
    (map plain_rule c.push_rules_of_all.new.rules)
    (routes-more c.loop-r.r c.events_of_route.result c.events_of_route.ensures) c.loop-r.invariant
    c.in_ok-push_rules_of_all.ensures

pub loop-x-init : goal.loop-x-init
loop-x-init c = c.loop-r.invariant ∙ ap (flat_map (rules_of_event c.args.plant.now)) (sections-start c.args.plant.now c.loop-r.r (omega arith))

pub loop-x-preserved : goal.loop-x-preserved
loop-x-preserved c =
    made_next (rules_of_event c.args.plant.now) (events_before_section c.args.plant.now c.loop-x.x)
    c.events_of_section.result (events_before_section c.args.plant.now (c.loop-x.x + 1))
    (map plain_rule c.loop-x.rules) (map plain_rule c.push_rules_of_all-in-loop-x.new.rules)
    (sections-more c.args.plant.now c.loop-x.x c.events_of_section.result c.events_of_section.ensures)
    c.loop-x.invariant c.in_ok-push_rules_of_all-2.ensures

pub returns : goal.returns
returns c =
    let all : c.loop-x.x ≡ length c.args.plant.now.sections = omega arith in
    c.loop-x.invariant ∙ ap (λ n. flat_map (rules_of_event c.args.plant.now) (events_before_section c.args.plant.now n)) all
