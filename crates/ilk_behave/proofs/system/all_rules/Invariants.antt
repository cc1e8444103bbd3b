use Rattle.std.proofs.Common.{◌≡◌, map}
use Rattle.std.specs.List.{flat_map}
use Rattle.ilk_ir.specs.System.{plain_rule}
use Rattle.ilk_behave.specs.Behaviour.{rules_of_event}
use Rattle.ilk_behave.proofs.PlantEvents.{events_before_route, events_before_section}
use Rattle.ilk_behave.proofs.system.all_rules.Given as goal

abbrev pub invariant-loop-r : goal.invariant-loop-r
invariant-loop-r l = map plain_rule l.rules ≡ flat_map (rules_of_event l.plant) (events_before_route l.r)

abbrev pub invariant-loop-x : goal.invariant-loop-x
invariant-loop-x l = map plain_rule l.rules ≡ flat_map (rules_of_event l.plant) (events_before_section l.plant l.x)
