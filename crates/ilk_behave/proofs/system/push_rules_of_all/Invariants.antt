use Rattle.std.proofs.Common.{◌≡◌, ◌++◌, map, take}
use Rattle.std.specs.List.{flat_map}
use Rattle.ilk_ir.specs.System.{plain_rule}
use Rattle.ilk_behave.specs.Behaviour.{rules_of_event}
use Rattle.ilk_behave.proofs.system.push_rules_of_all.Given as goal

abbrev pub invariant-loop-event : goal.invariant-loop-event
invariant-loop-event l =
    map plain_rule l.rules ≡ map plain_rule l.initial.rules ++ flat_map (rules_of_event l.plant) (take l.event-index l.events)
