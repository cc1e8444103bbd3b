use Rattle.std.proofs.Common.{map}
use Rattle.ilk_ir.specs.System.{plain_rule}
use Rattle.ilk_behave.specs.Behaviour.{rules_of_event}
use Rattle.ilk_behave.proofs.Pushed.{made_more}
use Rattle.ilk_behave.proofs.system.push_rules_of_all.Goals as goal

pub loop-event-preserved : goal.loop-event-preserved
loop-event-preserved c =
    made_more (rules_of_event c.args.plant.now) c.args.events.now c.loop-event.event-index _
    (map plain_rule c.args.rules.now) (map plain_rule c.loop-event.rules)
    (map plain_rule c.push_rules_of.new.rules) c.loop-event-test.true c.loop-event.invariant
    c.in_ok-push_rules_of.ensures
