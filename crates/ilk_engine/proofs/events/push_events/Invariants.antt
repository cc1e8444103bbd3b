use Rattle.std.proofs.Common.{◌≡◌, ◌++◌, drop}
use Rattle.ilk_engine.specs.Lifted.{events_of_fired_rules}
use Rattle.ilk_engine.proofs.events.push_events.Given as goal

abbrev pub invariant-loop-rule : goal.invariant-loop-rule
invariant-loop-rule l = l.events ++ events_of_fired_rules l.plant (drop l.rule-index l.rule-items) ≡ l.fn.events ++ events_of_fired_rules l.plant l.rules
