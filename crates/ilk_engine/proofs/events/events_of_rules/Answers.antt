use Rattle.std.proofs.Common.{List, ◌++◌, ap, ◌∙◌}
use Rattle.ilk_model.specs.declared.event.Event.{Event}
use Rattle.ilk_engine.specs.Lifted.{events_of_fired_rules}
use Rattle.ilk_engine.proofs.Fired.{fired-by}
use Rattle.ilk_engine.proofs.events.events_of_rules.Goals as goal

pub returns : goal.returns
returns c =
    fired-by c.args.plant.now c.args.rules.now c.push_events.new.events c.requires
    (c.in_ok-push_events.ensures ∙ ap (λ (xs : List Event). xs ++ events_of_fired_rules c.args.plant.now c.args.rules.now) c.new-events.ensures)
