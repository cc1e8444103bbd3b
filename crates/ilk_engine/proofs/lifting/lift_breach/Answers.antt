use Rattle.ilk_engine.proofs.Made.{breach-ends, breach-fires, breach-made}
use Rattle.ilk_engine.proofs.lifting.lift_breach.Goals as goal

pub events_of_rules-requires : goal.events_of_rules-requires
events_of_rules-requires c = breach-fires c.args.plant.now c.prove_is_plant.ensures c.requires.steps c.requires.goal c.args.depth c.args.trace.now c.requires.depth c.requires.right

pub broken_family_after-requires : goal.broken_family_after-requires
broken_family_after-requires c = breach-ends c.args.plant.now c.prove_is_plant.ensures c.requires.steps c.requires.goal c.args.depth c.args.trace.now c.in_ok-events.events c.requires.depth c.requires.right c.in_ok-events.ensures

pub returns : goal.returns
returns c =
    breach-made c.args.plant.now c.prove_is_plant.ensures c.requires.steps c.requires.goal c.args.depth c.args.trace.now c.in_ok-events.events c.in_ok-family.family c.requires.depth c.requires.right c.in_ok-events.ensures c.in_ok-family.ensures
