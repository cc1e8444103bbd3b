use Rattle.ilk_engine.proofs.Made.{unsafe-ends, unsafe-fires, unsafe-made}
use Rattle.ilk_engine.proofs.lifting.lift_unsafe.Goals as goal

pub events_of_rules-requires : goal.events_of_rules-requires
events_of_rules-requires c = unsafe-fires c.args.plant.now c.prove_is_plant.ensures c.requires.steps c.requires.goal c.args.depth c.args.trace.now c.requires.depth c.requires.right

pub hazard_after-requires : goal.hazard_after-requires
hazard_after-requires c = unsafe-ends c.args.plant.now c.prove_is_plant.ensures c.requires.steps c.requires.goal c.args.depth c.args.trace.now c.in_ok-events.events c.requires.depth c.requires.right c.in_ok-events.ensures

pub returns : goal.returns
returns c =
    unsafe-made c.args.plant.now c.prove_is_plant.ensures c.requires.steps c.requires.goal c.args.depth c.args.trace.now c.in_ok-events.events c.in_ok-hazard.hazard c.requires.depth c.requires.right c.in_ok-events.ensures c.in_ok-hazard.ensures
