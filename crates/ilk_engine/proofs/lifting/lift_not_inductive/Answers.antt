use Rattle.ilk_engine.proofs.Made.{first-in-range, first-wellformed, out-fires, out-made}
use Rattle.ilk_engine.proofs.lifting.lift_not_inductive.Goals as goal

pub state_of-requires-clause-in_range : goal.state_of-requires-clause-in_range
state_of-requires-clause-in_range c = first-in-range c.args.plant.now c.prove_is_plant.ensures c.requires.steps c.requires.goal c.args.depth c.args.trace.now c.requires.right

pub state_of-requires-clause-wellformed : goal.state_of-requires-clause-wellformed
state_of-requires-clause-wellformed c = first-wellformed c.args.plant.now c.prove_is_plant.ensures c.requires.steps c.requires.goal c.args.depth c.args.trace.now c.wellformed_iff_safe_state_image.ensures c.requires.some_depth c.requires.right

pub events_of_rules-requires : goal.events_of_rules-requires
events_of_rules-requires c = out-fires c.args.plant.now c.prove_is_plant.ensures c.requires.steps c.requires.goal c.args.depth c.args.trace.now c.in_ok-first.first c.in_ok-first.ensures.calm c.in_ok-first.ensures.image c.requires.right

pub returns : goal.returns
returns c =
    out-made c.args.plant.now c.prove_is_plant.ensures c.requires.steps c.requires.goal c.args.depth
    c.args.trace.now c.in_ok-first.first c.in_ok-events.events c.requires.depth c.in_ok-first.ensures.calm
    c.in_ok-first.ensures.image c.requires.right c.in_ok-events.ensures
