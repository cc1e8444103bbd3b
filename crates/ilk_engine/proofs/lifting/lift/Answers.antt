use Rattle.ilk_engine.proofs.Made.{safe-lifted}
use Rattle.ilk_engine.proofs.lifting.lift.Goals as goal

pub returns-in-Safe : goal.returns-in-Safe
returns-in-Safe c =
    safe-lifted c.args.plant.now c.prove_is_plant.ensures c.requires.steps c.requires.goal c.args.depth c.in-Safe.k c.args.verdict.now c.requires.depth c.in-Safe.is c.requires.right c.requires.lasts
