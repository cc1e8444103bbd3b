use Rattle.ilk_plant.specs.Shape.{HasShape}
use Rattle.ilk_motion.proofs.Shape.{after_tail-shape}
use Rattle.ilk_plant.proofs.Steps.{after_turn}
use Rattle.ilk_motion.proofs.steps.step_tail.Goals as goal

pub returns-clause-shape : goal.returns-clause-shape
returns-clause-shape c =
    after_turn (HasShape c.args.plant.now) _ c.args.s.now c.move_tail.new.s c.requires (λ t e. after_tail-shape c.args.plant.now c.args.s.now t c.args.x c.prove_is_plant.ensures c.requires e) c.move_tail.ensures.next
