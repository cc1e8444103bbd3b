use Rattle.ilk_plant.specs.Shape.{HasShape}
use Rattle.ilk_motion.proofs.Shape.{after_head-shape}
use Rattle.ilk_plant.proofs.Steps.{after_step}
use Rattle.ilk_motion.proofs.steps.step_head.Goals as goal

pub returns-clause-shape : goal.returns-clause-shape
returns-clause-shape c =
    after_step (HasShape c.args.plant.now) c.move_head.result _ c.args.s.now c.move_head.new.s c.requires (λ t e. after_head-shape c.args.plant.now c.args.s.now t c.args.x c.requires e) c.move_head.ensures.next c.move_head.ensures.err
