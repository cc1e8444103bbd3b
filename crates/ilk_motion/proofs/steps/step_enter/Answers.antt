use Rattle.ilk_plant.specs.Shape.{HasShape}
use Rattle.ilk_motion.proofs.Shape.{after_enter-shape}
use Rattle.ilk_plant.proofs.Steps.{after_step}
use Rattle.ilk_motion.proofs.steps.step_enter.Goals as goal

pub returns-clause-shape : goal.returns-clause-shape
returns-clause-shape c =
    after_step (HasShape c.args.plant.now) c.enter.result _ c.args.s.now c.enter.new.s c.requires (λ t e. after_enter-shape c.args.plant.now c.args.s.now t c.args.x c.requires e) c.enter.ensures.next c.enter.ensures.err
