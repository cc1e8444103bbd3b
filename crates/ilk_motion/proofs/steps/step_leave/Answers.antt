use Rattle.ilk_plant.specs.Shape.{HasShape}
use Rattle.ilk_motion.proofs.Shape.{after_leave-shape}
use Rattle.ilk_plant.proofs.Steps.{after_turn}
use Rattle.ilk_motion.proofs.steps.step_leave.Goals as goal

pub returns-clause-shape : goal.returns-clause-shape
returns-clause-shape c =
    after_turn (HasShape c.args.plant.now) _ c.args.s.now c.leave.new.s c.requires (λ t e. after_leave-shape c.args.plant.now c.args.s.now t c.args.x c.requires e) c.leave.ensures.next
