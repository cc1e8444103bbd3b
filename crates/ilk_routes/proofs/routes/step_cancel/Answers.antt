use Rattle.ilk_plant.specs.Shape.{HasShape}
use Rattle.ilk_plant.proofs.Steps.{after_turn}
use Rattle.ilk_routes.proofs.Shape.{after_cancel-shape}
use Rattle.ilk_routes.proofs.routes.step_cancel.Goals as goal

pub returns-clause-shape : goal.returns-clause-shape
returns-clause-shape c =
    after_turn (HasShape c.args.plant.now) _ c.args.s.now c.cancel.new.s c.requires (λ t e. after_cancel-shape c.args.plant.now c.args.s.now t c.args.r c.requires e) c.cancel.ensures.next
