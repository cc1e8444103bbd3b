use Rattle.ilk_plant.specs.Shape.{HasShape}
use Rattle.ilk_plant.proofs.Steps.{after_turn}
use Rattle.ilk_routes.proofs.Shape.{after_allocate-shape}
use Rattle.ilk_routes.proofs.routes.step_allocate.Goals as goal

pub returns-clause-shape : goal.returns-clause-shape
returns-clause-shape c =
    after_turn (HasShape c.args.plant.now) _ c.args.s.now c.allocate.new.s c.requires (λ t e. after_allocate-shape c.args.plant.now c.args.s.now t c.args.r c.requires e) c.allocate.ensures.next
