use Rattle.ilk_plant.specs.Shape.{HasShape}
use Rattle.ilk_plant.proofs.Steps.{after_turn}
use Rattle.ilk_routes.proofs.Shape.{after_throw-shape}
use Rattle.ilk_routes.proofs.points.step_throw.Goals as goal

pub returns-clause-shape : goal.returns-clause-shape
returns-clause-shape c =
    after_turn (HasShape c.args.plant.now) _ c.args.s.now c.throw.new.s c.requires (λ t e. after_throw-shape c.args.plant.now c.args.s.now t c.args.p c.requires e) c.throw.ensures.next
