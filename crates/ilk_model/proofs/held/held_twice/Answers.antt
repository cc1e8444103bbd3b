use Rattle.ilk_model.specs.Shared.{is_held_by_two_routes}
use Rattle.ilk_model.proofs.SharedSections.{shared_exact}
use Rattle.ilk_model.proofs.held.held_twice.Goals as goal

pub returns : goal.returns
returns c = shared_exact _ (is_held_by_two_routes c.args.plant.now c.args.s.now) c.held_twice_from.ensures c.held_twice_from-2.ensures
