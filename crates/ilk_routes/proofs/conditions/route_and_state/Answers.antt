use Rattle.ilk_plant.proofs.Shapes.{seen_and_released_fit_path-counts}
use Rattle.ilk_routes.proofs.conditions.route_and_state.Goals as goal

pub returns-clause-seen : goal.returns-clause-seen
returns-clause-seen c =
    (seen_and_released_fit_path-counts c.route.result.now c.at.result.now (c.requires.shape.counts c.args.r c.route.result.now c.at.result.now c.route.ensures.route c.at.ensures)).0

pub returns-clause-rel : goal.returns-clause-rel
returns-clause-rel c =
    (seen_and_released_fit_path-counts c.route.result.now c.at.result.now (c.requires.shape.counts c.args.r c.route.result.now c.at.result.now c.route.ensures.route c.at.ensures)).1
