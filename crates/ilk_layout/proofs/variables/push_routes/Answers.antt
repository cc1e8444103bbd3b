use Rattle.ilk_layout.specs.Variables.{route_ranges}
use Rattle.ilk_layout.proofs.Pushes.{flat_map-pushed}
use Rattle.ilk_layout.proofs.variables.push_routes.Goals as goal

pub loop-r-preserved : goal.loop-r-preserved
loop-r-preserved c = flat_map-pushed route_ranges c.args.plant.now.routes c.loop-r.r c.route.result.now c.args.ranges.now c.loop-r.ranges c.push_route.new.ranges c.route.ensures.route c.loop-r.invariant c.in_ok-push_route.ensures
