use Rattle.ilk_gen.proofs.Steps.{station-pushed}
use Rattle.ilk_gen.proofs.routes.push_routes.Goals as goal
use Rattle.ilk_gen.specs.WrittenRoutes.{station_routes_with_conflicts}

pub loop-i-preserved : goal.loop-i-preserved
loop-i-preserved c =
    station-pushed (station_routes_with_conflicts c.args.n) c.loop-i.i c.args.routes.now c.loop-i.routes c.push_station.new.routes c.loop-i.invariant c.in_ok-push_station.ensures
