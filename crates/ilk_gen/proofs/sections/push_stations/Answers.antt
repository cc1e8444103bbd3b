use Rattle.ilk_gen.proofs.Steps.{station-pushed}
use Rattle.ilk_gen.proofs.sections.push_stations.Goals as goal
use Rattle.ilk_gen.specs.Stations.{sections_of_station_and_line_above}

pub loop-i-preserved : goal.loop-i-preserved
loop-i-preserved c =
    station-pushed (sections_of_station_and_line_above c.args.n) c.loop-i.i c.args.sections.now c.loop-i.sections c.push_station.new.sections c.loop-i.invariant c.in_ok-push_station.ensures
