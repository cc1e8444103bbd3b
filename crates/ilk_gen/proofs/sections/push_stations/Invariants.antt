use Rattle.std.proofs.Common.{◌≡◌, ◌++◌}
use Rattle.std.specs.List.{flat_map, range_with_len}
use Rattle.ilk_gen.specs.Stations.{sections_of_station_and_line_above}
use Rattle.ilk_gen.proofs.sections.push_stations.Given as goal

abbrev pub invariant-loop-i : goal.invariant-loop-i
invariant-loop-i l = l.sections ≡ l.fn.sections ++ flat_map (sections_of_station_and_line_above l.n) (range_with_len 1 l.i)
