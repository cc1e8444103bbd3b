use Rattle.std.proofs.Common.{◌≡◌, ◌++◌}
use Rattle.std.specs.List.{flat_map, range_with_len}
use Rattle.ilk_gen.specs.WrittenRoutes.{station_routes_with_conflicts}
use Rattle.ilk_gen.proofs.routes.push_routes.Given as goal

abbrev pub invariant-loop-i : goal.invariant-loop-i
invariant-loop-i l = l.routes ≡ l.fn.routes ++ flat_map (station_routes_with_conflicts l.n) (range_with_len 1 l.i)
