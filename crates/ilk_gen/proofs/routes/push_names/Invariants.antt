use Rattle.std.proofs.Common.{◌≡◌, ◌++◌, map, take}
use Rattle.ilk_gen.specs.StationRoutes.{route_name}
use Rattle.ilk_gen.proofs.routes.push_names.Given as goal

abbrev pub invariant-loop-k : goal.invariant-loop-k
invariant-loop-k l = l.names ≡ l.fn.names ++ map (route_name l.j) (take l.k-index l.numbers)
