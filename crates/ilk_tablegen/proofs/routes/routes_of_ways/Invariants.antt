use Rattle.std.proofs.Common.{◌≡◌, map, take}
use Rattle.std.specs.List.{enumerate_from}
use Rattle.ilk_tablegen.specs.Flags.{route_by_flags}
use Rattle.ilk_tablegen.proofs.routes.routes_of_ways.Given as goal

abbrev pub invariant-loop-n : goal.invariant-loop-n
invariant-loop-n l =
    l.routes ≡ map (λ numbered. route_by_flags l.plant l.flags numbered.0 numbered.1) (enumerate_from 0 (take l.n l.way-items))
