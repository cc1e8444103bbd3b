use Rattle.std.proofs.Common.{◌≡◌, map, take}
use Rattle.ilk_tablegen.specs.Table.{route_name}
use Rattle.ilk_tablegen.proofs.table.route_names.Given as goal

abbrev pub invariant-loop-n : goal.invariant-loop-n
invariant-loop-n l =
    l.names ≡ map route_name (take l.n-index l.routes)
