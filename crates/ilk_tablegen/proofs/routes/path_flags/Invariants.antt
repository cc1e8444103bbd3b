use Rattle.std.proofs.Common.{◌≡◌, map, take}
use Rattle.ilk_tablegen.specs.Flags.{path_membership_flags, paths_of_ways}
use Rattle.ilk_tablegen.proofs.routes.path_flags.Given as goal

abbrev pub invariant-loop-way : goal.invariant-loop-way
invariant-loop-way l =
    l.flags ≡ map (path_membership_flags l.count) (paths_of_ways (take l.way-index l.way-items))
