use Rattle.std.proofs.Common.{◌≡◌, ◌++◌, drop}
use Rattle.ilk_tablegen.specs.Routes.{points_along}
use Rattle.ilk_tablegen.proofs.points.points_along.Given as goal

abbrev pub invariant-loop-i : goal.invariant-loop-i
invariant-loop-i l =
    l.points ++ points_along l.plant l.before (drop l.i l.path) ≡ points_along l.plant l.start l.path
