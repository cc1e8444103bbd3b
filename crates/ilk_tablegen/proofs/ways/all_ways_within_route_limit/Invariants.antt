use Rattle.std.proofs.Common.{◌-◌, ◌<◌, ◌≤◌, length}
use Rattle.ilk_plant.specs.declared.limits.TheConstants.{MAX_PATH, MAX_ROUTES}
use Rattle.ilk_tablegen.proofs.Grown.{AreGrown}
use Rattle.ilk_tablegen.proofs.ways.all_ways_within_route_limit.Given as goal

abbrev pub invariant-loop-i : goal.invariant-loop-i
invariant-loop-i l =
    record {
      grown : AreGrown l.plant (MAX_PATH - l._i) l.ways;
      few : 0 < l._i → length l.ways ≤ MAX_ROUTES;
    }
