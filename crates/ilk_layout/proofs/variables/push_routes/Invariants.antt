use Rattle.std.proofs.Common.{◌≡◌, ◌++◌, take}
use Rattle.std.specs.List.{flat_map}
use Rattle.ilk_layout.specs.Variables.{route_ranges}
use Rattle.ilk_layout.proofs.variables.push_routes.Given as goal

abbrev pub invariant-loop-r : goal.invariant-loop-r
invariant-loop-r l = l.ranges ≡ l.initial.ranges ++ flat_map route_ranges (take l.r l.plant.routes)
