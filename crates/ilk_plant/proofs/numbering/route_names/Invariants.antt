use Rattle.std.proofs.Common.{◌≡◌, take}
use Rattle.ilk_plant.specs.Draft.{names_of_routes}
use Rattle.ilk_plant.proofs.numbering.route_names.Given as goal

abbrev pub invariant-loop-route : goal.invariant-loop-route
invariant-loop-route l = l.names ≡ names_of_routes (take l.route-index l.route-items)
