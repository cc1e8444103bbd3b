use Rattle.std.proofs.Common.{◌≡◌, ◌++◌, drop}
use Rattle.std.specs.List.{flat_map}
use Rattle.ilk_layout.specs.Image.{route_values}
use Rattle.ilk_layout.proofs.images.push_routes.Given as goal

abbrev pub invariant-loop-now : goal.invariant-loop-now
invariant-loop-now l =
    l.values ++ flat_map route_values (drop l.now-index l.now-items) ≡ l.initial.values ++ flat_map route_values l.now-items
