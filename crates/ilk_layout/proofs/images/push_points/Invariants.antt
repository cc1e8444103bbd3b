use Rattle.std.proofs.Common.{◌≡◌, ◌++◌, drop}
use Rattle.std.specs.List.{flat_map}
use Rattle.ilk_layout.specs.Image.{point_values}
use Rattle.ilk_layout.proofs.images.push_points.Given as goal

abbrev pub invariant-loop-point : goal.invariant-loop-point
invariant-loop-point l =
    l.values ++ flat_map point_values (drop l.point-index l.point-items) ≡ l.initial.values ++ flat_map point_values l.point-items
