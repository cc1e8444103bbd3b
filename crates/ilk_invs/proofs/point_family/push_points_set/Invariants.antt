use Rattle.std.proofs.Common.{◌≡◌, ◌++◌, drop, map, filter}
use Rattle.std.specs.List.{flat_map}
use Rattle.ilk_ir.specs.Form.{tree_of}
use Rattle.ilk_plant.specs.Network.{contains_section}
use Rattle.ilk_invs.specs.PointFamily.{point_matches_route_mode}
use Rattle.ilk_invs.proofs.point_family.push_points_set.Given as goal

abbrev pub invariant-loop-listed : goal.invariant-loop-listed
invariant-loop-listed l =
    map tree_of l.forms.items ++ flat_map (point_matches_route_mode l.plant l.r l.route) (filter (λ listed. contains_section listed.point l.route.path) (drop l.listed-index l.listed-items))
    ≡ map tree_of l.initial.forms.items ++ flat_map (point_matches_route_mode l.plant l.r l.route) (filter (λ listed. contains_section listed.point l.route.path) l.listed-items)
