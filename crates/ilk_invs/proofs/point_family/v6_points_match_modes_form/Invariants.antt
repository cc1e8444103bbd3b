use Rattle.std.proofs.Common.{◌≡◌, map, slice_get}
use Rattle.std.specs.List.{flat_map, range_with_len}
use Rattle.ilk_ir.specs.Form.{tree_of}
use Rattle.ilk_invs.specs.Parts.{conditions_for_optional_value}
use Rattle.ilk_invs.specs.PointFamily.{point_matches_route_mode, listed_points_on_path}
use Rattle.ilk_invs.proofs.point_family.v6_points_match_modes_form.Given as goal

abbrev pub invariant-loop-r : goal.invariant-loop-r
invariant-loop-r l =
    map tree_of l.forms.items ≡ flat_map (λ q. conditions_for_optional_value (slice_get l.plant.routes q) (λ route. flat_map (point_matches_route_mode l.plant q route) (listed_points_on_path route))) (range_with_len 0 l.r)
