use Rattle.std.proofs.Common.{[], map}
use Rattle.std.specs.List.{flat_map}
use Rattle.ilk_ir.specs.Form.{tree_of}
use Rattle.ilk_invs.specs.PointFamily.{point_matches_route_mode, listed_points_on_path}
use Rattle.ilk_invs.proofs.Pushed.{route_more}
use Rattle.ilk_invs.proofs.point_family.v6_points_match_modes_form.Goals as goal

pub loop-r-preserved : goal.loop-r-preserved
loop-r-preserved c =
    route_more c.args.plant.now (λ q route. flat_map (point_matches_route_mode c.args.plant.now q route) (listed_points_on_path route))
    c.loop-r.r _ [] (map tree_of c.loop-r.forms.items) (map tree_of c.push_points_set.new.forms.items)
    c.route.ensures.route c.loop-r.invariant c.in_ok-push_points_set.ensures
