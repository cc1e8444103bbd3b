-- Family V6, about the points of paths, as a condition on the values of a plant's variables.
use Rattle.std.specs.Prelude.{ℕ, List, [], ◌∷◌, filter, flat_map}
use Rattle.ilk_ir.specs.Tree.{Tree}
use Rattle.ilk_plant.specs.Network.{contains_section}
use Rattle.ilk_plant.specs.Plant.{PlantLists}
use Rattle.ilk_plant.specs.declared.state.Mode.TheVariants.{Allocating}
use Rattle.ilk_plant.specs.declared.table.Listed.{Listed}
use Rattle.ilk_plant.specs.declared.table.Route.{Route}
use Rattle.ilk_layout.specs.Conditions.{is_listed_point_commanded, is_listed_point_detected, mode_is}
use Rattle.ilk_invs.specs.Held.{section_retained_by}
use Rattle.ilk_invs.specs.Parts.{each_of, conditions_of_each_route, implication}

-- The points that a route lists and that are on its path.
abbrev pub listed_points_on_path : Route → List Listed
listed_points_on_path route = filter (λ listed. contains_section listed.point route.path) route.points

-- Family V6 for route `r` and a listed point on its path. If the route is Allocating, the point is
-- commanded to its listed position. If the route is Locked or Occupied and has not released the
-- point, the point is commanded to this position, and detected there.
abbrev pub point_matches_route_mode : PlantLists → ℕ → Route → Listed → List Tree
point_matches_route_mode p r route listed =
    implication (mode_is r Allocating) (is_listed_point_commanded p listed)
    ∷ implication (section_retained_by r route listed.point) (is_listed_point_commanded p listed)
    ∷ implication (section_retained_by r route listed.point) (is_listed_point_detected p listed)
    ∷ []

-- Family V6: the listed points on each route's path are commanded and detected as the route's mode
-- requires.
abbrev pub v6_points_match_modes_tree : PlantLists → Tree
v6_points_match_modes_tree p = each_of (conditions_of_each_route p (λ r route. flat_map (point_matches_route_mode p r route) (listed_points_on_path route)))
