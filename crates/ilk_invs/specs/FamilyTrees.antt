-- The nine families of the invariant as conditions on the values of a plant's variables. Each is an
-- And of instances: for a route, a board, a route and one of its sections, boards or points, or a
-- section and a direction. In V2 an instance is for a section and one route, or two halves of its
-- routes.
use Rattle.std.specs.Prelude.{ℕ, ◌-◌, List, [], ◌∷◌, slice_get, unwrap_or}
use Rattle.ilk_ir.specs.Tree.{Tree, no}
use Rattle.ilk_plant.specs.Plant.{PlantLists}
use Rattle.ilk_invs.specs.HoldFamilies.{v2_sections_held_once_tree, v3_locks_match_routes_tree}
use Rattle.ilk_invs.specs.PointFamily.{v6_points_match_modes_tree}
use Rattle.ilk_invs.specs.RouteFamilies.{v1_consistent_counts_tree, v4_allocating_paths_vacant_tree, v5_open_needs_locked_tree, v9_protecting_boards_closed_tree}
use Rattle.ilk_invs.specs.TrainFamilies.{v7_heads_have_routes_tree, v8_bodies_have_routes_tree}

-- All nine families, V1 to V9, in order.
abbrev pub family_trees : PlantLists → List Tree
family_trees p =
    v1_consistent_counts_tree p ∷ v2_sections_held_once_tree p ∷ v3_locks_match_routes_tree p ∷ v4_allocating_paths_vacant_tree p ∷ v5_open_needs_locked_tree p ∷ v6_points_match_modes_tree p ∷ v7_heads_have_routes_tree p ∷
    v8_bodies_have_routes_tree p ∷ v9_protecting_boards_closed_tree p ∷ []

-- Family V`j`, for `j` from 1 to 9.
abbrev pub family_tree : PlantLists → ℕ → Tree
family_tree p j = unwrap_or (slice_get (family_trees p) (j - 1)) no
