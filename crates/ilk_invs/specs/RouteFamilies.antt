-- Families V1, V4, V5 and V9, about routes, their paths and their boards, as conditions on the
-- values of a plant's variables.
use Rattle.std.specs.Prelude.{ℕ, ◌+◌, ◌==◌, List, [], ◌∷◌, map, length, if◌then◌else◌}
use Rattle.std.specs.List.{range_with_len}
use Rattle.ilk_ir.specs.Tree.{Tree, negation}
use Rattle.ilk_plant.specs.Plant.{PlantLists}
use Rattle.ilk_plant.specs.declared.state.Aspect.TheVariants.{Open, Closed}
use Rattle.ilk_plant.specs.declared.state.Mode.TheVariants.{Allocating, Locked, Occupied}
use Rattle.ilk_plant.specs.declared.table.Route.{Route}
use Rattle.ilk_layout.specs.Conditions.{is_board_aspect, mode_is, no_train_at, is_released_count, is_seen_count}
use Rattle.ilk_invs.specs.Held.{is_released_count_below}
use Rattle.ilk_invs.specs.Parts.{each_of, conditions_of_each_route, some_of, implication}

-- Family V1 for route `r`. Unless it is Occupied, none of its path is seen or released. If it is
-- Occupied with `k` sections seen, fewer than `k` are released.
abbrev pub counts_are_consistent : ℕ → Route → Tree
counts_are_consistent r route =
    each_of (some_of (mode_is r Occupied ∷ is_seen_count r 0 ∷ [])
    ∷ some_of (mode_is r Occupied ∷ is_released_count r 0 ∷ [])
    ∷ map (λ k. some_of (negation (mode_is r Occupied) ∷ negation (is_seen_count r k) ∷ is_released_count_below r k ∷ [])) (range_with_len 0 (length route.path + 1)))

-- Family V1: the counts of seen and released sections of each route fit its mode.
abbrev pub v1_consistent_counts_tree : PlantLists → Tree
v1_consistent_counts_tree p = each_of (conditions_of_each_route p (λ r route. counts_are_consistent r route ∷ []))

-- The conditions that each path section of a route is vacant.
abbrev pub path_vacant : PlantLists → Route → List Tree
path_vacant p route = map (no_train_at p) route.path

-- Family V4: each path section of each Allocating route is vacant.
abbrev pub v4_allocating_paths_vacant_tree : PlantLists → Tree
v4_allocating_paths_vacant_tree p =
    each_of (conditions_of_each_route p (λ r route. implication (mode_is r Allocating) (each_of (path_vacant p route)) ∷ []))

-- Family V5 for board `m`: if it is Open, some route from it is Locked and has a vacant path.
abbrev pub open_only_for_route : PlantLists → ℕ → Tree
open_only_for_route p m =
    some_of (negation (is_board_aspect p m Open)
    ∷ conditions_of_each_route p (λ r route. if route.source == m then each_of (mode_is r Locked ∷ path_vacant p route) ∷ [] else []))

-- Family V5: each Open board is the source of a Locked route with a vacant path.
abbrev pub v5_open_needs_locked_tree : PlantLists → Tree
v5_open_needs_locked_tree p = each_of (map (open_only_for_route p) (range_with_len 0 (length p.boards)))

-- Family V9: each protecting board of each Locked route is Closed.
abbrev pub v9_protecting_boards_closed_tree : PlantLists → Tree
v9_protecting_boards_closed_tree p =
    each_of (conditions_of_each_route p (λ r route. map (λ m. implication (mode_is r Locked) (is_board_aspect p m Closed)) route.protecting_boards))
