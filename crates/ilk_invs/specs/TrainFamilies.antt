-- Families V7 and V8, about trains, as conditions on the values of a plant's variables. The
-- occupancies of sections represent the trains.
use Rattle.std.specs.Prelude.{ℕ, ◌+◌, ◌==◌, ◌&&◌, true, false, List, [], ◌∷◌, ◌++◌, drop, flat_map, length, map, nat_lt, if◌then◌else◌}
use Rattle.std.specs.List.{range_with_len}
use Rattle.ilk_ir.specs.Tree.{Tree, negation}
use Rattle.ilk_plant.specs.Network.{contains_section}
use Rattle.ilk_plant.specs.Plant.{PlantLists}
use Rattle.ilk_plant.specs.declared.network.Dir.{Dir}
use Rattle.ilk_plant.specs.declared.network.Dir.TheVariants.{Up, Down}
use Rattle.ilk_plant.specs.declared.state.Aspect.TheVariants.{Closed}
use Rattle.ilk_plant.specs.declared.state.Mode.TheVariants.{Occupied}
use Rattle.ilk_plant.specs.declared.table.Route.{Route}
use Rattle.ilk_layout.specs.declared.values.Occupancy.TheVariants.{Vacant, Taken, Crash}
use Rattle.ilk_model.specs.Holding.{continues_without_board, route_runs_in_direction}
use Rattle.ilk_layout.specs.Conditions.{is_board_aspect, mode_is, no_train_at, occupancy_is, train_at}
use Rattle.ilk_invs.specs.Held.{section_retained_by, route_locked_or_occupied, is_seen_count_below}
use Rattle.ilk_invs.specs.Parts.{with_one_literal_mark, each_of, conditions_of_each_path_index, conditions_of_each_route, some_of}

-- The condition that a train in direction `d` has its head at section `x`.
abbrev pub head_at : PlantLists → Dir → ℕ → Tree
head_at p d x = some_of (map (λ tail. occupancy_is p x (Taken d tail true)) (false ∷ true ∷ []))

-- The condition that section `x` is vacant or has an up train. These occupancies are a range from
-- 0, which a formula encodes as one literal.
abbrev pub vacant_or_up : PlantLists → ℕ → Tree
vacant_or_up p x =
    some_of (map (occupancy_is p x) (Vacant ∷ Taken Up false false ∷ Taken Up false true ∷ Taken Up true false ∷ Taken Up true true ∷ []))

-- The condition that a train in direction `d` has section `x` in its body. For up, `x` is not
-- vacant, but `vacant_or_up`. For down, it is neither `vacant_or_up` nor a crash.
abbrev pub body_at : PlantLists → Dir → ℕ → Tree
body_at p Up x = each_of (train_at p x ∷ vacant_or_up p x ∷ [])
body_at p Down x = each_of (negation (vacant_or_up p x) ∷ negation (occupancy_is p x Crash) ∷ [])

-- The condition that no path section of route `r` after index `i` is seen, or none if the path ends
-- there.
abbrev pub no_section_seen_past : ℕ → Route → ℕ → List Tree
no_section_seen_past r route i = if nat_lt (i + 1) (length route.path) then is_seen_count_below r (i + 2) ∷ [] else []

-- The condition that route `r` is Occupied, or Locked with its source Closed: it is Locked or
-- Occupied, and it is Occupied or its source is Closed.
abbrev pub occupied_or_locked_source_closed : PlantLists → ℕ → Route → Tree
occupied_or_locked_source_closed p r route =
    with_one_literal_mark (each_of (route_locked_or_occupied r ∷ some_of (mode_is r Occupied ∷ is_board_aspect p route.source Closed ∷ []) ∷ []))

-- The condition that route `r` is set for a train with its head at path[`i`]. The route is
-- Occupied, or Locked with its source Closed. All later path sections are not seen, and are vacant.
abbrev pub route_set_and_clear_past : PlantLists → ℕ → Route → ℕ → Tree
route_set_and_clear_past p r route i =
    each_of (occupied_or_locked_source_closed p r route ∷ (no_section_seen_past r route i ++ map (no_train_at p) (drop (i + 1) route.path)))

-- The conditions that route `r` is set for a train with its head at section `x`, one for each index
-- of `x` on its path. There is none unless the route runs in direction `d`.
abbrev pub route_set_for_head_at : PlantLists → Dir → ℕ → ℕ → Route → List Tree
route_set_for_head_at p d x r route =
    if route_runs_in_direction p d route then conditions_of_each_path_index route (λ i y. if y == x then route_set_and_clear_past p r route i ∷ [] else []) else []

-- Family V7 for section `x` and direction `d`, if `x` has a neighbour there but no board: if a
-- train has its head at `x`, some route is set for it.
abbrev pub head_has_route_set_at : PlantLists → Dir → ℕ → List Tree
head_has_route_set_at p d x =
    if continues_without_board p d x then some_of (negation (head_at p d x) ∷ conditions_of_each_route p (route_set_for_head_at p d x)) ∷ [] else []

-- Family V7: some route is set for each train whose head is at a section with a neighbour ahead but
-- no board.
abbrev pub v7_heads_have_routes_tree : PlantLists → Tree
v7_heads_have_routes_tree p = each_of (flat_map (λ x. head_has_route_set_at p Up x ++ head_has_route_set_at p Down x) (range_with_len 0 (length p.sections)))

-- The condition that route `r` is Locked or Occupied and has not released section `x`. There is
-- none unless it runs in direction `d` and has `x` in its path.
abbrev pub route_retains_in_direction : PlantLists → Dir → ℕ → ℕ → Route → List Tree
route_retains_in_direction p d x r route =
    if route_runs_in_direction p d route && contains_section x route.path
    then section_retained_by r route x ∷ []
    else []

-- Family V8 for section `x` and direction `d`, if `x` has a neighbour there but no board: if a
-- train has `x` in its body, some route retains `x` (`route_retains_in_direction`).
abbrev pub body_has_route_set_at : PlantLists → Dir → ℕ → List Tree
body_has_route_set_at p d x =
    if continues_without_board p d x then some_of (negation (body_at p d x) ∷ conditions_of_each_route p (route_retains_in_direction p d x)) ∷ [] else []

-- Family V8: if a section of a train's body has a neighbour ahead but no board, some Locked or
-- Occupied route in the train's direction has it on its path, not released.
abbrev pub v8_bodies_have_routes_tree : PlantLists → Tree
v8_bodies_have_routes_tree p = each_of (flat_map (λ x. body_has_route_set_at p Up x ++ body_has_route_set_at p Down x) (range_with_len 0 (length p.sections)))
