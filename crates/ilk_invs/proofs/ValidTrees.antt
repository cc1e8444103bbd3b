use Rattle.std.proofs.Common.{◌≡◌, ℕ, ◌+◌, ◌-◌, ◌<◌, ◌==◌, true, false, ◌&&◌, Option, Some, None, List, [], ◌∷◌, ◌++◌, drop, length, map, nat_lt, slice_get, unwrap_or, refl, ◌∙◌, ap, arith, if◌then◌else◌}
use Rattle.std.specs.List.{flat_map, list_all, range_with_len}
use Rattle.std.proofs.lemmas.Option.{slice_get_within}
use Rattle.ilk_base.proofs.ListTests.{all-at}
use Rattle.ilk_base.proofs.Ranges.{range_within}
use Rattle.ilk_base.proofs.Tested.{list_all-slice_get}
use Rattle.ilk_ir.specs.Tree.{Tree, negation, no, tree_valid}
use Rattle.ilk_plant.specs.Network.{contains_section}
use Rattle.ilk_plant.specs.Plant.{IsPlant, PlantLists}
use Rattle.ilk_plant.specs.declared.network.Dir.{Dir}
use Rattle.ilk_plant.specs.declared.network.Dir.TheVariants.{Up, Down}
use Rattle.ilk_plant.specs.declared.state.Aspect.TheVariants.{Closed}
use Rattle.ilk_plant.specs.declared.state.Mode.TheVariants.{Locked, Occupied}
use Rattle.ilk_plant.specs.declared.table.Route.{Route}
use Rattle.ilk_model.specs.Holding.{continues_without_board, route_runs_in_direction}
use Rattle.ilk_layout.specs.Variables.{ranges_of_plant}
use Rattle.ilk_layout.specs.declared.values.Occupancy.{Occupancy}
use Rattle.ilk_layout.specs.declared.values.Occupancy.TheVariants.{Vacant, Taken, Crash}
use Rattle.ilk_layout.specs.Conditions.{is_board_aspect, mode_is, no_train_at, occupancy_is, train_at}
use Rattle.ilk_layout.proofs.Valid.{is_board_aspect-valid, mode_is-valid, no_train_at-valid, occupancy_is-valid}
use Rattle.ilk_invs.specs.FamilyTrees.{family_tree, family_trees}
use Rattle.ilk_invs.specs.Held.{section_retained_by, route_locked_or_occupied, is_seen_count_below}
use Rattle.ilk_invs.specs.HoldFamilies.{v2_sections_held_once_tree, v3_locks_match_routes_tree}
use Rattle.ilk_invs.specs.Parts.{each_of, conditions_of_each_path_index, conditions_of_each_route, some_of, implication}
use Rattle.ilk_invs.specs.PointFamily.{v6_points_match_modes_tree}
use Rattle.ilk_invs.specs.RouteFamilies.{v1_consistent_counts_tree, v4_allocating_paths_vacant_tree, v5_open_needs_locked_tree, v9_protecting_boards_closed_tree}
use Rattle.ilk_invs.specs.TrainFamilies.{body_at, head_at, route_retains_in_direction, body_has_route_set_at, route_set_for_head_at, occupied_or_locked_source_closed, route_set_and_clear_past, head_has_route_set_at, no_section_seen_past, v7_heads_have_routes_tree, v8_bodies_have_routes_tree, vacant_or_up}
use Rattle.ilk_invs.proofs.Tests.{dropped-at}
use Rattle.ilk_invs.proofs.ValidParts.{each_of-valid, flat_map-valid, if-valid, joined-valid, map-valid, more-valid, one-valid, path_known, places-valid, route_locked_or_occupied-valid, routes-valid, section_retained_by-valid, is_seen_count_below-valid, some_of-valid, two-valid, implication-valid}
use Rattle.ilk_invs.proofs.ValidRouteTrees.{v1-valid, v2-valid, v3-valid, v4-valid, v5-valid, v6-valid}

module _ (p : PlantLists) (plant : IsPlant p) where
  head_at-valid : (d : Dir) (x : ℕ) → x < length p.sections → tree_valid (ranges_of_plant p) (head_at p d x) ≡ true
  head_at-valid d x within = rw (occupancy_is-valid p x (Taken d false true) within, occupancy_is-valid p x (Taken d true true) within) refl

  vacant_or_up-valid : (x : ℕ) → x < length p.sections → tree_valid (ranges_of_plant p) (vacant_or_up p x) ≡ true
  vacant_or_up-valid x within =
      some_of-valid p plant (map (occupancy_is p x) low) (map-valid p plant (occupancy_is p x) low (λ i occupancy at. occupancy_is-valid p x occupancy within))
    where
      low : List Occupancy
      low = Vacant ∷ Taken Up false false ∷ Taken Up false true ∷ Taken Up true false ∷ Taken Up true true ∷ []

  body_at-valid : (d : Dir) (x : ℕ) → x < length p.sections → tree_valid (ranges_of_plant p) (body_at p d x) ≡ true
  body_at-valid Up x within =
      each_of-valid p plant (train_at p x ∷ vacant_or_up p x ∷ []) (two-valid p plant (train_at p x) (vacant_or_up p x) (no_train_at-valid p x within) (vacant_or_up-valid x within))
  body_at-valid Down x within =
      each_of-valid p plant (negation (vacant_or_up p x) ∷ negation (occupancy_is p x Crash) ∷ [])
      (two-valid p plant (negation (vacant_or_up p x)) (negation (occupancy_is p x Crash))
      (vacant_or_up-valid x within) (occupancy_is-valid p x Crash within))

  no_section_seen_past-valid : (r : ℕ) (route : Route) (i : ℕ) → slice_get p.routes r ≡ Some route → i < length route.path → list_all (tree_valid (ranges_of_plant p)) (no_section_seen_past r route i) ≡ true
  no_section_seen_past-valid r route i known less =
      if-valid p plant (nat_lt (i + 1) (length route.path)) (is_seen_count_below r (i + 2) ∷ []) (one-valid p plant (is_seen_count_below r (i + 2)) (is_seen_count_below-valid p plant r (i + 2) route known (omega (arith, less))))

  occupied_or_locked_source_closed-valid : (r : ℕ) (route : Route) → slice_get p.routes r ≡ Some route → tree_valid (ranges_of_plant p) (occupied_or_locked_source_closed p r route) ≡ true
  occupied_or_locked_source_closed-valid r route known =
      let within = slice_get_within p.routes r route known in
      each_of-valid p plant (route_locked_or_occupied r ∷ some_of (mode_is r Occupied ∷ is_board_aspect p route.source Closed ∷ []) ∷ [])
      (two-valid p plant (route_locked_or_occupied r) (some_of (mode_is r Occupied ∷ is_board_aspect p route.source Closed ∷ [])) (route_locked_or_occupied-valid p plant r within)
      (some_of-valid p plant (mode_is r Occupied ∷ is_board_aspect p route.source Closed ∷ [])
      (two-valid p plant (mode_is r Occupied) (is_board_aspect p route.source Closed) (mode_is-valid p r Occupied within)
      (is_board_aspect-valid p route.source Closed (plant.routes_known r route known).source))))

  route_set_and_clear_past-valid : (r : ℕ) (route : Route) (i x : ℕ) → slice_get p.routes r ≡ Some route → slice_get route.path i ≡ Some x → tree_valid (ranges_of_plant p) (route_set_and_clear_past p r route i) ≡ true
  route_set_and_clear_past-valid r route i x known at =
      let less = slice_get_within route.path i x at in
      each_of-valid p plant (occupied_or_locked_source_closed p r route ∷ (no_section_seen_past r route i ++ map (no_train_at p) (drop (i + 1) route.path)))
      (more-valid p plant (occupied_or_locked_source_closed p r route) (no_section_seen_past r route i ++ map (no_train_at p) (drop (i + 1) route.path)) (occupied_or_locked_source_closed-valid r route known)
      (joined-valid p plant (no_section_seen_past r route i) (map (no_train_at p) (drop (i + 1) route.path)) (no_section_seen_past-valid r route i known less)
      (map-valid p plant (no_train_at p) (drop (i + 1) route.path) (λ k y there. no_train_at-valid p y (path_known p plant r route ((i + 1) + k) y known (dropped-at (i + 1) route.path k y there))))))

  instances-valid : (f : Dir → ℕ → List Tree) →
      ((d : Dir) (x : ℕ) → x < length p.sections → list_all (tree_valid (ranges_of_plant p)) (f d x) ≡ true) →
      tree_valid (ranges_of_plant p)
      (each_of (flat_map (λ x. f Up x ++ f Down x) (range_with_len 0 (length p.sections)))) ≡ true
  instances-valid f each =
      each_of-valid p plant (flat_map (λ x. f Up x ++ f Down x) (range_with_len 0 (length p.sections))) (flat_map-valid p plant (λ x. f Up x ++ f Down x) (range_with_len 0 (length p.sections)) (λ i x at.
      let within = (range_within (length p.sections) i x at).1 in joined-valid p plant (f Up x) (f Down x) (each Up x within) (each Down x within)))

  v7-valid : tree_valid (ranges_of_plant p) (v7_heads_have_routes_tree p) ≡ true
  v7-valid =
      instances-valid (head_has_route_set_at p) (λ d x within.
      if-valid p plant (continues_without_board p d x) (some_of (negation (head_at p d x) ∷ conditions_of_each_route p (route_set_for_head_at p d x)) ∷ []) (one-valid p plant (some_of (negation (head_at p d x) ∷ conditions_of_each_route p
      (route_set_for_head_at p d x)))
      (some_of-valid p plant (negation (head_at p d x) ∷ conditions_of_each_route p (route_set_for_head_at p d x)) (more-valid p plant (negation (head_at p d x)) (conditions_of_each_route p (route_set_for_head_at p d x)) (head_at-valid d x within)
      (routes-valid p plant (route_set_for_head_at p d x) (λ r route known.
      if-valid p plant (route_runs_in_direction p d route) (conditions_of_each_path_index route (λ i y. if y == x then route_set_and_clear_past p r route i ∷ [] else []))
      (places-valid p plant route (λ i y. if y == x then route_set_and_clear_past p r route i ∷ [] else []) (λ i y at.
      if-valid p plant (y == x) (route_set_and_clear_past p r route i ∷ []) (one-valid p plant (route_set_and_clear_past p r route i) (route_set_and_clear_past-valid r route i y known at))))))))))

  v8-valid : tree_valid (ranges_of_plant p) (v8_bodies_have_routes_tree p) ≡ true
  v8-valid =
      instances-valid (body_has_route_set_at p) (λ d x within.
      if-valid p plant (continues_without_board p d x) (some_of (negation (body_at p d x) ∷ conditions_of_each_route p (route_retains_in_direction p d x)) ∷ []) (one-valid p plant (some_of (negation (body_at p d x) ∷ conditions_of_each_route p
      (route_retains_in_direction p d x)))
      (some_of-valid p plant (negation (body_at p d x) ∷ conditions_of_each_route p (route_retains_in_direction p d x))
      (more-valid p plant (negation (body_at p d x)) (conditions_of_each_route p (route_retains_in_direction p d x)) (body_at-valid d x within)
      (routes-valid p plant (route_retains_in_direction p d x) (λ r route known.
      if-valid p plant (route_runs_in_direction p d route && contains_section x route.path)
      (section_retained_by r route x ∷ []) (one-valid p plant (section_retained_by r route x) (section_retained_by-valid p plant r route x known))))))))

  v9-valid : tree_valid (ranges_of_plant p) (v9_protecting_boards_closed_tree p) ≡ true
  v9-valid =
      each_of-valid p plant
      (conditions_of_each_route p
      (λ r route. map (λ m. implication (mode_is r Locked) (is_board_aspect p m Closed))
      route.protecting_boards)) (routes-valid p plant
      (λ r route. map (λ m. implication (mode_is r Locked) (is_board_aspect p m Closed)) route.protecting_boards)
      (λ r route known.
      map-valid p plant (λ m. implication (mode_is r Locked) (is_board_aspect p m Closed)) route.protecting_boards (λ i m at.
      implication-valid p plant (mode_is r Locked) (is_board_aspect p m Closed)
      (mode_is-valid p r Locked (slice_get_within p.routes r route known))
      (is_board_aspect-valid p m Closed
      (all-at (λ m. m < length p.boards) route.protecting_boards i m
      (plant.routes_known r route known).protecting_boards at)))))

  pub families-valid : list_all (tree_valid (ranges_of_plant p)) (family_trees p) ≡ true
  families-valid =
      more-valid p plant (v1_consistent_counts_tree p)
      (v2_sections_held_once_tree p ∷ v3_locks_match_routes_tree p ∷ v4_allocating_paths_vacant_tree p ∷ v5_open_needs_locked_tree p ∷ v6_points_match_modes_tree p ∷ v7_heads_have_routes_tree p ∷ v8_bodies_have_routes_tree p ∷
      v9_protecting_boards_closed_tree p ∷ [])
      (v1-valid p plant)
      (more-valid p plant (v2_sections_held_once_tree p)
      (v3_locks_match_routes_tree p ∷ v4_allocating_paths_vacant_tree p ∷ v5_open_needs_locked_tree p ∷ v6_points_match_modes_tree p ∷ v7_heads_have_routes_tree p ∷ v8_bodies_have_routes_tree p ∷ v9_protecting_boards_closed_tree p ∷ [])
      (v2-valid p plant)
      (more-valid p plant (v3_locks_match_routes_tree p)
      (v4_allocating_paths_vacant_tree p ∷ v5_open_needs_locked_tree p ∷ v6_points_match_modes_tree p ∷ v7_heads_have_routes_tree p ∷ v8_bodies_have_routes_tree p ∷ v9_protecting_boards_closed_tree p ∷ []) (v3-valid p plant)
      (more-valid p plant (v4_allocating_paths_vacant_tree p) (v5_open_needs_locked_tree p ∷ v6_points_match_modes_tree p ∷ v7_heads_have_routes_tree p ∷ v8_bodies_have_routes_tree p ∷ v9_protecting_boards_closed_tree p ∷ [])
      (v4-valid p plant)
      (more-valid p plant (v5_open_needs_locked_tree p) (v6_points_match_modes_tree p ∷ v7_heads_have_routes_tree p ∷ v8_bodies_have_routes_tree p ∷ v9_protecting_boards_closed_tree p ∷ [])
      (v5-valid p plant)
      (more-valid p plant (v6_points_match_modes_tree p) (v7_heads_have_routes_tree p ∷ v8_bodies_have_routes_tree p ∷ v9_protecting_boards_closed_tree p ∷ []) (v6-valid p plant)
      (more-valid p plant (v7_heads_have_routes_tree p) (v8_bodies_have_routes_tree p ∷ v9_protecting_boards_closed_tree p ∷ []) v7-valid
      (more-valid p plant (v8_bodies_have_routes_tree p) (v9_protecting_boards_closed_tree p ∷ []) v8-valid
      (one-valid p plant (v9_protecting_boards_closed_tree p) v9-valid))))))))

  pub family-valid : (j : ℕ) → tree_valid (ranges_of_plant p) (family_tree p j) ≡ true
  family-valid j = by_option (slice_get (family_trees p) (j - 1)) refl
    where
      by_option : (o : Option Tree) → slice_get (family_trees p) (j - 1) ≡ o → tree_valid (ranges_of_plant p) (unwrap_or o no) ≡ true
      by_option None e = refl
      by_option (Some t) e = list_all-slice_get (tree_valid (ranges_of_plant p)) (family_trees p) (j - 1) t families-valid e

  pub form-valid : (j : ℕ) (t : Tree) → t ≡ family_tree p j → tree_valid (ranges_of_plant p) t ≡ true
  form-valid j t is = ap (tree_valid (ranges_of_plant p)) is ∙ family-valid j
