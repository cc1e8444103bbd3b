use Rattle.std.proofs.Common.{◌≡◌, ℕ, zero, suc, ◌+◌, ◌/◌, ◌<◌, ◌≤◌, ◌==◌, Bool, true, false, Some, List, [], ◌∷◌, ◌++◌, drop, length, map, nat_le, slice_get, take, ◌∙◌, arith, if◌then◌else◌}
use Rattle.std.specs.List.{enumerate_from, flat_map, list_all, range_with_len}
use Rattle.std.proofs.lemmas.List.Folds.{list_all-map}
use Rattle.std.proofs.lemmas.Option.{slice_get_within}
use Rattle.ilk_base.proofs.Ranges.{range_within}
use Rattle.ilk_ir.specs.Tree.{negation, tree_valid}
use Rattle.ilk_plant.specs.Plant.{IsPlant, PlantLists}
use Rattle.ilk_plant.specs.declared.state.Aspect.TheVariants.{Open}
use Rattle.ilk_plant.specs.declared.state.Hold.TheVariants.{Locked as LockedLock, Used as UsedLock}
use Rattle.ilk_plant.specs.declared.state.Mode.TheVariants.{Allocating, Locked, Occupied}
use Rattle.ilk_plant.specs.declared.table.Listed.{Listed}
use Rattle.ilk_plant.specs.declared.table.Route.{Route}
use Rattle.ilk_routes.specs.Claims.{sections_outside_path}
use Rattle.ilk_layout.specs.Variables.{ranges_of_plant}
use Rattle.ilk_layout.specs.Conditions.{is_board_aspect, is_listed_point_commanded, is_listed_point_detected, lock_is, mode_is, is_released_count, is_seen_count}
use Rattle.ilk_layout.proofs.Listed.{is_listed_point_commanded-valid}
use Rattle.ilk_layout.proofs.Valid.{is_board_aspect-valid, is_listed_point_detected-valid, lock_is-valid, mode_is-valid, is_released_count-valid, is_seen_count-valid}
use Rattle.ilk_invs.specs.Held.{path_section_held, section_held_by, section_retained_by, mode_holds_sections, is_released_count_below, is_seen_count_below}
use Rattle.ilk_invs.specs.declared.hold_family.TheConstants.{MAX_ORDERED_HOLDERS}
use Rattle.ilk_invs.specs.HoldFamilies.{at_most_one_by_halves, at_most_one_in_order, at_most_one_holder, possible_holders, path_lock_matches_seen, held_sections_have_locks, none_before_if_holding, none_holding, not_held_by_both_groups, route_holding, v2_sections_held_once_tree, v3_locks_match_routes_tree}
use Rattle.ilk_invs.specs.Parts.{each_of, conditions_of_each_path_index, conditions_of_each_route, some_of, implication}
use Rattle.ilk_invs.specs.PointFamily.{listed_points_on_path, point_matches_route_mode, v6_points_match_modes_tree}
use Rattle.ilk_invs.specs.RouteFamilies.{counts_are_consistent, open_only_for_route, path_vacant, v1_consistent_counts_tree, v4_allocating_paths_vacant_tree, v5_open_needs_locked_tree}
use Rattle.ilk_routes.proofs.Shape.{beside-known}
use Rattle.ilk_invs.proofs.ValidParts.{conditions_for_optional_value-valid, each_of-valid, flat_map-valid, section_held_by-valid, if-valid, mode_holds_sections-valid, joined-valid, map-valid, more-valid, one-valid, path_known, path_section_held-valid, path_vacant-valid, places-valid, is_released_count_below-valid, routes-valid, section_retained_by-valid, is_seen_count_below-valid, some_of-valid, three-valid, two-valid, implication-valid}

module _ (p : PlantLists) (plant : IsPlant p) where
  pub v1-valid : tree_valid (ranges_of_plant p) (v1_consistent_counts_tree p) ≡ true
  v1-valid =
      each_of-valid p plant (conditions_of_each_route p (λ r route. counts_are_consistent r route ∷ []))
      (routes-valid p plant (λ r route. counts_are_consistent r route ∷ [])
      (λ r route known. one-valid p plant (counts_are_consistent r route)
      (of_route r route known (slice_get_within p.routes r route known))))
    where
      of_count : (r : ℕ) (route : Route) (k : ℕ) → slice_get p.routes r ≡ Some route → r < length p.routes →
          k ≤ length route.path →
          tree_valid (ranges_of_plant p)
          (some_of (negation (mode_is r Occupied) ∷ negation (is_seen_count r k) ∷ is_released_count_below r k ∷ [])) ≡ true
      of_count r route k known within few =
          some_of-valid p plant (negation (mode_is r Occupied) ∷ negation (is_seen_count r k) ∷ is_released_count_below r k ∷ [])
          (three-valid p plant (negation (mode_is r Occupied)) (negation (is_seen_count r k)) (is_released_count_below r k)
          (mode_is-valid p r Occupied within) (is_seen_count-valid p r k route known few)
          (is_released_count_below-valid p plant r k route known (omega (arith, few))))

      of_route : (r : ℕ) (route : Route) → slice_get p.routes r ≡ Some route → r < length p.routes → tree_valid (ranges_of_plant p) (counts_are_consistent r route) ≡ true
      of_route r route known within =
          each_of-valid p plant
          (some_of (mode_is r Occupied ∷ is_seen_count r 0 ∷ [])
          ∷ some_of (mode_is r Occupied ∷ is_released_count r 0 ∷ [])
          ∷ map
          (λ k. some_of
          (negation (mode_is r Occupied) ∷ negation (is_seen_count r k) ∷ is_released_count_below r k ∷ []))
          (range_with_len 0 (length route.path + 1)))
          (more-valid p plant (some_of (mode_is r Occupied ∷ is_seen_count r 0 ∷ []))
          (some_of (mode_is r Occupied ∷ is_released_count r 0 ∷ [])
          ∷ map
          (λ k. some_of
          (negation (mode_is r Occupied) ∷ negation (is_seen_count r k) ∷ is_released_count_below r k ∷ []))
          (range_with_len 0 (length route.path + 1)))
          (some_of-valid p plant (mode_is r Occupied ∷ is_seen_count r 0 ∷ []) (two-valid p plant (mode_is r Occupied) (is_seen_count r 0) (mode_is-valid p r Occupied within) (is_seen_count-valid p r 0 route known (omega arith))))
          (more-valid p plant (some_of (mode_is r Occupied ∷ is_released_count r 0 ∷ []))
          (map (λ k. some_of (negation (mode_is r Occupied) ∷ negation (is_seen_count r k) ∷ is_released_count_below r k ∷ [])) (range_with_len 0 (length route.path + 1)))
          (some_of-valid p plant (mode_is r Occupied ∷ is_released_count r 0 ∷ []) (two-valid p plant (mode_is r Occupied) (is_released_count r 0) (mode_is-valid p r Occupied within) (is_released_count-valid p r 0 route known (omega arith))))
          (map-valid p plant (λ k. some_of (negation (mode_is r Occupied) ∷ negation (is_seen_count r k) ∷ is_released_count_below r k ∷ [])) (range_with_len 0 (length route.path + 1)) (λ i k at.
          let below = (range_within (length route.path + 1) i k at).1 in of_count r route k known within (omega (arith, below))))))

  pub v2-valid : tree_valid (ranges_of_plant p) (v2_sections_held_once_tree p) ≡ true
  v2-valid =
      each_of-valid p plant (flat_map (at_most_one_holder p) (range_with_len 0 (length p.sections))) (flat_map-valid p plant (at_most_one_holder p) (range_with_len 0 (length p.sections)) (λ i x at. by_halves (length
      (possible_holders p x)) x (possible_holders p x)))
    where
      holding : (x r : ℕ) → list_all (tree_valid (ranges_of_plant p)) (route_holding p x r) ≡ true
      holding x r =
          conditions_for_optional_value-valid p plant (slice_get p.routes r) (λ route. section_held_by r route x ∷ []) (λ route known. one-valid p plant (section_held_by r route x) (section_held_by-valid p plant r route x known))

      none : (x : ℕ) (routes : List ℕ) → tree_valid (ranges_of_plant p) (none_holding p x routes) ≡ true
      none x routes =
          each_of-valid p plant (map negation (flat_map (route_holding p x) routes))
          (list_all-map (tree_valid (ranges_of_plant p)) negation (flat_map (route_holding p x) routes)
          ∙ flat_map-valid p plant (route_holding p x) routes (λ i q at. holding x q))

      in_order : (x : ℕ) (routes : List ℕ) → list_all (tree_valid (ranges_of_plant p)) (at_most_one_in_order p x routes) ≡ true
      in_order x routes =
          map-valid p plant (λ place. none_before_if_holding p x (take place.0 routes) place.1) (enumerate_from 1 (drop 1 routes)) (λ k place there.
          implication-valid p plant (each_of (route_holding p x place.1)) (none_holding p x (take place.0 routes)) (each_of-valid p plant (route_holding p x place.1) (holding x place.1)) (none x (take place.0 routes)))

      by_halves : (n x : ℕ) (routes : List ℕ) → list_all (tree_valid (ranges_of_plant p)) (at_most_one_by_halves n p x routes) ≡ true
      by_halves zero x routes = in_order x routes
      by_halves (suc n) x routes =
          by_size (nat_le (length routes) MAX_ORDERED_HOLDERS) (by_halves n x (take (length routes / 2) routes)) (by_halves n x (drop (length routes / 2) routes))
        where
          by_size : (few : Bool) →
              list_all (tree_valid (ranges_of_plant p))
              (at_most_one_by_halves n p x (take (length routes / 2) routes)) ≡ true →
              list_all (tree_valid (ranges_of_plant p))
              (at_most_one_by_halves n p x (drop (length routes / 2) routes)) ≡ true →
              list_all (tree_valid (ranges_of_plant p))
              (if few then at_most_one_in_order p x routes
              else not_held_by_both_groups p x (take (length routes / 2) routes)
              (drop (length routes / 2) routes)
              ∷ at_most_one_by_halves n p x (take (length routes / 2) routes)
              ++ at_most_one_by_halves n p x (drop (length routes / 2) routes)) ≡ true
          by_size true here there = in_order x routes
          by_size false here there =
              more-valid p plant (not_held_by_both_groups p x (take (length routes / 2) routes) (drop (length routes / 2) routes)) (at_most_one_by_halves n p x (take (length routes / 2) routes) ++
              at_most_one_by_halves n p x (drop (length routes / 2) routes))
              (some_of-valid p plant
              (none_holding p x (take (length routes / 2) routes)
              ∷ none_holding p x (drop (length routes / 2) routes) ∷ [])
              (two-valid p plant (none_holding p x (take (length routes / 2) routes))
              (none_holding p x (drop (length routes / 2) routes))
              (none x (take (length routes / 2) routes)) (none x (drop (length routes / 2) routes))))
              (joined-valid p plant (at_most_one_by_halves n p x (take (length routes / 2) routes)) (at_most_one_by_halves n p x (drop (length routes / 2) routes)) here there)

  pub v3-valid : tree_valid (ranges_of_plant p) (v3_locks_match_routes_tree p) ≡ true
  v3-valid =
      each_of-valid p plant (conditions_of_each_route p (held_sections_have_locks p)) (routes-valid p plant (held_sections_have_locks p) (λ r route known.
      joined-valid p plant (conditions_of_each_path_index route (path_lock_matches_seen p r))
      (map (λ x. implication (mode_holds_sections r) (lock_is p x LockedLock)) (sections_outside_path route))
      (places-valid p plant route (path_lock_matches_seen p r) (λ i x at. of_place r route i x known at (slice_get_within route.path i x at)))
      (map-valid p plant (λ x. implication (mode_holds_sections r) (lock_is p x LockedLock)) (sections_outside_path route) (λ i x at.
      implication-valid p plant (mode_holds_sections r) (lock_is p x LockedLock)
      (mode_holds_sections-valid p plant r (slice_get_within p.routes r route known))
      (lock_is-valid p x LockedLock (beside-known p route (plant.routes_known r route known) i x at))))))
    where
      of_place : (r : ℕ) (route : Route) (i x : ℕ) → slice_get p.routes r ≡ Some route → slice_get route.path i ≡ Some x → i < length route.path → list_all (tree_valid (ranges_of_plant p)) (path_lock_matches_seen p r i x) ≡ true
      of_place r route i x known at less =
          let held = path_section_held-valid p plant r i route known less in
          let seen = is_seen_count_below-valid p plant r (i + 1) route known (omega (arith, less)) in
          let inside = path_known p plant r route i x known at in
          two-valid p plant (some_of (negation (path_section_held r i) ∷ negation (is_seen_count_below r (i + 1)) ∷ lock_is p x LockedLock ∷ []))
          (some_of (negation (path_section_held r i) ∷ is_seen_count_below r (i + 1) ∷ lock_is p x UsedLock ∷ []))
          (some_of-valid p plant (negation (path_section_held r i) ∷ negation (is_seen_count_below r (i + 1)) ∷ lock_is p x LockedLock ∷ [])
          (three-valid p plant (negation (path_section_held r i)) (negation (is_seen_count_below r (i + 1)))
          (lock_is p x LockedLock) held seen (lock_is-valid p x LockedLock inside)))
          (some_of-valid p plant (negation (path_section_held r i) ∷ is_seen_count_below r (i + 1) ∷ lock_is p x UsedLock ∷ [])
          (three-valid p plant (negation (path_section_held r i)) (is_seen_count_below r (i + 1))
          (lock_is p x UsedLock) held seen (lock_is-valid p x UsedLock inside)))

  pub v4-valid : tree_valid (ranges_of_plant p) (v4_allocating_paths_vacant_tree p) ≡ true
  v4-valid =
      each_of-valid p plant
      (conditions_of_each_route p
      (λ r route. implication (mode_is r Allocating) (each_of (path_vacant p route)) ∷ []))
      (routes-valid p plant
      (λ r route. implication (mode_is r Allocating) (each_of (path_vacant p route)) ∷ []) (λ r route
      known.
      one-valid p plant (implication (mode_is r Allocating) (each_of (path_vacant p route)))
      (implication-valid p plant (mode_is r Allocating) (each_of (path_vacant p route))
      (mode_is-valid p r Allocating (slice_get_within p.routes r route known))
      (each_of-valid p plant (path_vacant p route) (path_vacant-valid p plant r route known)))))

  pub v5-valid : tree_valid (ranges_of_plant p) (v5_open_needs_locked_tree p) ≡ true
  v5-valid =
      each_of-valid p plant (map (open_only_for_route p) (range_with_len 0 (length p.boards))) (map-valid p plant (open_only_for_route p) (range_with_len 0 (length p.boards)) (λ i m at.
      some_of-valid p plant (negation (is_board_aspect p m Open) ∷ conditions_of_each_route p (λ r route. if route.source == m then each_of (mode_is r Locked ∷ path_vacant p route) ∷ [] else []))
      (more-valid p plant (negation (is_board_aspect p m Open)) (conditions_of_each_route p (λ r route. if route.source == m then each_of (mode_is r Locked ∷ path_vacant p route) ∷ [] else [])) (is_board_aspect-valid p m Open (range_within
      (length p.boards) i m at).1)
      (routes-valid p plant (λ r route. if route.source == m then each_of (mode_is r Locked ∷ path_vacant p route) ∷ [] else []) (λ r route known.
      if-valid p plant (route.source == m) (each_of (mode_is r Locked ∷ path_vacant p route) ∷ [])
      (one-valid p plant (each_of (mode_is r Locked ∷ path_vacant p route))
      (each_of-valid p plant (mode_is r Locked ∷ path_vacant p route)
      (more-valid p plant (mode_is r Locked) (path_vacant p route)
      (mode_is-valid p r Locked (slice_get_within p.routes r route known))
      (path_vacant-valid p plant r route known)))))))))

  pub v6-valid : tree_valid (ranges_of_plant p) (v6_points_match_modes_tree p) ≡ true
  v6-valid =
      each_of-valid p plant (conditions_of_each_route p (λ r route. flat_map (point_matches_route_mode p r route) (listed_points_on_path route))) (routes-valid p plant (λ r route. flat_map (point_matches_route_mode p r route)
      (listed_points_on_path route)) (λ r route known.
      flat_map-valid p plant (point_matches_route_mode p r route) (listed_points_on_path route) (λ i listed at. of_point r route listed known)))
    where
      of_point : (r : ℕ) (route : Route) (listed : Listed) → slice_get p.routes r ≡ Some route → list_all (tree_valid (ranges_of_plant p)) (point_matches_route_mode p r route listed) ≡ true
      of_point r route listed known =
          let commanded = is_listed_point_commanded-valid p listed in
          let retained = section_retained_by-valid p plant r route listed.point known in
          three-valid p plant (implication (mode_is r Allocating) (is_listed_point_commanded p listed))
          (implication (section_retained_by r route listed.point) (is_listed_point_commanded p listed))
          (implication (section_retained_by r route listed.point) (is_listed_point_detected p listed))
          (implication-valid p plant (mode_is r Allocating) (is_listed_point_commanded p listed) (mode_is-valid p r Allocating (slice_get_within p.routes r route known)) commanded)
          (implication-valid p plant (section_retained_by r route listed.point) (is_listed_point_commanded p listed) retained commanded)
          (implication-valid p plant (section_retained_by r route listed.point) (is_listed_point_detected p listed) retained (is_listed_point_detected-valid p listed))
