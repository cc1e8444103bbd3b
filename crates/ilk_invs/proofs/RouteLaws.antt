-- The conditions of V1, V4, V5 and V9 hold for a state's image if and only if the state keeps these
-- families.
use Rattle.std.proofs.Common.{◌≡◌, ℕ, ◌+◌, ◌<◌, ◌≤◌, ◌==◌, Bool, true, false, not, ◌&&◌, ◌||◌, None, [], ◌∷◌, length, map, nat_le, nat_lt, slice_get, Some, refl, sym, ◌∙◌, ap, arith}
use Rattle.std.proofs.Math.Bool.{and-true, or-false}
use Rattle.std.specs.Prelude.{if◌then◌else◌}
use Rattle.std.specs.List.{list_all, list_any, range_with_len}
use Rattle.std.proofs.lemmas.Bool.Decides.{nat_tests}
use Rattle.std.proofs.lemmas.List.Folds.{list_all-map}
use Rattle.ilk_base.proofs.Tested.{all-pass}
use Rattle.ilk_base.proofs.ListTests.{all-at, list_all-alike}
use Rattle.ilk_base.proofs.Ranges.{range_within}
use Rattle.ilk_ir.specs.Tree.{negation, tree_holds}
use Rattle.ilk_plant.specs.Plant.{IsPlant, PlantLists}
use Rattle.ilk_plant.specs.Shape.{HasShape}
use Rattle.ilk_plant.specs.declared.state.Aspect.TheVariants.{Open, Closed}
use Rattle.ilk_plant.specs.declared.state.Mode.TheVariants.{Allocating, Locked, Occupied}
use Rattle.ilk_plant.specs.declared.state.RouteState.{RouteState}
use Rattle.ilk_plant.specs.declared.state.State.{State}
use Rattle.ilk_plant.specs.declared.table.Route.{Route}
use Rattle.ilk_plant.proofs.Shapes.{seen_and_released_fit_path-counts}
use Rattle.ilk_routes.specs.Boards.{has_aspect}
use Rattle.ilk_routes.specs.Modes.{same_mode}
use Rattle.ilk_model.specs.Families.{meets_v1_consistent_counts, meets_v4_allocating_paths_vacant, meets_v5_open_needs_locked, meets_v9_protecting_boards_closed}
use Rattle.ilk_model.specs.Hazard.{hazard}
use Rattle.ilk_model.specs.Holding.{is_vacant, any_route_passes_test}
use Rattle.ilk_layout.specs.Image.{image_of}
use Rattle.ilk_layout.specs.Conditions.{is_board_aspect, mode_is, is_released_count, is_seen_count}
use Rattle.ilk_layout.proofs.ConditionValues.{board-holds, mode-holds, rel-holds, seen-holds}
use Rattle.ilk_invs.specs.Held.{is_released_count_below}
use Rattle.ilk_invs.specs.Parts.{each_of, conditions_of_each_route, some_of, implication}
use Rattle.ilk_invs.specs.RouteFamilies.{counts_are_consistent, open_only_for_route, path_vacant, v1_consistent_counts_tree, v4_allocating_paths_vacant_tree, v5_open_needs_locked_tree, v9_protecting_boards_closed_tree}
use Rattle.ilk_invs.proofs.HeldLaws.{is_released_count_below-holds}
use Rattle.ilk_invs.proofs.PartLaws.{any-if, each-route, each_of-holds, some-route, some_of-holds, vacant-all, where-holds}
use Rattle.ilk_invs.proofs.Tests.{asked-at}

module _ (p : PlantLists) (plant : IsPlant p) (s : State) (shape : HasShape p s) where
  clause-holds : (r : ℕ) (now : RouteState) (k : ℕ) → slice_get s.routes r ≡ Some now →
      tree_holds (image_of p s)
      (some_of (negation (mode_is r Occupied) ∷ negation (is_seen_count r k) ∷ is_released_count_below r k ∷ []))
      ≡ (not (same_mode now.mode Occupied) || (not (now.seen == k) || nat_lt now.rel k))
  clause-holds r now k at =
      joined (tree_holds (image_of p s) (mode_is r Occupied)) (tree_holds (image_of p s) (is_seen_count r k))
      (tree_holds (image_of p s) (is_released_count_below r k)) (same_mode now.mode Occupied) (now.seen == k)
      (nat_lt now.rel k) (mode-holds p s shape r now Occupied at) (seen-holds p s shape r now k at)
      (is_released_count_below-holds p s shape r now k at)
    where
      joined : (a b c a2 b2 c2 : Bool) → a ≡ a2 → b ≡ b2 → c ≡ c2 → (not a || (not b || (c || false))) ≡ (not a2 || (not b2 || c2))
      joined a b c a2 b2 c2 one two three =
          ap (λ v. not v || (not b || (c || false))) one ∙ ap (λ v. not a2 || (not v || (c || false))) two ∙ ap (λ v. not a2 || (not b2 || v)) (or-false c ∙ three)

  clauses-hold : (r : ℕ) (route : Route) (now : RouteState) → slice_get p.routes r ≡ Some route →
      slice_get s.routes r ≡ Some now →
      list_all (tree_holds (image_of p s))
      (map (λ k. some_of (negation (mode_is r Occupied) ∷ negation (is_seen_count r k) ∷ is_released_count_below r k ∷ []))
      (range_with_len 0 (length route.path + 1)))
      ≡ (not (same_mode now.mode Occupied) || nat_lt now.rel now.seen)
  clauses-hold r route now known at =
      let fits = seen_and_released_fit_path-counts route now (shape.counts r route now known at) in
      let few = fits.0 in
      let within : now.seen < length route.path + 1 = omega (arith, few) in
      list_all-map (tree_holds (image_of p s)) (λ k. some_of (negation (mode_is r Occupied) ∷ negation (is_seen_count r k) ∷ is_released_count_below r k ∷ [])) (range_with_len 0 (length route.path + 1))
      ∙ list_all-alike
      (λ k. tree_holds (image_of p s)
      (some_of (negation (mode_is r Occupied) ∷ negation (is_seen_count r k) ∷ is_released_count_below r k ∷ [])))
      (λ k. not (same_mode now.mode Occupied) || (not (now.seen == k) || nat_lt now.rel k))
      (range_with_len 0 (length route.path + 1)) (λ i k found. clause-holds r now k at)
      ∙ by_mode (same_mode now.mode Occupied) within
    where
      by_mode : (b : Bool) → now.seen < length route.path + 1 → list_all (λ k. not b || (not (now.seen == k) || nat_lt now.rel k)) (range_with_len 0 (length route.path + 1)) ≡ (not b || nat_lt now.rel now.seen)
      by_mode true within = asked-at (λ k. nat_lt now.rel k) now.seen (length route.path + 1) within
      by_mode false within = all-pass (λ k. true) (range_with_len 0 (length route.path + 1)) (λ i k found. refl)

  v1-of : (r : ℕ) (route : Route) (now : RouteState) → slice_get p.routes r ≡ Some route →
      slice_get s.routes r ≡ Some now →
      list_all (tree_holds (image_of p s)) (counts_are_consistent r route ∷ [])
      ≡
      (if same_mode now.mode Occupied
      then nat_lt now.rel now.seen && nat_le now.seen (length route.path)
      else now.seen == 0 && now.rel == 0)
  v1-of r route now known at =
      let few : nat_le now.seen (length route.path) ≡ true = (fits_within route now (seen_and_released_fit_path-counts route now (shape.counts r route now known at)).0) in
      and-true (tree_holds (image_of p s) (counts_are_consistent r route))
      ∙ each_of-holds (image_of p s)
      (some_of (mode_is r Occupied ∷ is_seen_count r 0 ∷ []) ∷ some_of (mode_is r Occupied ∷ is_released_count r 0 ∷ [])
      ∷ map
      (λ k. some_of
      (negation (mode_is r Occupied) ∷ negation (is_seen_count r k) ∷ is_released_count_below r k ∷ []))
      (range_with_len 0 (length route.path + 1)))
      ∙ joined (tree_holds (image_of p s) (mode_is r Occupied)) (tree_holds (image_of p s) (is_seen_count r 0))
      (tree_holds (image_of p s) (is_released_count r 0))
      (list_all (tree_holds (image_of p s))
      (map
      (λ k. some_of
      (negation (mode_is r Occupied) ∷ negation (is_seen_count r k) ∷ is_released_count_below r k ∷ []))
      (range_with_len 0 (length route.path + 1))))
      (same_mode now.mode Occupied) (now.seen == 0) (now.rel == 0) (nat_lt now.rel now.seen)
      (mode-holds p s shape r now Occupied at) (seen-holds p s shape r now 0 at)
      (rel-holds p s shape r now 0 at) (clauses-hold r route now known at)
      ∙ ap (λ v. if same_mode now.mode Occupied then nat_lt now.rel now.seen && v else now.seen == 0 && now.rel == 0) (sym few)
    where
      fits_within : (route : Route) (now : RouteState) → now.seen ≤ length route.path → nat_le now.seen (length route.path) ≡ true
      fits_within route now h = grind (arith, nat_tests)

      by_mode : (m a b c : Bool) → ((m || (a || false)) && ((m || (b || false)) && (not m || c))) ≡ (if m then c && true else a && b)
      by_mode true a b true = refl
      by_mode true a b false = refl
      by_mode false true true c = refl
      by_mode false true false c = refl
      by_mode false false b c = refl

      joined : (m a b d m2 a2 b2 c : Bool) → m ≡ m2 → a ≡ a2 → b ≡ b2 → d ≡ (not m2 || c) → ((m || (a || false)) && ((m || (b || false)) && d)) ≡ (if m2 then c && true else a2 && b2)
      joined m a b d m2 a2 b2 c one two three four =
          ap (λ v. (v || (a || false)) && ((v || (b || false)) && d)) one
          ∙ ap (λ v. (m2 || (v || false)) && ((m2 || (b || false)) && d)) two
          ∙ ap (λ v. (m2 || (a2 || false)) && ((m2 || (v || false)) && d)) three
          ∙ ap (λ v. (m2 || (a2 || false)) && ((m2 || (b2 || false)) && v)) four
          ∙ by_mode m2 a2 b2 c

  pub v1-law : tree_holds (image_of p s) (v1_consistent_counts_tree p) ≡ meets_v1_consistent_counts p s
  v1-law =
      each_of-holds (image_of p s) (conditions_of_each_route p (λ r route. counts_are_consistent r route ∷ []))
      ∙ each-route p s shape (image_of p s) (λ r route. counts_are_consistent r route ∷ []) (λ route now. if same_mode now.mode Occupied then nat_lt now.rel now.seen && nat_le now.seen (length route.path) else now.seen == 0 && now.rel == 0) v1-of

  v9-of : (r : ℕ) (route : Route) (now : RouteState) → slice_get p.routes r ≡ Some route →
      slice_get s.routes r ≡ Some now →
      list_all (tree_holds (image_of p s))
      (map (λ m. implication (mode_is r Locked) (is_board_aspect p m Closed)) route.protecting_boards)
      ≡
      (if same_mode now.mode Locked
      then list_all (λ m. has_aspect s m Closed) route.protecting_boards else true)
  v9-of r route now known at =
      list_all-map (tree_holds (image_of p s)) (λ m. implication (mode_is r Locked) (is_board_aspect p m Closed)) route.protecting_boards
      ∙ list_all-alike (λ m. tree_holds (image_of p s) (implication (mode_is r Locked) (is_board_aspect p m Closed))) (λ m. if same_mode now.mode Locked then has_aspect s m Closed else true) route.protecting_boards (λ i m found.
      where-holds (image_of p s) (mode_is r Locked) (is_board_aspect p m Closed) (same_mode now.mode Locked)
      (has_aspect s m Closed) (mode-holds p s shape r now Locked at)
      (board-holds p s shape m Closed
      (all-at (λ m. m < length p.boards) route.protecting_boards i m
      (plant.routes_known r route known).protecting_boards found)))
      ∙ by_mode (same_mode now.mode Locked)
    where
      by_mode : (b : Bool) → list_all (λ m. if b then has_aspect s m Closed else true) route.protecting_boards ≡ (if b then list_all (λ m. has_aspect s m Closed) route.protecting_boards else true)
      by_mode true = refl
      by_mode false = all-pass (λ m. true) route.protecting_boards (λ i m found. refl)

  pub v9-law : tree_holds (image_of p s) (v9_protecting_boards_closed_tree p) ≡ meets_v9_protecting_boards_closed p s
  v9-law =
      each_of-holds (image_of p s) (conditions_of_each_route p (λ r route. map (λ m. implication (mode_is r Locked) (is_board_aspect p m Closed)) route.protecting_boards))
      ∙ each-route p s shape (image_of p s)
      (λ r route. map (λ m. implication (mode_is r Locked) (is_board_aspect p m Closed)) route.protecting_boards)
      (λ route now. if same_mode now.mode Locked
      then list_all (λ m. has_aspect s m Closed) route.protecting_boards else true) v9-of

  pub path_vacant-holds : hazard p s ≡ None → (r : ℕ) (route : Route) → slice_get p.routes r ≡ Some route → list_all (tree_holds (image_of p s)) (path_vacant p route) ≡ list_all (is_vacant s) route.path
  path_vacant-holds calm r route known =
      vacant-all p s shape calm route.path (λ i x found. all-at (λ x. x < length p.sections) route.path i x (plant.routes_known r route known).path found)

  v4-of : hazard p s ≡ None → (r : ℕ) (route : Route) (now : RouteState) → slice_get p.routes r ≡ Some route →
      slice_get s.routes r ≡ Some now →
      list_all (tree_holds (image_of p s))
      (implication (mode_is r Allocating) (each_of (path_vacant p route)) ∷ [])
      ≡ (if same_mode now.mode Allocating then list_all (is_vacant s) route.path else true)
  v4-of calm r route now known at =
      and-true (tree_holds (image_of p s) (implication (mode_is r Allocating) (each_of (path_vacant p route))))
      ∙ where-holds (image_of p s) (mode_is r Allocating) (each_of (path_vacant p route))
      (same_mode now.mode Allocating) (list_all (is_vacant s) route.path)
      (mode-holds p s shape r now Allocating at)
      (each_of-holds (image_of p s) (path_vacant p route) ∙ path_vacant-holds calm r route known)

  pub v4-law : hazard p s ≡ None → tree_holds (image_of p s) (v4_allocating_paths_vacant_tree p) ≡ meets_v4_allocating_paths_vacant p s
  v4-law calm =
      each_of-holds (image_of p s) (conditions_of_each_route p (λ r route. implication (mode_is r Allocating) (each_of (path_vacant p route)) ∷ []))
      ∙ each-route p s shape (image_of p s) (λ r route. implication (mode_is r Allocating) (each_of (path_vacant p route)) ∷ []) (λ route now. if same_mode now.mode Allocating then list_all (is_vacant s) route.path else true) (v4-of calm)

  ready-of : hazard p s ≡ None → (m r : ℕ) (route : Route) (now : RouteState) →
      slice_get p.routes r ≡ Some route → slice_get s.routes r ≡ Some now →
      list_any (tree_holds (image_of p s))
      (if route.source == m then each_of (mode_is r Locked ∷ path_vacant p route) ∷ [] else [])
      ≡ ((route.source == m) && same_mode now.mode Locked && list_all (is_vacant s) route.path)
  ready-of calm m r route now known at =
      let locked = mode-holds p s shape r now Locked at in
      let vacant = path_vacant-holds calm r route known in
      any-if (image_of p s) (each_of (mode_is r Locked ∷ path_vacant p route)) (route.source == m)
      ∙ ap (λ b. (route.source == m) && b) (each_of-holds (image_of p s) (mode_is r Locked ∷ path_vacant p route) ∙ ap (λ b. b && list_all (tree_holds (image_of p s)) (path_vacant p route)) locked ∙ ap (λ b. same_mode now.mode Locked && b) vacant)
      ∙ joined (route.source == m) (same_mode now.mode Locked) (list_all (is_vacant s) route.path)
    where
      joined : (a b c : Bool) → (a && (b && c)) ≡ (a && b && c)
      joined true true c = refl
      joined true false c = refl
      joined false b c = refl

  v5-of : hazard p s ≡ None → (m : ℕ) → m < length p.boards →
      tree_holds (image_of p s) (open_only_for_route p m)
      ≡
      (if has_aspect s m Open
      then any_route_passes_test p s
      (λ route now. (route.source == m) && same_mode now.mode Locked
      && list_all (is_vacant s) route.path) else true)
  v5-of calm m within =
      let open_now = board-holds p s shape m Open within in
      let ready = some-route p s shape (image_of p s)
      (λ r route. if route.source == m then each_of (mode_is r Locked ∷ path_vacant p route) ∷ [] else [])
      (λ route now. (route.source == m) && same_mode now.mode Locked && list_all (is_vacant s) route.path)
      (ready-of calm m) in
      some_of-holds (image_of p s) (negation (is_board_aspect p m Open) ∷ conditions_of_each_route p (λ r route. if route.source == m then each_of (mode_is r Locked ∷ path_vacant p route) ∷ [] else []))
      ∙ ap (λ b. not b || list_any (tree_holds (image_of p s)) (conditions_of_each_route p (λ r route. if route.source == m then each_of (mode_is r Locked ∷ path_vacant p route) ∷ [] else []))) open_now
      ∙ ap (λ b. not (has_aspect s m Open) || b) ready
      ∙ by_aspect (has_aspect s m Open) (any_route_passes_test p s (λ route now. (route.source == m) && same_mode now.mode Locked && list_all (is_vacant s) route.path))
    where
      by_aspect : (a b : Bool) → (not a || b) ≡ (if a then b else true)
      by_aspect true b = refl
      by_aspect false b = refl

  pub v5-law : hazard p s ≡ None → tree_holds (image_of p s) (v5_open_needs_locked_tree p) ≡ meets_v5_open_needs_locked p s
  v5-law calm =
      each_of-holds (image_of p s) (map (open_only_for_route p) (range_with_len 0 (length p.boards)))
      ∙ list_all-map (tree_holds (image_of p s)) (open_only_for_route p) (range_with_len 0 (length p.boards))
      ∙ list_all-alike (λ m. tree_holds (image_of p s) (open_only_for_route p m))
      (λ m. if has_aspect s m Open
      then any_route_passes_test p s
      (λ route now. (route.source == m) && same_mode now.mode Locked
      && list_all (is_vacant s) route.path) else true)
      (range_with_len 0 (length p.boards))
      (λ i m at. v5-of calm m (range_within (length p.boards) i m at).1)
