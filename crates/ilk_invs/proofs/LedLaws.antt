-- The condition that a route leads a train holds if and only if it does in the state.
use Rattle.std.proofs.Common.{◌≡◌, ℕ, ◌+◌, ◌<◌, ◌≤◌, ◌==◌, Bool, true, false, ◌&&◌, ◌||◌, Some, None, [], ◌∷◌, ◌++◌, drop, inl, inr, length, map, nat_le, nat_lt, slice_get, refl, sym, ◌∙◌, ap, arith}
use Rattle.std.proofs.Math.Bool.{and-true, or-false}
use Rattle.std.specs.Prelude.{if◌then◌else◌}
use Rattle.std.specs.List.{enumerate_from, list_all, list_any}
use Rattle.std.proofs.lemmas.Bool.{cases_lt}
use Rattle.std.proofs.lemmas.Bool.Decides.{nat_tests}
use Rattle.std.proofs.lemmas.List.Folds.{list_all-append}
use Rattle.ilk_base.proofs.ListTests.{all-at}
use Rattle.ilk_ir.specs.Tree.{tree_holds}
use Rattle.ilk_plant.specs.Plant.{IsPlant, PlantLists}
use Rattle.ilk_plant.specs.Shape.{HasShape}
use Rattle.ilk_plant.proofs.Shapes.{seen_and_released_fit_path-counts}
use Rattle.ilk_plant.specs.declared.network.Dir.{Dir}
use Rattle.ilk_plant.specs.declared.network.Dir.TheVariants.{Up, Down}
use Rattle.ilk_plant.specs.declared.state.Aspect.TheVariants.{Closed}
use Rattle.ilk_plant.specs.declared.state.Mode.TheVariants.{Locked, Occupied}
use Rattle.ilk_plant.specs.declared.state.RouteState.{RouteState}
use Rattle.ilk_plant.specs.declared.state.State.{State}
use Rattle.ilk_plant.specs.declared.table.Route.{Route}
use Rattle.ilk_routes.specs.Boards.{has_aspect}
use Rattle.ilk_routes.specs.Modes.{same_mode}
use Rattle.ilk_model.specs.Families.{head_is_led_by_route}
use Rattle.ilk_model.specs.Hazard.{hazard}
use Rattle.ilk_model.specs.Holding.{is_locked_or_occupied, is_vacant, route_runs_in_direction, any_path_index_passes_test}
use Rattle.ilk_layout.specs.Image.{image_of}
use Rattle.ilk_layout.specs.Occupancy.{occupancy_or_crash}
use Rattle.ilk_layout.specs.declared.values.Occupancy.TheVariants.{Vacant, Taken, Crash}
use Rattle.ilk_layout.specs.Conditions.{is_board_aspect, mode_is, no_train_at}
use Rattle.ilk_layout.proofs.ConditionValues.{board-holds, mode-holds, occupancy-holds}
use Rattle.ilk_invs.specs.Held.{route_locked_or_occupied, is_seen_count_below}
use Rattle.ilk_invs.specs.Parts.{conditions_of_each_path_index, conditions_of_each_route, some_of}
use Rattle.ilk_invs.specs.TrainFamilies.{body_at, head_at, route_set_for_head_at, occupied_or_locked_source_closed, route_set_and_clear_past, no_section_seen_past}
use Rattle.ilk_invs.proofs.HeldLaws.{below-next, route_locked_or_occupied-holds, is_seen_count_below-holds}
use Rattle.ilk_invs.proofs.PartLaws.{any-if, each_of-holds, marked_pair-holds, some-place, some-route, vacant-all}
use Rattle.ilk_invs.proofs.Tests.{dropped-at, list_any-never}
use Rattle.ilk_invs.proofs.OccupancyLaws.{down-values, has_head_in, has_train_in, head-values, up-values}

module _ (p : PlantLists) (plant : IsPlant p) (s : State) (shape : HasShape p s) (calm : hazard p s ≡ None) where
  pub head_at-holds : (d : Dir) (x : ℕ) → x < length p.sections → tree_holds (image_of p s) (head_at p d x) ≡ has_head_in d (occupancy_or_crash p s x)
  head_at-holds d x within =
      let one = occupancy-holds p s shape x (Taken d false true) within in
      let two = occupancy-holds p s shape x (Taken d true true) within in
      rw (one, two) (head-values d (occupancy_or_crash p s x))

  pub body_at-holds : (d : Dir) (x : ℕ) → x < length p.sections → tree_holds (image_of p s) (body_at p d x) ≡ has_train_in d (occupancy_or_crash p s x)
  body_at-holds Up x within =
      let vacant = occupancy-holds p s shape x Vacant within in
      let one = occupancy-holds p s shape x (Taken Up false false) within in
      let two = occupancy-holds p s shape x (Taken Up false true) within in
      let three = occupancy-holds p s shape x (Taken Up true false) within in
      let four = occupancy-holds p s shape x (Taken Up true true) within in
      rw (vacant, one, two, three, four) (up-values (occupancy_or_crash p s x))
  body_at-holds Down x within =
      let vacant = occupancy-holds p s shape x Vacant within in
      let one = occupancy-holds p s shape x (Taken Up false false) within in
      let two = occupancy-holds p s shape x (Taken Up false true) within in
      let three = occupancy-holds p s shape x (Taken Up true false) within in
      let four = occupancy-holds p s shape x (Taken Up true true) within in
      let crash = occupancy-holds p s shape x Crash within in
      rw (vacant, one, two, three, four, crash) (down-values (occupancy_or_crash p s x))

  no_section_seen_past-holds : (r : ℕ) (route : Route) (now : RouteState) (i : ℕ) → slice_get p.routes r ≡ Some route → slice_get s.routes r ≡ Some now → list_all (tree_holds (image_of p s)) (no_section_seen_past r route i) ≡ nat_le now.seen (i + 1)
  no_section_seen_past-holds r route now i known at = elim (cases_lt (i + 1) (length route.path)) [
    | inl before ↦
        (let goes_on : nat_lt (i + 1) (length route.path) ≡ true = grind (arith, nat_tests) in
        let two : i + 2 ≡ i + 1 + 1 = omega arith in
        rw goes_on (and-true (tree_holds (image_of p s) (is_seen_count_below r (i + 2))) ∙ is_seen_count_below-holds p s shape r now (i + 2) at ∙ ap (nat_lt now.seen) two ∙ below-next now.seen (i + 1)))
    | inr past ↦
        (let ends : nat_lt (i + 1) (length route.path) ≡ false = grind (arith, nat_tests) in
        let few : now.seen ≤ length route.path = (seen_and_released_fit_path-counts route now (shape.counts r route now known at)).0 in
        let within : nat_le now.seen (i + 1) ≡ true = grind (arith, nat_tests) in
        rw ends (sym within))
  ]

  occupied_or_locked_source_closed-holds : (r : ℕ) (route : Route) (now : RouteState) → slice_get p.routes r ≡ Some route → slice_get s.routes r ≡ Some now →
      tree_holds (image_of p s) (occupied_or_locked_source_closed p r route) ≡ (same_mode now.mode Occupied || (same_mode now.mode Locked && has_aspect s route.source Closed))
  occupied_or_locked_source_closed-holds r route now known at =
      let occupied = mode-holds p s shape r now Occupied at in
      let closed = board-holds p s shape route.source Closed (plant.routes_known r route known).source in
      let either : tree_holds (image_of p s) (some_of (mode_is r Occupied ∷ is_board_aspect p route.source Closed ∷ [])) ≡ (same_mode now.mode Occupied || has_aspect s route.source Closed) =
      rw (occupied, closed) (ap (λ v. same_mode now.mode Occupied || v) (or-false (has_aspect s route.source Closed))) in
      marked_pair-holds (image_of p s) (route_locked_or_occupied r) (some_of (mode_is r Occupied ∷ is_board_aspect p route.source Closed ∷ [])) (is_locked_or_occupied now) (same_mode now.mode Occupied || has_aspect s route.source Closed)
      (route_locked_or_occupied-holds p s shape r now at) either
      ∙ entered (same_mode now.mode Locked) (same_mode now.mode Occupied) (has_aspect s route.source Closed)
    where
      entered : (l o c : Bool) → ((l || o) && (o || c)) ≡ (o || (l && c))
      entered true true c = refl
      entered true false c = refl
      entered false true c = refl
      entered false false c = refl

  route_set_and_clear_past-holds : (r : ℕ) (route : Route) (now : RouteState) (i : ℕ) → slice_get p.routes r ≡ Some route →
      slice_get s.routes r ≡ Some now →
      tree_holds (image_of p s) (route_set_and_clear_past p r route i)
      ≡
      ((same_mode now.mode Occupied
      || (same_mode now.mode Locked && has_aspect s route.source Closed))
      && (nat_le now.seen (i + 1) && list_all (is_vacant s) (drop (i + 1) route.path)))
  route_set_and_clear_past-holds r route now i known at =
      let of = plant.routes_known r route known in
      let entered = occupied_or_locked_source_closed-holds r route now known at in
      let seen = no_section_seen_past-holds r route now i known at in
      let vacant = vacant-all p s shape calm (drop (i + 1) route.path) (λ k x found. all-at (λ x. x < length p.sections) route.path ((i + 1) + k) x of.path (dropped-at (i + 1) route.path k x found)) in
      each_of-holds (image_of p s) (occupied_or_locked_source_closed p r route ∷ (no_section_seen_past r route i ++ map (no_train_at p) (drop (i + 1) route.path)))
      ∙ ap (λ v. tree_holds (image_of p s) (occupied_or_locked_source_closed p r route) && v)
      (list_all-append (tree_holds (image_of p s)) (no_section_seen_past r route i) (map (no_train_at p) (drop (i + 1) route.path)))
      ∙ rw (entered, seen, vacant) refl

  route_set_for_head_at-holds : (d : Dir) (x r : ℕ) (route : Route) (now : RouteState) →
      slice_get p.routes r ≡ Some route → slice_get s.routes r ≡ Some now →
      list_any (tree_holds (image_of p s)) (route_set_for_head_at p d x r route)
      ≡ any_path_index_passes_test route
      (λ i y. (y == x) && route_runs_in_direction p d route
      &&
      (same_mode now.mode Occupied
      || (same_mode now.mode Locked && has_aspect s route.source Closed))
      && nat_le now.seen (i + 1) && list_all (is_vacant s) (drop (i + 1) route.path))
  route_set_for_head_at-holds d x r route now known at = by_runs (route_runs_in_direction p d route)
    where
      joined : (a b c e : Bool) → (a && (b && (c && e))) ≡ (a && true && b && c && e)
      joined true true true e = refl
      joined true true false e = refl
      joined true false c e = refl
      joined false b c e = refl

      parted : (a b c e : Bool) → (a && false && b && c && e) ≡ false
      parted true b c e = refl
      parted false b c e = refl

      by_runs : (b : Bool) →
          list_any (tree_holds (image_of p s))
          (if b then conditions_of_each_path_index route (λ i y. if y == x then route_set_and_clear_past p r route i ∷ [] else [])
          else [])
          ≡ any_path_index_passes_test route
          (λ i y. (y == x) && b
          &&
          (same_mode now.mode Occupied
          || (same_mode now.mode Locked && has_aspect s route.source Closed))
          && nat_le now.seen (i + 1) && list_all (is_vacant s) (drop (i + 1) route.path))
      by_runs true =
          some-place (image_of p s) route (λ i y. if y == x then route_set_and_clear_past p r route i ∷ [] else [])
          (λ i y. (y == x) && true
          &&
          (same_mode now.mode Occupied
          || (same_mode now.mode Locked && has_aspect s route.source Closed))
          && nat_le now.seen (i + 1) && list_all (is_vacant s) (drop (i + 1) route.path)) (λ i y
          place.
          any-if (image_of p s) (route_set_and_clear_past p r route i) (y == x)
          ∙ ap (λ v. (y == x) && v) (route_set_and_clear_past-holds r route now i known at)
          ∙ joined (y == x) (same_mode now.mode Occupied || (same_mode now.mode Locked && has_aspect s route.source Closed)) (nat_le now.seen (i + 1)) (list_all (is_vacant s) (drop (i + 1) route.path)))
      by_runs false =
          sym (list_any-never
          (λ place. (place.1 == x) && false
          &&
          (same_mode now.mode Occupied
          || (same_mode now.mode Locked && has_aspect s route.source Closed))
          && nat_le now.seen (place.0 + 1) && list_all (is_vacant s) (drop (place.0 + 1) route.path))
          (enumerate_from 0 route.path) (λ place.
          parted (place.1 == x) (same_mode now.mode Occupied || (same_mode now.mode Locked && has_aspect s route.source Closed)) (nat_le now.seen (place.0 + 1)) (list_all (is_vacant s) (drop (place.0 + 1) route.path))))

  pub led-holds : (d : Dir) (x : ℕ) → list_any (tree_holds (image_of p s)) (conditions_of_each_route p (route_set_for_head_at p d x)) ≡ head_is_led_by_route p s d x
  led-holds d x =
      some-route p s shape (image_of p s) (route_set_for_head_at p d x)
      (λ route now. any_path_index_passes_test route
      (λ i y. (y == x) && route_runs_in_direction p d route
      &&
      (same_mode now.mode Occupied
      || (same_mode now.mode Locked && has_aspect s route.source Closed))
      && nat_le now.seen (i + 1) && list_all (is_vacant s) (drop (i + 1) route.path)))
      (λ r route now known at. route_set_for_head_at-holds d x r route now known at)
