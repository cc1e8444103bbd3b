-- V7, V8 and the two hazards for each train: their statements, and sufficient conditions for a
-- state to meet them.
use Rattle.std.proofs.Common.{◌≡◌, ℕ, ◌+◌, ◌-◌, ◌<◌, ◌≤◌, Bool, true, false, ◌==◌, ◌&&◌, ◌||◌, Option, Some, None, option_map, List, inl, inr, ◌⊎◌, count_by, drop, find, length, nat_le, nat_lt, slice_get, refl, sym, ap, ◌∙◌, arith}
use Rattle.std.specs.Prelude.{if◌then◌else◌}
use Rattle.std.specs.List.{last_or, list_all, list_any, range_with_len}
use Rattle.std.proofs.lemmas.Bool.{and_from, and_parts, eqb-true, eq-eqb, or_from, or_parts}
use Rattle.std.proofs.lemmas.Bool.Decides.{nat_tests}
use Rattle.ilk_base.specs.Option.{is_some_and}
use Rattle.ilk_base.proofs.Lists.{get-dropped}
use Rattle.ilk_base.proofs.Ranges.{range-at, range_within}
use Rattle.ilk_base.proofs.Tested.{all-pass, count-one, few-from_places, list_all-slice_get, list_any-none, none-pass, find-none-at, find-none-from}
use Rattle.ilk_base.proofs.Truth.{either, if-passes, passes-if}
use Rattle.ilk_base.proofs.Options.{mapped-None}
use Rattle.ilk_plant.specs.Network.{contains_section}
use Rattle.ilk_plant.specs.Plant.{PlantLists}
use Rattle.ilk_plant.specs.Shape.{HasShape, has_nonempty_connected_body}
use Rattle.ilk_plant.specs.State.{is_occupied, detected_position_in_state}
use Rattle.ilk_plant.specs.declared.network.Board.{Board}
use Rattle.ilk_plant.specs.declared.network.Dir.{Dir}
use Rattle.ilk_plant.specs.declared.network.Section.{Section}
use Rattle.ilk_plant.specs.declared.network.Section.TheVariants.{Linear, Point}
use Rattle.ilk_plant.specs.declared.state.Aspect.TheVariants.{Closed}
use Rattle.ilk_plant.specs.declared.state.Mode.TheVariants.{Locked, Occupied}
use Rattle.ilk_plant.specs.declared.state.RouteState.{RouteState}
use Rattle.ilk_plant.specs.declared.state.State.{State}
use Rattle.ilk_plant.specs.declared.state.Train.{Train}
use Rattle.ilk_plant.specs.declared.table.Route.{Route}
use Rattle.ilk_plant.proofs.Alike.{one_direction, own_direction}
use Rattle.ilk_plant.proofs.Shapes.{body-last}
use Rattle.ilk_routes.specs.Boards.{has_aspect}
use Rattle.ilk_routes.specs.Modes.{same_mode}
use Rattle.ilk_model.specs.Families.{is_unreleased_on_some_route, head_is_led_by_route, meets_v1_consistent_counts, meets_v2_sections_held_once, meets_v3_locks_match_routes, meets_v4_allocating_paths_vacant, meets_v5_open_needs_locked, meets_v6_points_match_modes, meets_v7_heads_have_routes, meets_v8_bodies_have_routes, meets_v9_protecting_boards_closed}
use Rattle.ilk_model.specs.Hazard.{is_section_hazardous, has_two_trains, is_wrong_under_train, is_wrong_under_body}
use Rattle.ilk_model.specs.Holding.{is_unreleased_on_path, is_locked_or_occupied, continues_without_board, is_vacant, route_runs_in_direction, any_path_index_passes_test}
use Rattle.ilk_model.specs.Meets.{Meets}
use Rattle.ilk_model.proofs.Alike.{one_mode}
use Rattle.ilk_strict.proofs.Reading.{RouteIn, has_aspect-at, has_aspect-from, kept-at, kept-from, any_path_index_passes_test-at, any_path_index_passes_test-from, any_route_passes_test-at, any_route_passes_test-from}
use Rattle.ilk_strict.proofs.RouteFacts.{all_vacant-at, all_vacant-from, locked-is, occupied-is}

pub runs-source : (p : PlantLists) (d : Dir) (route : Route) (source : Board) → route_runs_in_direction p d route ≡ true → slice_get p.boards route.source ≡ Some source → source.dir ≡ d
runs-source p d route source h at = one_direction source.dir d (rw at at h)

pub runs-from : (p : PlantLists) (d : Dir) (route : Route) (source : Board) → slice_get p.boards route.source ≡ Some source → source.dir ≡ d → route_runs_in_direction p d route ≡ true
runs-from p d route source at same = rw (at, same) (own_direction d)

pub record IsLedBy (p : PlantLists) (s : State) (d : Dir) (x : ℕ) : Type 0 where
  pub r : ℕ
  pub route : Route
  pub now : RouteState
  pub it : RouteIn p s r route now
  pub i : ℕ
  pub at : slice_get route.path i ≡ Some x
  pub runs : route_runs_in_direction p d route ≡ true
  pub mode : (now.mode ≡ Occupied) ⊎ ((now.mode ≡ Locked) × (slice_get s.boards route.source ≡ Some Closed))
  pub seen : now.seen ≤ i + 1
  pub later : (j y : ℕ) → i < j → slice_get route.path j ≡ Some y → is_occupied s y ≡ false

pub led-route_locked_or_occupied : (s : State) (route : Route) (now : RouteState) → (now.mode ≡ Occupied) ⊎ ((now.mode ≡ Locked) × (slice_get s.boards route.source ≡ Some Closed)) → is_locked_or_occupied now ≡ true
led-route_locked_or_occupied s route now (inl e) = occupied-is now e
led-route_locked_or_occupied s route now (inr e) = locked-is now e.0

pub record IsKeptBy (p : PlantLists) (s : State) (d : Dir) (x : ℕ) : Type 0 where
  pub r : ℕ
  pub route : Route
  pub now : RouteState
  pub it : RouteIn p s r route now
  pub i : ℕ
  pub at : slice_get route.path i ≡ Some x
  pub runs : route_runs_in_direction p d route ≡ true
  pub mode : is_locked_or_occupied now ≡ true
  pub least : now.rel ≤ i

module _ (p : PlantLists) (s : State) where
  abbrev may_lead : Route → RouteState → Bool
  may_lead route now = same_mode now.mode Occupied || (same_mode now.mode Locked && has_aspect s route.source Closed)

  abbrev leads : Dir → ℕ → Route → RouteState → ℕ → ℕ → Bool
  leads d x route now i y =
      (y == x) && route_runs_in_direction p d route && may_lead route now && nat_le now.seen (i + 1) && list_all (is_vacant s) (drop (i + 1) route.path)

  led-at : (d : Dir) (x : ℕ) → head_is_led_by_route p s d x ≡ true → IsLedBy p s d x
  led-at d x h =
      let found = any_route_passes_test-at p s (λ route now. any_path_index_passes_test route (leads d x route now)) h in
      let place = any_path_index_passes_test-at found.1 (leads d x found.1 found.2) found.4 in
      let four = and_parts ((place.1 == x) && route_runs_in_direction p d found.1 && may_lead found.1 found.2 && nat_le found.2.seen (place.0 + 1)) (list_all (is_vacant s) (drop (place.0 + 1) found.1.path)) place.3 in
      let three = and_parts ((place.1 == x) && route_runs_in_direction p d found.1 && may_lead found.1 found.2) (nat_le found.2.seen (place.0 + 1)) four.0 in
      let two = and_parts ((place.1 == x) && route_runs_in_direction p d found.1) (may_lead found.1 found.2) three.0 in
      let one = and_parts (place.1 == x) (route_runs_in_direction p d found.1) two.0 in
      record {
        r = found.0;
        route = found.1;
        now = found.2;
        it = found.3;
        i = place.0;
        at = place.2 ∙ ap Some (eqb-true place.1 x one.0);
        runs = one.1;
        mode = mode_of found.1 found.2 two.1;
        seen = at_most found.2.seen (place.0 + 1) three.1;
        later = λ j y less at. later_of found.1.path place.0 four.1 j y less at;
      }
    where
      at_most : (n m : ℕ) → nat_le n m ≡ true → n ≤ m
      at_most n m h = grind (arith, nat_tests)

      mode_of : (route : Route) (now : RouteState) → may_lead route now ≡ true → (now.mode ≡ Occupied) ⊎ ((now.mode ≡ Locked) × (slice_get s.boards route.source ≡ Some Closed))
      mode_of route now h = elim (either (same_mode now.mode Occupied) (same_mode now.mode Locked && has_aspect s route.source Closed) h) [
        | inl e ↦ inl (one_mode now.mode Occupied e)
        | inr e ↦ (let both = and_parts (same_mode now.mode Locked) (has_aspect s route.source Closed) e in inr (one_mode now.mode Locked both.0, has_aspect-at s route.source Closed both.1))
      ]

      later_of : (path : List ℕ) (i : ℕ) → list_all (is_vacant s) (drop (i + 1) path) ≡ true → (j y : ℕ) → i < j → slice_get path j ≡ Some y → is_occupied s y ≡ false
      later_of path i h j y less at =
          let place : i + 1 + (j - (i + 1)) ≡ j = omega (arith, less) in
          all_vacant-at s (drop (i + 1) path) h (j - (i + 1)) y (get-dropped path (i + 1) (j - (i + 1)) ∙ ap (slice_get path) place ∙ at)

  led-from : (d : Dir) (x : ℕ) → IsLedBy p s d x → head_is_led_by_route p s d x ≡ true
  led-from d x led =
      any_route_passes_test-from p s (λ route now. any_path_index_passes_test route (leads d x route now)) led.r led.route led.now led.it
      (any_path_index_passes_test-from led.route (leads d x led.route led.now) led.i x led.at
      (all_of (may led.mode) (at_most led.now.seen (led.i + 1) led.seen) later))
    where
      at_most : (n m : ℕ) → n ≤ m → nat_le n m ≡ true
      at_most n m h = grind (arith, nat_tests)

      may : (led.now.mode ≡ Occupied) ⊎ ((led.now.mode ≡ Locked) × (slice_get s.boards led.route.source ≡ Some Closed)) → may_lead led.route led.now ≡ true
      may (inl e) = rw e refl
      may (inr e) = rw (e.0, has_aspect-from s led.route.source Closed e.1) refl

      later : list_all (is_vacant s) (drop (led.i + 1) led.route.path) ≡ true
      later = all_vacant-from s (drop (led.i + 1) led.route.path) (λ k y at. led.later (led.i + 1 + k) y (omega arith) (sym (get-dropped led.route.path (led.i + 1) k) ∙ at))

      all_of : may_lead led.route led.now ≡ true → nat_le led.now.seen (led.i + 1) ≡ true → list_all (is_vacant s) (drop (led.i + 1) led.route.path) ≡ true → leads d x led.route led.now led.i x ≡ true
      all_of mode seen vacant = and_from _ _ (and_from _ _ (and_from _ _ (and_from _ _ (eq-eqb x x refl) led.runs) mode) seen) vacant

  pub head-led : meets_v7_heads_have_routes p s ≡ true → (i : ℕ) (train : Train) (x : ℕ) → slice_get s.trains i ≡ Some train → last_or None train.body ≡ Some x → continues_without_board p train.dir x ≡ true → IsLedBy p s train.dir x
  head-led kept i train x at last plain =
      let here : (if continues_without_board p train.dir x then head_is_led_by_route p s train.dir x else true) ≡ true = rw last at
      (list_all-slice_get
      (λ train. is_some_and (last_or None train.body)
      (λ x. if continues_without_board p train.dir x then head_is_led_by_route p s train.dir x else true)) s.trains i train
      kept at) in
      led-at train.dir x (if-passes (continues_without_board p train.dir x) (head_is_led_by_route p s train.dir x) here plain)

  pub heads-from : HasShape p s → ((i : ℕ) (train : Train) (x : ℕ) → slice_get s.trains i ≡ Some train → last_or None train.body ≡ Some x → continues_without_board p train.dir x ≡ true → IsLedBy p s train.dir x) →
      meets_v7_heads_have_routes p s ≡ true
  heads-from shape each =
      all-pass (λ train. is_some_and (last_or None train.body) (λ x. if continues_without_board p train.dir x then head_is_led_by_route p s train.dir x else true)) s.trains (λ i train at.
      let last = body-last p train (list_all-slice_get (has_nonempty_connected_body p) s.trains i train shape.bodies at) in
      rw last.1 (passes-if (continues_without_board p train.dir last.0) (head_is_led_by_route p s train.dir last.0) (λ plain. led-from train.dir last.0 (each i train last.0 at last.1 plain))))

  abbrev keeps_for : Dir → ℕ → Route → RouteState → Bool
  keeps_for d x route now = route_runs_in_direction p d route && is_locked_or_occupied now && is_unreleased_on_path route now x

  kept_for-at : (d : Dir) (x : ℕ) → is_unreleased_on_some_route p s d x ≡ true → IsKeptBy p s d x
  kept_for-at d x h =
      let found = any_route_passes_test-at p s (keeps_for d x) h in
      let two = and_parts (route_runs_in_direction p d found.1 && is_locked_or_occupied found.2) (is_unreleased_on_path found.1 found.2 x) found.4 in
      let one = and_parts (route_runs_in_direction p d found.1) (is_locked_or_occupied found.2) two.0 in
      let place = kept-at found.1 found.2 x two.1 in
      record {
        r = found.0;
        route = found.1;
        now = found.2;
        it = found.3;
        i = place.0;
        at = place.2;
        runs = one.0;
        mode = one.1;
        least = place.1;
      }

  kept_for-from : (d : Dir) (x : ℕ) → IsKeptBy p s d x → is_unreleased_on_some_route p s d x ≡ true
  kept_for-from d x kept =
      any_route_passes_test-from p s (keeps_for d x) kept.r kept.route kept.now kept.it
      (and_from (route_runs_in_direction p d kept.route && is_locked_or_occupied kept.now)
      (is_unreleased_on_path kept.route kept.now x)
      (and_from (route_runs_in_direction p d kept.route) (is_locked_or_occupied kept.now) kept.runs kept.mode)
      (kept-from kept.route kept.now kept.i x kept.least kept.at))

  abbrev is_kept_if_plain : Dir → ℕ → Bool
  is_kept_if_plain d x = if continues_without_board p d x then is_unreleased_on_some_route p s d x else true

  pub body-kept : meets_v8_bodies_have_routes p s ≡ true → (i : ℕ) (train : Train) → slice_get s.trains i ≡ Some train → (k x : ℕ) → slice_get train.body k ≡ Some x → continues_without_board p train.dir x ≡ true → IsKeptBy p s train.dir x
  body-kept kept i train at k x place plain =
      let body = list_all-slice_get (λ train. list_all (is_kept_if_plain train.dir) train.body) s.trains i train kept at in
      kept_for-at train.dir x (if-passes (continues_without_board p train.dir x) (is_unreleased_on_some_route p s train.dir x) (list_all-slice_get (is_kept_if_plain train.dir) train.body k x body place) plain)

  pub bodies-from : ((i : ℕ) (train : Train) → slice_get s.trains i ≡ Some train → (k x : ℕ) → slice_get train.body k ≡ Some x → continues_without_board p train.dir x ≡ true → IsKeptBy p s train.dir x) → meets_v8_bodies_have_routes p s ≡ true
  bodies-from each =
      all-pass (λ train. list_all (is_kept_if_plain train.dir) train.body) s.trains (λ i train at.
      all-pass (is_kept_if_plain train.dir) train.body (λ k x place.
      passes-if (continues_without_board p train.dir x) (is_unreleased_on_some_route p s train.dir x) (λ plain. kept_for-from train.dir x (each i train at k x place plain))))

  pub two-at : (x : ℕ) → has_two_trains s x ≡ false → (i j : ℕ) (one other : Train) → slice_get s.trains i ≡ Some one → slice_get s.trains j ≡ Some other → contains_section x one.body ≡ true → contains_section x other.body ≡ true → i ≡ j
  two-at x none i j one other at also first second =
      let few : count_by (λ train. contains_section x train.body) s.trains ≤ 1 = grind (arith, nat_tests) in
      count-one (λ train. contains_section x train.body) s.trains few i j one other at also first second

  pub two-from : (x : ℕ) → ((i j : ℕ) (one other : Train) → slice_get s.trains i ≡ Some one → slice_get s.trains j ≡ Some other → contains_section x one.body ≡ true → contains_section x other.body ≡ true → i ≡ j) → has_two_trains s x ≡ false
  two-from x each =
      let few = few-from_places (λ train. contains_section x train.body) s.trains each in
      not_more (count_by (λ train. contains_section x train.body) s.trains) few
    where
      not_more : (n : ℕ) → n ≤ 1 → nat_lt 1 n ≡ false
      not_more n few = grind (arith, nat_tests)

  pub wrong-at : (x : ℕ) → is_wrong_under_train p s x ≡ false → (stem plus minus : ℕ) (faces : Dir) →
      slice_get p.sections x ≡ Some (Point stem plus minus faces) → (i : ℕ) (train : Train) →
      slice_get s.trains i ≡ Some train → is_wrong_under_body x plus minus (detected_position_in_state p s x) train.body ≡ false
  wrong-at x none stem plus minus faces section i train at =
      let each : list_any (λ train. is_wrong_under_body x plus minus (detected_position_in_state p s x) train.body) s.trains ≡ false = rw section at none in
      list_any-none (λ train. is_wrong_under_body x plus minus (detected_position_in_state p s x) train.body) s.trains i train each at

  pub wrong-from : (x : ℕ) →
      ((stem plus minus : ℕ) (faces : Dir) → slice_get p.sections x ≡ Some (Point stem plus minus faces) →
      (i : ℕ) (train : Train) → slice_get s.trains i ≡ Some train →
      is_wrong_under_body x plus minus (detected_position_in_state p s x) train.body ≡ false) →
      is_wrong_under_train p s x ≡ false
  wrong-from x each = by_section (slice_get p.sections x) refl
    where
      by_section : (o : Option Section) → slice_get p.sections x ≡ o → is_wrong_under_train p s x ≡ false
      by_section None e = rw e refl
      by_section (Some (Linear down up board_down board_up)) e = rw e refl
      by_section (Some (Point stem plus minus faces)) e =
          rw e (none-pass (λ train. is_wrong_under_body x plus minus (detected_position_in_state p s x) train.body) s.trains (each stem plus minus faces e))

pub record Keeps (p : PlantLists) (s : State) : Type 0 where
  pub shape : HasShape p s
  pub v1 : meets_v1_consistent_counts p s ≡ true
  pub v2 : meets_v2_sections_held_once p s ≡ true
  pub v3 : meets_v3_locks_match_routes p s ≡ true
  pub v4 : meets_v4_allocating_paths_vacant p s ≡ true
  pub v5 : meets_v5_open_needs_locked p s ≡ true
  pub v6 : meets_v6_points_match_modes p s ≡ true
  pub v7 : meets_v7_heads_have_routes p s ≡ true
  pub v8 : meets_v8_bodies_have_routes p s ≡ true
  pub v9 : meets_v9_protecting_boards_closed p s ≡ true
  pub one_train : (x : ℕ) → x < length p.sections → has_two_trains s x ≡ false
  pub right_point : (x : ℕ) → x < length p.sections → is_wrong_under_train p s x ≡ false

pub keeps-of : (p : PlantLists) (s : State) → Meets p s → Keeps p s
keeps-of p s meets =
    let none = mapped-None _ (find (is_section_hazardous p s) (range_with_len 0 (length p.sections))) meets.no_hazard in
    let calm : (x : ℕ) → x < length p.sections → is_section_hazardous p s x ≡ false = λ x within. find-none-at (is_section_hazardous p s) (range_with_len 0 (length p.sections)) x x none (range-at (length p.sections) x within) in
    let one = and_parts (meets_v1_consistent_counts p s) _ meets.families_kept in
    let two = and_parts (meets_v2_sections_held_once p s) _ one.1 in
    let three = and_parts (meets_v3_locks_match_routes p s) _ two.1 in
    let four = and_parts (meets_v4_allocating_paths_vacant p s) _ three.1 in
    let five = and_parts (meets_v5_open_needs_locked p s) _ four.1 in
    let six = and_parts (meets_v6_points_match_modes p s) _ five.1 in
    let seven = and_parts (meets_v7_heads_have_routes p s) _ six.1 in
    let eight = and_parts (meets_v8_bodies_have_routes p s) _ seven.1 in
    let nine = and_parts (meets_v9_protecting_boards_closed p s) _ eight.1 in
    record {
      shape = meets.shape;
      v1 = one.0;
      v2 = two.0;
      v3 = three.0;
      v4 = four.0;
      v5 = five.0;
      v6 = six.0;
      v7 = seven.0;
      v8 = eight.0;
      v9 = nine.0;
      one_train = λ x within. (or_parts (has_two_trains s x) (is_wrong_under_train p s x) (calm x within)).0;
      right_point = λ x within. (or_parts (has_two_trains s x) (is_wrong_under_train p s x) (calm x within)).1;
    }

pub meets-from : (p : PlantLists) (s : State) → Keeps p s → Meets p s
meets-from p s keeps = record {
  shape = keeps.shape;
  no_hazard = ap (option_map _)
      (find-none-from (is_section_hazardous p s) (range_with_len 0 (length p.sections))
      (λ i x at. let within = range_within (length p.sections) i x at in
      or_from (has_two_trains s x) (is_wrong_under_train p s x) (keeps.one_train x within.1)
      (keeps.right_point x within.1)));
  families_kept = and_from _ _ keeps.v1 (and_from _ _ keeps.v2 (and_from _ _ keeps.v3 (and_from _ _ keeps.v4 (and_from _ _ keeps.v5 (and_from _ _ keeps.v6 (and_from _ _ keeps.v7 (and_from _ _ keeps.v8 (and_from _ _ keeps.v9 refl))))))));
}
