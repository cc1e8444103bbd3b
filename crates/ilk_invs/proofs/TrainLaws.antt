-- The conditions of V7 and V8 hold for the image of a state without hazard if and only if the state
-- keeps these families.
use Rattle.std.proofs.Common.{◌≡◌, ℕ, ◌+◌, ◌<◌, ◌==◌, Bool, true, false, not, ◌&&◌, ◌||◌, Some, None, List, [], ◌∷◌, ◌++◌, length, slice_get, refl, sym, ◌∙◌, ap}
use Rattle.std.proofs.Math.Bool.{and-true}
use Rattle.std.specs.Prelude.{if◌then◌else◌}
use Rattle.std.specs.List.{flat_map, last_or, list_all, list_any, range_with_len}
use Rattle.std.proofs.lemmas.Bool.{and_parts, and_from, eq-eqb, eqb-true}
use Rattle.std.proofs.lemmas.List.Folds.{list_all-append}
use Rattle.ilk_base.proofs.Truth.{same_truth, if-passes, passes-if}
use Rattle.ilk_base.specs.Option.{is_some_and}
use Rattle.ilk_base.proofs.Lists.{last_or-at}
use Rattle.ilk_base.proofs.ListTests.{list_all-alike, list_all-flat_map}
use Rattle.ilk_base.proofs.Ranges.{range-at, range_within}
use Rattle.ilk_base.proofs.Tested.{list_all-slice_get, all-pass}
use Rattle.ilk_ir.specs.Tree.{Tree, negation, tree_holds}
use Rattle.ilk_plant.specs.Network.{contains_section}
use Rattle.ilk_plant.specs.Plant.{IsPlant, PlantLists}
use Rattle.ilk_plant.specs.Shape.{HasShape}
use Rattle.ilk_plant.specs.Sound.{IsAcyclic}
use Rattle.ilk_plant.proofs.Shapes.{body-last}
use Rattle.ilk_plant.specs.declared.network.Dir.{Dir}
use Rattle.ilk_plant.specs.declared.network.Dir.TheVariants.{Up, Down}
use Rattle.ilk_plant.specs.declared.state.RouteState.{RouteState}
use Rattle.ilk_plant.specs.declared.state.State.{State}
use Rattle.ilk_plant.specs.declared.state.Train.{Train}
use Rattle.ilk_plant.specs.declared.table.Route.{Route}
use Rattle.ilk_model.specs.Families.{is_unreleased_on_some_route, head_is_led_by_route, meets_v7_heads_have_routes, meets_v8_bodies_have_routes}
use Rattle.ilk_model.specs.Hazard.{hazard}
use Rattle.ilk_model.specs.Holding.{is_unreleased_on_path, is_locked_or_occupied, continues_without_board, route_runs_in_direction}
use Rattle.ilk_layout.specs.Image.{image_of}
use Rattle.ilk_layout.specs.Occupancy.{occupancy_or_crash}
use Rattle.ilk_layout.specs.declared.values.Occupancy.TheVariants.{Taken}
use Rattle.ilk_layout.proofs.Calm.{body-of, occupancy-in, taken-in}
use Rattle.ilk_layout.proofs.Plants.{body-known}
use Rattle.ilk_invs.specs.Held.{section_retained_by}
use Rattle.ilk_invs.specs.Parts.{conditions_of_each_route, some_of}
use Rattle.ilk_invs.specs.TrainFamilies.{body_at, head_at, route_retains_in_direction, body_has_route_set_at, route_set_for_head_at, head_has_route_set_at, v7_heads_have_routes_tree, v8_bodies_have_routes_tree}
use Rattle.ilk_invs.proofs.HeldLaws.{section_retained_by-holds}
use Rattle.ilk_invs.proofs.PartLaws.{any-if, each_of-holds, some-route, some_of-holds}
use Rattle.ilk_invs.proofs.PointLaws.{not-kept}
use Rattle.ilk_invs.proofs.LedLaws.{body_at-holds, head_at-holds, led-holds}
use Rattle.ilk_invs.proofs.OccupancyLaws.{has_head_in, has_train_in, last-place, own-head, own-train, passes-then, same-taken, taken-head, taken-train, then-passes}

module _ (p : PlantLists) (plant : IsPlant p) (s : State) (shape : HasShape p s) (calm : hazard p s ≡ None) where
  route_retains_in_direction-holds : (d : Dir) (x r : ℕ) (route : Route) (now : RouteState) →
      slice_get p.routes r ≡ Some route → slice_get s.routes r ≡ Some now →
      list_any (tree_holds (image_of p s)) (route_retains_in_direction p d x r route)
      ≡ (route_runs_in_direction p d route && is_locked_or_occupied now && is_unreleased_on_path route now x)
  route_retains_in_direction-holds d x r route now known at =
      any-if (image_of p s) (section_retained_by r route x) (route_runs_in_direction p d route && contains_section x route.path)
      ∙ ap (λ v. (route_runs_in_direction p d route && contains_section x route.path) && v) (section_retained_by-holds p s shape r route now x known at)
      ∙ by_path (contains_section x route.path) refl
    where
      with_path : (a b c : Bool) → ((a && true) && (b && c)) ≡ (a && b && c)
      with_path true true c = refl
      with_path true false c = refl
      with_path false b c = refl

      without : (a b : Bool) → ((a && false) && (b && false)) ≡ (a && b && false)
      without true true = refl
      without true false = refl
      without false b = refl

      by_path : (b : Bool) → contains_section x route.path ≡ b →
          ((route_runs_in_direction p d route && contains_section x route.path)
          && (is_locked_or_occupied now && is_unreleased_on_path route now x))
          ≡ (route_runs_in_direction p d route && is_locked_or_occupied now && is_unreleased_on_path route now x)
      by_path true e =
          ap (λ v. (route_runs_in_direction p d route && v) && (is_locked_or_occupied now && is_unreleased_on_path route now x)) e ∙ with_path (route_runs_in_direction p d route) (is_locked_or_occupied now) (is_unreleased_on_path route now x)
      by_path false e =
          let none = not-kept route now x e in
          ap (λ v. (route_runs_in_direction p d route && v) && (is_locked_or_occupied now && is_unreleased_on_path route now x)) e
          ∙ ap (λ v. (route_runs_in_direction p d route && false) && (is_locked_or_occupied now && v)) none
          ∙ without (route_runs_in_direction p d route) (is_locked_or_occupied now)
          ∙ ap (λ v. route_runs_in_direction p d route && is_locked_or_occupied now && v) (sym none)

  kept-holds : (d : Dir) (x : ℕ) → list_any (tree_holds (image_of p s)) (conditions_of_each_route p (route_retains_in_direction p d x)) ≡ is_unreleased_on_some_route p s d x
  kept-holds d x =
      some-route p s shape (image_of p s) (route_retains_in_direction p d x) (λ route now. route_runs_in_direction p d route && is_locked_or_occupied now && is_unreleased_on_path route now x)
      (λ r route now known at. route_retains_in_direction-holds d x r route now known at)

  instance-holds : (t : Tree) (ts : List Tree) (a b plain : Bool) → tree_holds (image_of p s) t ≡ a →
      list_any (tree_holds (image_of p s)) ts ≡ b →
      list_all (tree_holds (image_of p s)) (if plain then some_of (negation t ∷ ts) ∷ [] else [])
      ≡ (if plain then not a || b else true)
  instance-holds t ts a b true one two =
      and-true (tree_holds (image_of p s) (some_of (negation t ∷ ts))) ∙ some_of-holds (image_of p s) (negation t ∷ ts) ∙ ap (λ v. not v || list_any (tree_holds (image_of p s)) ts) one ∙ ap (λ v. not a || v) two
  instance-holds t ts a b false one two = refl

  head_has_route_set_at-holds : (d : Dir) (x : ℕ) → x < length p.sections → list_all (tree_holds (image_of p s)) (head_has_route_set_at p d x)
      ≡ (if continues_without_board p d x then not (has_head_in d (occupancy_or_crash p s x)) || head_is_led_by_route p s d x else true)
  head_has_route_set_at-holds d x within =
      instance-holds (head_at p d x) (conditions_of_each_route p (route_set_for_head_at p d x)) (has_head_in d (occupancy_or_crash p s x)) (head_is_led_by_route p s d x) (continues_without_board p d x) (head_at-holds p plant s shape calm d x within)
      (led-holds p plant s shape calm d x)

  body_has_route_set_at-holds : (d : Dir) (x : ℕ) → x < length p.sections → list_all (tree_holds (image_of p s)) (body_has_route_set_at p d x)
      ≡ (if continues_without_board p d x then not (has_train_in d (occupancy_or_crash p s x)) || is_unreleased_on_some_route p s d x else true)
  body_has_route_set_at-holds d x within =
      instance-holds (body_at p d x) (conditions_of_each_route p (route_retains_in_direction p d x)) (has_train_in d (occupancy_or_crash p s x)) (is_unreleased_on_some_route p s d x) (continues_without_board p d x)
      (body_at-holds p plant s shape calm d x within) (kept-holds d x)

  all-sections : (f : Dir → ℕ → List Tree) (test : Dir → ℕ → Bool) →
      ((d : Dir) (x : ℕ) → x < length p.sections → list_all (tree_holds (image_of p s)) (f d x) ≡ test d x) →
      list_all (tree_holds (image_of p s))
      (flat_map (λ x. f Up x ++ f Down x) (range_with_len 0 (length p.sections)))
      ≡ list_all (λ x. test Up x && test Down x) (range_with_len 0 (length p.sections))
  all-sections f test same =
      list_all-flat_map (tree_holds (image_of p s)) (λ x. f Up x ++ f Down x) (range_with_len 0 (length p.sections))
      ∙ list_all-alike (λ x. list_all (tree_holds (image_of p s)) (f Up x ++ f Down x)) (λ x. test Up x && test Down x) (range_with_len 0 (length p.sections)) (λ i x at.
      let within = (range_within (length p.sections) i x at).1 in
      list_all-append (tree_holds (image_of p s)) (f Up x) (f Down x) ∙ ap (λ v. v && list_all (tree_holds (image_of p s)) (f Down x)) (same Up x within) ∙ ap (λ v. test Up x && v) (same Down x within))

  in_direction : (test : Dir → ℕ → Bool) (d : Dir) (x : ℕ) → x < length p.sections → list_all (λ x. test Up x && test Down x) (range_with_len 0 (length p.sections)) ≡ true → test d x ≡ true
  in_direction test Up x within h =
      (and_parts (test Up x) (test Down x) (list_all-slice_get (λ x. test Up x && test Down x) (range_with_len 0 (length p.sections)) x x h (range-at (length p.sections) x within))).0
  in_direction test Down x within h =
      (and_parts (test Up x) (test Down x) (list_all-slice_get (λ x. test Up x && test Down x) (range_with_len 0 (length p.sections)) x x h (range-at (length p.sections) x within))).1

  from_directions : (test : Dir → ℕ → Bool) → ((d : Dir) (x : ℕ) → x < length p.sections → test d x ≡ true) → list_all (λ x. test Up x && test Down x) (range_with_len 0 (length p.sections)) ≡ true
  from_directions test each =
      all-pass (λ x. test Up x && test Down x) (range_with_len 0 (length p.sections)) (λ i x at.
      let within = (range_within (length p.sections) i x at).1 in and_from (test Up x) (test Down x) (each Up x within) (each Down x within))

  led_test : Dir → ℕ → Bool
  led_test d x = if continues_without_board p d x then not (has_head_in d (occupancy_or_crash p s x)) || head_is_led_by_route p s d x else true

  kept_test : Dir → ℕ → Bool
  kept_test d x = if continues_without_board p d x then not (has_train_in d (occupancy_or_crash p s x)) || is_unreleased_on_some_route p s d x else true

  pub v7-law : IsAcyclic p → tree_holds (image_of p s) (v7_heads_have_routes_tree p) ≡ meets_v7_heads_have_routes p s
  unfolding led_test
  v7-law never =
      each_of-holds (image_of p s) (flat_map (λ x. head_has_route_set_at p Up x ++ head_has_route_set_at p Down x) (range_with_len 0 (length p.sections)))
      ∙ all-sections (head_has_route_set_at p) led_test head_has_route_set_at-holds
      ∙ same_truth (list_all (λ x. led_test Up x && led_test Down x) (range_with_len 0 (length p.sections))) (meets_v7_heads_have_routes p s) forth back
    where
      of_train : Train → Bool
      of_train train = is_some_and (last_or None train.body) (λ x. if continues_without_board p train.dir x then head_is_led_by_route p s train.dir x else true)

      forth : list_all (λ x. led_test Up x && led_test Down x) (range_with_len 0 (length p.sections)) ≡ true → list_all of_train s.trains ≡ true
      forth h =
          all-pass of_train s.trains (λ i t at.
          let body = body-of p plant never s shape calm i t at in
          let last = body-last p t body in
          let place = last-place t.body last.0 last.1 in
          let within = body-known p t place.0 last.0 plant body place.1 in
          let taken = occupancy-in p plant never s shape calm i place.0 last.0 t at place.1 in
          let head : (place.0 + 1 == length t.body) ≡ true = eq-eqb (place.0 + 1) (length t.body) place.2 in
          let here : has_head_in t.dir (occupancy_or_crash p s last.0) ≡ true = ap (has_head_in t.dir) (taken ∙ ap (Taken t.dir (place.0 == 0)) head) ∙ own-head t.dir (place.0 == 0) in
          let passes = in_direction led_test t.dir last.0 within h in
          ap (λ o. is_some_and o (λ x. if continues_without_board p t.dir x then head_is_led_by_route p s t.dir x else true)) last.1
          ∙ passes-if (continues_without_board p t.dir last.0) (head_is_led_by_route p s t.dir last.0)
          (λ plain. then-passes (has_head_in t.dir (occupancy_or_crash p s last.0)) (head_is_led_by_route p s t.dir last.0)
          (if-passes (continues_without_board p t.dir last.0)
          (not (has_head_in t.dir (occupancy_or_crash p s last.0)) || head_is_led_by_route p s t.dir last.0) passes
          plain) here))

      back : list_all of_train s.trains ≡ true → list_all (λ x. led_test Up x && led_test Down x) (range_with_len 0 (length p.sections)) ≡ true
      back h =
          from_directions led_test (λ d x within.
          passes-if (continues_without_board p d x) (not (has_head_in d (occupancy_or_crash p s x)) || head_is_led_by_route p s d x) (λ plain.
          passes-then (has_head_in d (occupancy_or_crash p s x)) (head_is_led_by_route p s d x) (λ head.
          let taken = taken-head d (occupancy_or_crash p s x) head in
          let train = taken-in p plant never s shape calm x d taken.0 true taken.1 in
          let t = train.1 in
          let there = occupancy-in p plant never s shape calm train.0 train.2 x t train.3 train.4 in
          let same = same-taken (sym taken.1 ∙ there) in
          let last : last_or None t.body ≡ Some x = last_or-at None t.body train.2 x (eqb-true (train.2 + 1) (length t.body) (sym same.1)) train.4 in
          let passes : (if continues_without_board p t.dir x then head_is_led_by_route p s t.dir x else true) ≡ true =
          ap (λ o. is_some_and o (λ x. if continues_without_board p t.dir x then head_is_led_by_route p s t.dir x else true)) (sym last) ∙ list_all-slice_get of_train s.trains train.0 t h train.3 in
          if-passes (continues_without_board p d x) (head_is_led_by_route p s d x) (ap (λ e. if continues_without_board p e x then head_is_led_by_route p s e x else true) same.0 ∙ passes) plain)))

  pub v8-law : IsAcyclic p → tree_holds (image_of p s) (v8_bodies_have_routes_tree p) ≡ meets_v8_bodies_have_routes p s
  unfolding kept_test
  v8-law never =
      each_of-holds (image_of p s) (flat_map (λ x. body_has_route_set_at p Up x ++ body_has_route_set_at p Down x) (range_with_len 0 (length p.sections)))
      ∙ all-sections (body_has_route_set_at p) kept_test body_has_route_set_at-holds
      ∙ same_truth (list_all (λ x. kept_test Up x && kept_test Down x) (range_with_len 0 (length p.sections))) (meets_v8_bodies_have_routes p s) forth back
    where
      of_train : Train → Bool
      of_train train = list_all (λ x. if continues_without_board p train.dir x then is_unreleased_on_some_route p s train.dir x else true) train.body

      forth : list_all (λ x. kept_test Up x && kept_test Down x) (range_with_len 0 (length p.sections)) ≡ true → list_all of_train s.trains ≡ true
      forth h =
          all-pass of_train s.trains (λ i t at.
          all-pass (λ x. if continues_without_board p t.dir x then is_unreleased_on_some_route p s t.dir x else true) t.body (λ k x place.
          let body = body-of p plant never s shape calm i t at in
          let within = body-known p t k x plant body place in
          let taken = occupancy-in p plant never s shape calm i k x t at place in
          let here : has_train_in t.dir (occupancy_or_crash p s x) ≡ true = ap (has_train_in t.dir) taken ∙ own-train t.dir (k == 0) (k + 1 == length t.body) in
          let passes = in_direction kept_test t.dir x within h in
          passes-if (continues_without_board p t.dir x) (is_unreleased_on_some_route p s t.dir x)
          (λ plain. then-passes (has_train_in t.dir (occupancy_or_crash p s x)) (is_unreleased_on_some_route p s t.dir x)
          (if-passes (continues_without_board p t.dir x)
          (not (has_train_in t.dir (occupancy_or_crash p s x)) || is_unreleased_on_some_route p s t.dir x) passes
          plain) here)))

      back : list_all of_train s.trains ≡ true → list_all (λ x. kept_test Up x && kept_test Down x) (range_with_len 0 (length p.sections)) ≡ true
      back h =
          from_directions kept_test (λ d x within.
          passes-if (continues_without_board p d x) (not (has_train_in d (occupancy_or_crash p s x)) || is_unreleased_on_some_route p s d x) (λ plain.
          passes-then (has_train_in d (occupancy_or_crash p s x)) (is_unreleased_on_some_route p s d x) (λ train_in.
          let taken = taken-train d (occupancy_or_crash p s x) train_in in
          let train = taken-in p plant never s shape calm x d taken.0 taken.1 taken.2 in
          let t = train.1 in
          let there = occupancy-in p plant never s shape calm train.0 train.2 x t train.3 train.4 in
          let same = same-taken (sym taken.2 ∙ there) in
          let passes : (if continues_without_board p t.dir x then is_unreleased_on_some_route p s t.dir x else true) ≡ true =
          list_all-slice_get (λ x. if continues_without_board p t.dir x then is_unreleased_on_some_route p s t.dir x else true) t.body
          train.2 x (list_all-slice_get of_train s.trains train.0 t h train.3) train.4 in
          if-passes (continues_without_board p d x) (is_unreleased_on_some_route p s d x) (ap (λ e. if continues_without_board p e x then is_unreleased_on_some_route p s e x else true) same.0 ∙ passes) plain)))
