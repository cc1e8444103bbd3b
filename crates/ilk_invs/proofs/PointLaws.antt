-- The condition of V6 holds for a state's image if and only if the state keeps V6.
use Rattle.std.proofs.Common.{◌≡◌, ℕ, Bool, true, false, not, ◌&&◌, ◌||◌, slice_get, Some, refl, sym, ◌∙◌, ap}
use Rattle.std.specs.Prelude.{if◌then◌else◌}
use Rattle.std.specs.List.{flat_map, list_all}
use Rattle.std.proofs.lemmas.Bool.{false≢true, false_from_ne_true}
use Rattle.ilk_base.proofs.ListTests.{list_all-alike, list_all-flat_map}
use Rattle.ilk_ir.specs.Tree.{tree_holds}
use Rattle.ilk_plant.specs.Network.{contains_section}
use Rattle.ilk_plant.specs.Plant.{PlantLists}
use Rattle.ilk_plant.specs.Shape.{HasShape}
use Rattle.ilk_plant.specs.declared.state.Mode.TheVariants.{Allocating}
use Rattle.ilk_plant.specs.declared.state.RouteState.{RouteState}
use Rattle.ilk_plant.specs.declared.state.State.{State}
use Rattle.ilk_plant.specs.declared.table.Listed.{Listed}
use Rattle.ilk_plant.specs.declared.table.Route.{Route}
use Rattle.ilk_routes.specs.Lies.{is_point_detected_as_listed}
use Rattle.ilk_routes.specs.Modes.{same_mode}
use Rattle.ilk_model.specs.Commanded.{is_point_commanded_as_listed}
use Rattle.ilk_model.specs.Families.{is_point_commanded_if_allocating, meets_v6_points_match_modes, is_point_set_if_locked_or_occupied}
use Rattle.ilk_model.specs.Holding.{is_unreleased_on_path, is_locked_or_occupied}
use Rattle.ilk_model.proofs.Kept.{kept-on_path}
use Rattle.ilk_layout.specs.Image.{image_of}
use Rattle.ilk_layout.specs.Conditions.{is_listed_point_commanded, is_listed_point_detected, mode_is}
use Rattle.ilk_layout.proofs.Listed.{is_listed_point_commanded-holds, is_listed_point_detected-holds}
use Rattle.ilk_layout.proofs.ConditionValues.{mode-holds}
use Rattle.ilk_invs.specs.Held.{section_retained_by}
use Rattle.ilk_invs.specs.Parts.{conditions_of_each_route}
use Rattle.ilk_invs.specs.PointFamily.{listed_points_on_path, point_matches_route_mode, v6_points_match_modes_tree}
use Rattle.ilk_invs.proofs.HeldLaws.{section_retained_by-holds}
use Rattle.ilk_invs.proofs.PartLaws.{each-route, each_of-holds, where-holds}
use Rattle.ilk_invs.proofs.Tests.{list_all-filter}

pub not-kept : (route : Route) (now : RouteState) (x : ℕ) → contains_section x route.path ≡ false → is_unreleased_on_path route now x ≡ false
not-kept route now x away = false_from_ne_true (is_unreleased_on_path route now x) (λ h. false≢true (sym away ∙ kept-on_path route now x h))

module _ (p : PlantLists) (s : State) (shape : HasShape p s) where
  point_matches_route_mode-holds : (r : ℕ) (route : Route) (now : RouteState) (listed : Listed) →
      slice_get p.routes r ≡ Some route → slice_get s.routes r ≡ Some now →
      list_all (tree_holds (image_of p s)) (point_matches_route_mode p r route listed)
      ≡
      ((if same_mode now.mode Allocating then is_point_commanded_as_listed p s listed else true)
      && is_point_set_if_locked_or_occupied p s route now listed)
  point_matches_route_mode-holds r route now listed known at =
      let retained = section_retained_by-holds p s shape r route now listed.point known at in
      let commanded = is_listed_point_commanded-holds p s shape listed in
      let allocating = where-holds (image_of p s) (mode_is r Allocating) (is_listed_point_commanded p listed) (same_mode now.mode Allocating)
      (is_point_commanded_as_listed p s listed) (mode-holds p s shape r now Allocating at) commanded in
      let set = where-holds (image_of p s) (section_retained_by r route listed.point) (is_listed_point_commanded p listed) (is_locked_or_occupied now && is_unreleased_on_path route now listed.point)
      (is_point_commanded_as_listed p s listed) retained commanded in
      let lies = where-holds (image_of p s) (section_retained_by r route listed.point) (is_listed_point_detected p listed) (is_locked_or_occupied now && is_unreleased_on_path route now listed.point)
      (is_point_detected_as_listed p s listed) retained (is_listed_point_detected-holds p s shape listed) in
      rw (allocating, set, lies) (joined (if same_mode now.mode Allocating then is_point_commanded_as_listed p s listed else true) (is_locked_or_occupied now && is_unreleased_on_path route now listed.point)
      (is_point_commanded_as_listed p s listed) (is_point_detected_as_listed p s listed))
    where
      joined : (a k c l : Bool) → (a && ((if k then c else true) && ((if k then l else true) && true))) ≡ (a && (if k then c && l else true))
      joined true true true true = refl
      joined true true true false = refl
      joined true true false l = refl
      joined true false c l = refl
      joined false k c l = refl

  point-of : (r : ℕ) (route : Route) (now : RouteState) (listed : Listed) →
      slice_get p.routes r ≡ Some route → slice_get s.routes r ≡ Some now →
      (not (contains_section listed.point route.path) || list_all (tree_holds (image_of p s)) (point_matches_route_mode p r route listed))
      ≡ (is_point_commanded_if_allocating p s route now listed && is_point_set_if_locked_or_occupied p s route now listed)
  point-of r route now listed known at = by_path (contains_section listed.point route.path) refl
    where
      on_path : (a c : Bool) → (if a then c else true) ≡ (if a && true then c else true)
      on_path true c = refl
      on_path false c = refl

      off_path : (a m c l : Bool) → true ≡ ((if a && false then c else true) && (if m && false then l else true))
      off_path true true c l = refl
      off_path true false c l = refl
      off_path false true c l = refl
      off_path false false c l = refl

      by_path : (b : Bool) → contains_section listed.point route.path ≡ b → (not (contains_section listed.point route.path) || list_all (tree_holds (image_of p s)) (point_matches_route_mode p r route listed))
          ≡ (is_point_commanded_if_allocating p s route now listed && is_point_set_if_locked_or_occupied p s route now listed)
      by_path true e =
          rw e (point_matches_route_mode-holds r route now listed known at ∙ ap (λ v. v && is_point_set_if_locked_or_occupied p s route now listed) (on_path (same_mode now.mode Allocating) (is_point_commanded_as_listed p s listed)))
      by_path false e =
          let none = not-kept route now listed.point e in
          rw (e, none) (off_path (same_mode now.mode Allocating) (is_locked_or_occupied now) (is_point_commanded_as_listed p s listed) (is_point_commanded_as_listed p s listed && is_point_detected_as_listed p s listed))

  v6-of : (r : ℕ) (route : Route) (now : RouteState) → slice_get p.routes r ≡ Some route →
      slice_get s.routes r ≡ Some now →
      list_all (tree_holds (image_of p s)) (flat_map (point_matches_route_mode p r route) (listed_points_on_path route))
      ≡ list_all (λ listed. is_point_commanded_if_allocating p s route now listed && is_point_set_if_locked_or_occupied p s route now listed)
      route.points
  v6-of r route now known at =
      list_all-flat_map (tree_holds (image_of p s)) (point_matches_route_mode p r route) (listed_points_on_path route)
      ∙ list_all-filter (λ listed. list_all (tree_holds (image_of p s)) (point_matches_route_mode p r route listed)) (λ listed. contains_section listed.point route.path) route.points
      ∙ list_all-alike
      (λ listed. not (contains_section listed.point route.path)
      || list_all (tree_holds (image_of p s)) (point_matches_route_mode p r route listed))
      (λ listed. is_point_commanded_if_allocating p s route now listed && is_point_set_if_locked_or_occupied p s route now listed) route.points
      (λ i listed found. point-of r route now listed known at)

  pub v6-law : tree_holds (image_of p s) (v6_points_match_modes_tree p) ≡ meets_v6_points_match_modes p s
  v6-law =
      each_of-holds (image_of p s) (conditions_of_each_route p (λ r route. flat_map (point_matches_route_mode p r route) (listed_points_on_path route)))
      ∙ each-route p s shape (image_of p s) (λ r route. flat_map (point_matches_route_mode p r route) (listed_points_on_path route))
      (λ route now. list_all (λ listed. is_point_commanded_if_allocating p s route now listed && is_point_set_if_locked_or_occupied p s route now listed) route.points) v6-of
