use Rattle.std.proofs.Common.{◌≡◌, ℕ, ◌+◌, ◌<◌, ◌≤◌, Bool, true, false, Option, Some, None, List, [], ◌∷◌, ◌++◌, drop, length, map, slice_get, refl, ◌∙◌, ap, arith, if◌then◌else◌}
use Rattle.std.specs.List.{enumerate_from, flat_map, list_all, range_with_len}
use Rattle.std.proofs.lemmas.List.Folds.{list_all-append, list_all-map}
use Rattle.std.proofs.lemmas.Option.{slice_get_within}
use Rattle.ilk_base.proofs.ListTests.{all-at, list_all-flat_map}
use Rattle.ilk_base.proofs.Ranges.{range_within}
use Rattle.ilk_base.proofs.Tested.{all-pass}
use Rattle.ilk_base.proofs.Numbered.{enumerated}
use Rattle.ilk_ir.specs.Tree.{Tree, tree_valid}
use Rattle.ilk_ir.proofs.Trees.{all_of-valid, any_of-valid}
use Rattle.ilk_plant.specs.Network.{contains_section}
use Rattle.ilk_plant.specs.Plant.{IsPlant, PlantLists}
use Rattle.ilk_plant.specs.declared.state.Mode.TheVariants.{Allocating, Free, Marked}
use Rattle.ilk_plant.specs.declared.table.Route.{Route}
use Rattle.ilk_routes.specs.Claims.{sections_outside_path}
use Rattle.ilk_layout.specs.Variables.{ranges_of_plant}
use Rattle.ilk_layout.specs.Conditions.{mode_is, no_train_at, is_released_count, is_seen_count}
use Rattle.ilk_layout.proofs.Valid.{mode_is-valid, no_train_at-valid, is_released_count-valid, is_seen_count-valid}
use Rattle.ilk_invs.specs.Held.{path_section_held, section_held_by, section_retained_by, mode_holds_sections, section_on_unreleased_path, route_locked_or_occupied, is_released_count_below, is_seen_count_below}
use Rattle.ilk_invs.specs.Parts.{with_one_literal_mark, conditions_for_optional_value, each_of, conditions_of_each_path_index, conditions_of_each_route, some_of, implication}
use Rattle.ilk_invs.specs.RouteFamilies.{path_vacant}

module _ (p : PlantLists) (plant : IsPlant p) where
  pub each_of-valid : (ts : List Tree) → list_all (tree_valid (ranges_of_plant p)) ts ≡ true → tree_valid (ranges_of_plant p) (each_of ts) ≡ true
  each_of-valid ts h = all_of-valid (ranges_of_plant p) ts ∙ h

  pub some_of-valid : (ts : List Tree) → list_all (tree_valid (ranges_of_plant p)) ts ≡ true → tree_valid (ranges_of_plant p) (some_of ts) ≡ true
  some_of-valid ts h = any_of-valid (ranges_of_plant p) ts ∙ h

  pub one-valid : (t : Tree) → tree_valid (ranges_of_plant p) t ≡ true → list_all (tree_valid (ranges_of_plant p)) (t ∷ []) ≡ true
  one-valid t h = rw h refl

  pub two-valid : (t u : Tree) → tree_valid (ranges_of_plant p) t ≡ true → tree_valid (ranges_of_plant p) u ≡ true → list_all (tree_valid (ranges_of_plant p)) (t ∷ u ∷ []) ≡ true
  two-valid t u h k = rw (h, k) refl

  pub three-valid : (t u v : Tree) → tree_valid (ranges_of_plant p) t ≡ true → tree_valid (ranges_of_plant p) u ≡ true → tree_valid (ranges_of_plant p) v ≡ true → list_all (tree_valid (ranges_of_plant p)) (t ∷ u ∷ v ∷ []) ≡ true
  three-valid t u v h k l = rw (h, k, l) refl

  pub more-valid : (t : Tree) (ts : List Tree) → tree_valid (ranges_of_plant p) t ≡ true → list_all (tree_valid (ranges_of_plant p)) ts ≡ true → list_all (tree_valid (ranges_of_plant p)) (t ∷ ts) ≡ true
  more-valid t ts h k = rw (h, k) refl

  pub joined-valid : (ts us : List Tree) → list_all (tree_valid (ranges_of_plant p)) ts ≡ true → list_all (tree_valid (ranges_of_plant p)) us ≡ true → list_all (tree_valid (ranges_of_plant p)) (ts ++ us) ≡ true
  joined-valid ts us h k = list_all-append (tree_valid (ranges_of_plant p)) ts us ∙ rw (h, k) refl

  pub if-valid : (b : Bool) (ts : List Tree) → list_all (tree_valid (ranges_of_plant p)) ts ≡ true → list_all (tree_valid (ranges_of_plant p)) (if b then ts else []) ≡ true
  if-valid true ts h = h
  if-valid false ts h = refl

  pub implication-valid : (t u : Tree) → tree_valid (ranges_of_plant p) t ≡ true → tree_valid (ranges_of_plant p) u ≡ true → tree_valid (ranges_of_plant p) (implication t u) ≡ true
  implication-valid t u h k = rw (h, k) refl

  pub map-valid : {X : Type 0} (f : X → Tree) (xs : List X) → ((i : ℕ) (x : X) → slice_get xs i ≡ Some x → tree_valid (ranges_of_plant p) (f x) ≡ true) → list_all (tree_valid (ranges_of_plant p)) (map f xs) ≡ true
  map-valid f xs each =
      list_all-map (tree_valid (ranges_of_plant p)) f xs ∙ all-pass (λ x. tree_valid (ranges_of_plant p) (f x)) xs each

  pub flat_map-valid : {X : Type 0} (f : X → List Tree) (xs : List X) → ((i : ℕ) (x : X) → slice_get xs i ≡ Some x → list_all (tree_valid (ranges_of_plant p)) (f x) ≡ true) → list_all (tree_valid (ranges_of_plant p)) (flat_map f xs) ≡ true
  flat_map-valid f xs each =
      list_all-flat_map (tree_valid (ranges_of_plant p)) f xs ∙ all-pass (λ x. list_all (tree_valid (ranges_of_plant p)) (f x)) xs each

  pub conditions_for_optional_value-valid : {X : Type 0} (o : Option X) (f : X → List Tree) → ((x : X) → o ≡ Some x → list_all (tree_valid (ranges_of_plant p)) (f x) ≡ true) → list_all (tree_valid (ranges_of_plant p))
      (conditions_for_optional_value o f) ≡ true
  conditions_for_optional_value-valid None f each = refl
  conditions_for_optional_value-valid (Some x) f each = each x refl

  pub routes-valid : (f : ℕ → Route → List Tree) → ((r : ℕ) (route : Route) → slice_get p.routes r ≡ Some route → list_all (tree_valid (ranges_of_plant p)) (f r route) ≡ true) → list_all (tree_valid (ranges_of_plant p))
      (conditions_of_each_route p f) ≡ true
  routes-valid f each =
      flat_map-valid (λ r. conditions_for_optional_value (slice_get p.routes r) (f r)) (range_with_len 0 (length p.routes)) (λ i r at. conditions_for_optional_value-valid (slice_get p.routes r) (f r) (each r))

  pub places-valid : (route : Route) (f : ℕ → ℕ → List Tree) → ((i x : ℕ) → slice_get route.path i ≡ Some x → list_all (tree_valid (ranges_of_plant p)) (f i x) ≡ true) → list_all (tree_valid (ranges_of_plant p))
      (conditions_of_each_path_index route f) ≡ true
  places-valid route f each =
      flat_map-valid (λ place. f place.0 place.1) (enumerate_from 0 route.path) (λ i place at.
      let it = enumerated 0 route.path i place at in
      let number : place.0 ≡ i = it.0 ∙ omega arith in
      each place.0 place.1 (ap (slice_get route.path) number ∙ it.1))

  pub is_seen_count_below-valid : (r k : ℕ) (route : Route) → slice_get p.routes r ≡ Some route → k ≤ length route.path + 1 → tree_valid (ranges_of_plant p) (is_seen_count_below r k) ≡ true
  is_seen_count_below-valid r k route known few =
      some_of-valid (map (is_seen_count r) (range_with_len 0 k)) (map-valid (is_seen_count r) (range_with_len 0 k) (λ i c at.
      let below = (range_within k i c at).1 in is_seen_count-valid p r c route known (omega (arith, below, few))))

  pub is_released_count_below-valid : (r k : ℕ) (route : Route) → slice_get p.routes r ≡ Some route → k ≤ length route.path + 1 → tree_valid (ranges_of_plant p) (is_released_count_below r k) ≡ true
  is_released_count_below-valid r k route known few =
      some_of-valid (map (is_released_count r) (range_with_len 0 k)) (map-valid (is_released_count r) (range_with_len 0 k) (λ i c at.
      let below = (range_within k i c at).1 in is_released_count-valid p r c route known (omega (arith, below, few))))

  section_on_unreleased_path-valid : (r : ℕ) (route : Route) (x : ℕ) → slice_get p.routes r ≡ Some route → tree_valid (ranges_of_plant p) (section_on_unreleased_path r route x) ≡ true
  section_on_unreleased_path-valid r route x known =
      some_of-valid
      (flat_map (λ c. if contains_section x (drop c route.path) then is_released_count r c ∷ [] else [])
      (range_with_len 0 (length route.path + 1))) (flat_map-valid
      (λ c. if contains_section x (drop c route.path) then is_released_count r c ∷ [] else [])
      (range_with_len 0 (length route.path + 1)) (λ i c at.
      let below = (range_within (length route.path + 1) i c at).1 in
      if-valid (contains_section x (drop c route.path)) (is_released_count r c ∷ []) (one-valid (is_released_count r c) (is_released_count-valid p r c route known (omega (arith, below))))))

  pub route_locked_or_occupied-valid : (r : ℕ) → r < length p.routes → tree_valid (ranges_of_plant p) (route_locked_or_occupied r) ≡ true
  route_locked_or_occupied-valid r within =
      some_of-valid (mode_is r Free ∷ mode_is r Marked ∷ mode_is r Allocating ∷ [])
      (three-valid (mode_is r Free) (mode_is r Marked) (mode_is r Allocating)
      (mode_is-valid p r Free within) (mode_is-valid p r Marked within)
      (mode_is-valid p r Allocating within))

  pub mode_holds_sections-valid : (r : ℕ) → r < length p.routes → tree_valid (ranges_of_plant p) (mode_holds_sections r) ≡ true
  mode_holds_sections-valid r within =
      some_of-valid (mode_is r Free ∷ mode_is r Marked ∷ []) (two-valid (mode_is r Free) (mode_is r Marked) (mode_is-valid p r Free within) (mode_is-valid p r Marked within))

  pub section_retained_by-valid : (r : ℕ) (route : Route) (x : ℕ) → slice_get p.routes r ≡ Some route → tree_valid (ranges_of_plant p) (section_retained_by r route x) ≡ true
  section_retained_by-valid r route x known =
      each_of-valid (route_locked_or_occupied r ∷ section_on_unreleased_path r route x ∷ []) (two-valid (route_locked_or_occupied r) (section_on_unreleased_path r route x) (route_locked_or_occupied-valid r (slice_get_within p.routes r route known))
      (section_on_unreleased_path-valid r route x known))

  pub section_held_by-valid : (r : ℕ) (route : Route) (x : ℕ) → slice_get p.routes r ≡ Some route → tree_valid (ranges_of_plant p) (section_held_by r route x) ≡ true
  section_held_by-valid r route x known = by_test (contains_section x (sections_outside_path route))
    where
      by_test : (b : Bool) → tree_valid (ranges_of_plant p) (if b then mode_holds_sections r else with_one_literal_mark (each_of (mode_holds_sections r ∷ section_on_unreleased_path r route x ∷ []))) ≡ true
      by_test true = mode_holds_sections-valid r (slice_get_within p.routes r route known)
      by_test false =
          each_of-valid (mode_holds_sections r ∷ section_on_unreleased_path r route x ∷ []) (two-valid (mode_holds_sections r) (section_on_unreleased_path r route x) (mode_holds_sections-valid r (slice_get_within
          p.routes r route known)) (section_on_unreleased_path-valid r route x known))

  pub path_section_held-valid : (r i : ℕ) (route : Route) → slice_get p.routes r ≡ Some route → i < length route.path → tree_valid (ranges_of_plant p) (path_section_held r i) ≡ true
  path_section_held-valid r i route known less =
      each_of-valid (mode_holds_sections r ∷ is_released_count_below r (i + 1) ∷ []) (two-valid (mode_holds_sections r) (is_released_count_below r (i + 1)) (mode_holds_sections-valid r (slice_get_within p.routes r route known))
      (is_released_count_below-valid r (i + 1) route known (omega (arith, less))))

  pub path_known : (r : ℕ) (route : Route) (i x : ℕ) → slice_get p.routes r ≡ Some route → slice_get route.path i ≡ Some x → x < length p.sections
  path_known r route i x known at = all-at (λ x. x < length p.sections) route.path i x (plant.routes_known r route known).path at

  pub path_vacant-valid : (r : ℕ) (route : Route) → slice_get p.routes r ≡ Some route → list_all (tree_valid (ranges_of_plant p)) (path_vacant p route) ≡ true
  path_vacant-valid r route known =
      map-valid (no_train_at p) route.path (λ i x at. no_train_at-valid p x (path_known r route i x known at))
