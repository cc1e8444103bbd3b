-- The sections that a route holds and its counts, by the image of a state.
use Rattle.std.proofs.Common.{◌≡◌, ℕ, zero, suc, ◌+◌, ◌-◌, ◌≤◌, ◌==◌, Bool, true, false, ◌&&◌, ◌||◌, Some, List, [], ◌∷◌, drop, inl, inr, length, map, nat_le, nat_lt, not, slice_get, refl, sym, ◌∙◌, ap, arith}
use Rattle.std.proofs.Math.Bool.{and-true}
use Rattle.std.specs.Prelude.{if◌then◌else◌}
use Rattle.std.specs.List.{enumerate_from, flat_map, list_any, range_with_len}
use Rattle.std.proofs.lemmas.Bool.{cases_lt}
use Rattle.std.proofs.lemmas.Bool.Decides.{nat_tests}
use Rattle.ilk_base.proofs.ListTests.{list_any-alike}
use Rattle.ilk_base.proofs.Tested.{list_any-map}
use Rattle.ilk_ir.specs.Tree.{tree_holds}
use Rattle.ilk_plant.specs.Network.{contains_section}
use Rattle.ilk_plant.specs.Plant.{PlantLists}
use Rattle.ilk_plant.specs.Shape.{HasShape}
use Rattle.ilk_plant.proofs.Shapes.{seen_and_released_fit_path-counts}
use Rattle.ilk_plant.specs.declared.state.Mode.{Mode}
use Rattle.ilk_plant.specs.declared.state.Mode.TheVariants.{Allocating, Free, Locked, Marked, Occupied}
use Rattle.ilk_plant.specs.declared.state.RouteState.{RouteState}
use Rattle.ilk_plant.specs.declared.state.State.{State}
use Rattle.ilk_plant.specs.declared.table.Route.{Route}
use Rattle.ilk_routes.specs.Claims.{sections_outside_path}
use Rattle.ilk_routes.specs.Modes.{same_mode}
use Rattle.ilk_model.specs.Holding.{holds_section, is_holding_state, is_unreleased_on_path, is_locked_or_occupied}
use Rattle.ilk_layout.specs.Image.{image_of}
use Rattle.ilk_layout.specs.Conditions.{is_released_count, is_seen_count}
use Rattle.ilk_layout.proofs.ConditionValues.{mode-holds, rel-holds, seen-holds}
use Rattle.ilk_invs.specs.Held.{path_section_held, section_held_by, section_retained_by, mode_holds_sections, section_on_unreleased_path, route_locked_or_occupied, is_released_count_below, is_seen_count_below}
use Rattle.ilk_invs.proofs.PartLaws.{any-if, marked_pair-holds, some_of-holds}
use Rattle.ilk_invs.proofs.Tests.{counted-below, found-at, list_any-flat_map}

pub below-next : (c i : ℕ) → nat_lt c (i + 1) ≡ nat_le c i
below-next c i = grind (arith, nat_tests)

rest-has : (k n x : ℕ) (path : List ℕ) → list_any (λ place. nat_le k place.0 && (place.1 == x)) (enumerate_from n path) ≡ contains_section x (drop (k - n) path)
rest-has k n x [] = nothing (k - n)
  where
    nothing : (m : ℕ) → false ≡ contains_section x (drop m [])
    nothing zero = refl
    nothing (suc m) = refl
rest-has k n x (y ∷ ys) = elim (cases_lt n k) [
  | inl before ↦
      (let early : nat_le k n ≡ false = grind (arith, nat_tests) in
      let further : k - n ≡ suc (k - (n + 1)) = omega arith in
      ap (λ b. (b && (y == x)) || list_any (λ place. nat_le k place.0 && (place.1 == x)) (enumerate_from (n + 1) ys)) early
      ∙ rest-has k (n + 1) x ys
      ∙ sym (ap (λ m. contains_section x (drop m (y ∷ ys))) further))
  | inr here ↦
      (let late : nat_le k n ≡ true = grind (arith, nat_tests) in
      let none : k - n ≡ 0 = omega arith in
      let next : k - (n + 1) ≡ 0 = omega arith in
      ap (λ b. (b && (y == x)) || list_any (λ place. nat_le k place.0 && (place.1 == x)) (enumerate_from (n + 1) ys)) late
      ∙ ap (λ b. (y == x) || b) (rest-has k (n + 1) x ys ∙ ap (λ m. contains_section x (drop m ys)) next)
      ∙ sym (ap (λ m. contains_section x (drop m (y ∷ ys))) none))
]

module _ (p : PlantLists) (s : State) (shape : HasShape p s) where
  pub is_seen_count_below-holds : (r : ℕ) (now : RouteState) (k : ℕ) → slice_get s.routes r ≡ Some now → tree_holds (image_of p s) (is_seen_count_below r k) ≡ nat_lt now.seen k
  is_seen_count_below-holds r now k at =
      some_of-holds (image_of p s) (map (is_seen_count r) (range_with_len 0 k))
      ∙ list_any-map (tree_holds (image_of p s)) (is_seen_count r) (range_with_len 0 k)
      ∙ list_any-alike (λ c. tree_holds (image_of p s) (is_seen_count r c)) (λ c. now.seen == c) (range_with_len 0 k) (λ i c found. seen-holds p s shape r now c at)
      ∙ counted-below now.seen k

  pub is_released_count_below-holds : (r : ℕ) (now : RouteState) (k : ℕ) → slice_get s.routes r ≡ Some now → tree_holds (image_of p s) (is_released_count_below r k) ≡ nat_lt now.rel k
  is_released_count_below-holds r now k at =
      some_of-holds (image_of p s) (map (is_released_count r) (range_with_len 0 k))
      ∙ list_any-map (tree_holds (image_of p s)) (is_released_count r) (range_with_len 0 k)
      ∙ list_any-alike (λ c. tree_holds (image_of p s) (is_released_count r c)) (λ c. now.rel == c) (range_with_len 0 k) (λ i c found. rel-holds p s shape r now c at)
      ∙ counted-below now.rel k

  pub route_locked_or_occupied-holds : (r : ℕ) (now : RouteState) → slice_get s.routes r ≡ Some now → tree_holds (image_of p s) (route_locked_or_occupied r) ≡ is_locked_or_occupied now
  route_locked_or_occupied-holds r now at =
      let one = mode-holds p s shape r now Free at in
      let two = mode-holds p s shape r now Marked at in
      let three = mode-holds p s shape r now Allocating at in
      rw (one, two, three) (none_of now.mode)
    where
      none_of : (m : Mode) → not (same_mode m Free || (same_mode m Marked || (same_mode m Allocating || false))) ≡ (same_mode m Locked || same_mode m Occupied)
      none_of Free = refl
      none_of Marked = refl
      none_of Allocating = refl
      none_of Locked = refl
      none_of Occupied = refl

  pub mode_holds_sections-holds : (r : ℕ) (now : RouteState) → slice_get s.routes r ≡ Some now → tree_holds (image_of p s) (mode_holds_sections r) ≡ is_holding_state now
  mode_holds_sections-holds r now at =
      let one = mode-holds p s shape r now Free at in
      let two = mode-holds p s shape r now Marked at in
      rw (one, two) (neither now.mode)
    where
      neither : (m : Mode) → not (same_mode m Free || (same_mode m Marked || false)) ≡ (same_mode m Allocating || (same_mode m Locked || same_mode m Occupied))
      neither Free = refl
      neither Marked = refl
      neither Allocating = refl
      neither Locked = refl
      neither Occupied = refl

  pub section_on_unreleased_path-holds : (r : ℕ) (route : Route) (now : RouteState) (x : ℕ) → slice_get p.routes r ≡ Some route → slice_get s.routes r ≡ Some now → tree_holds (image_of p s) (section_on_unreleased_path r route x) ≡
      is_unreleased_on_path route now x
  section_on_unreleased_path-holds r route now x known at =
      let few : now.rel ≤ length route.path = (seen_and_released_fit_path-counts route now (shape.counts r route now known at)).1 in
      let counts = range_with_len 0 (length route.path + 1) in
      some_of-holds (image_of p s) (flat_map (λ c. if rest c then is_released_count r c ∷ [] else []) counts)
      ∙ list_any-flat_map (tree_holds (image_of p s)) (λ c. if rest c then is_released_count r c ∷ [] else []) counts
      ∙ list_any-alike (λ c. list_any (tree_holds (image_of p s)) (if rest c then is_released_count r c ∷ [] else [])) (λ c. rest c && (now.rel == c)) counts (λ i c found.
      any-if (image_of p s) (is_released_count r c) (rest c) ∙ ap (λ b. rest c && b) (rel-holds p s shape r now c at))
      ∙ found-at rest now.rel (length route.path + 1) (omega (arith, few))
      ∙ (let none : now.rel - 0 ≡ now.rel = omega arith in ap (λ k. contains_section x (drop k route.path)) (sym none))
      ∙ sym (rest-has now.rel 0 x route.path)
    where
      rest : ℕ → Bool
      rest c = contains_section x (drop c route.path)

  pub section_held_by-holds : (r : ℕ) (route : Route) (now : RouteState) (x : ℕ) → slice_get p.routes r ≡ Some route → slice_get s.routes r ≡ Some now → tree_holds (image_of p s) (section_held_by r route x) ≡ holds_section x route now
  section_held_by-holds r route now x known at = by_test (contains_section x (sections_outside_path route)) refl
    where
      by_test : (b : Bool) → contains_section x (sections_outside_path route) ≡ b → tree_holds (image_of p s) (section_held_by r route x) ≡ holds_section x route now
      by_test true e = rw e (mode_holds_sections-holds r now at ∙ sym (and-true (is_holding_state now)))
      by_test false e =
          rw e (marked_pair-holds (image_of p s) (mode_holds_sections r) (section_on_unreleased_path r route x) (is_holding_state now) (is_unreleased_on_path route now x) (mode_holds_sections-holds r now at)
          (section_on_unreleased_path-holds r route now x known at))

  pub path_section_held-holds : (r : ℕ) (now : RouteState) (i : ℕ) → slice_get s.routes r ≡ Some now → tree_holds (image_of p s) (path_section_held r i) ≡ (is_holding_state now && nat_le now.rel i)
  path_section_held-holds r now i at =
      marked_pair-holds (image_of p s) (mode_holds_sections r) (is_released_count_below r (i + 1)) (is_holding_state now) (nat_le now.rel i) (mode_holds_sections-holds r now at) (is_released_count_below-holds r now (i + 1) at ∙ below-next now.rel i)

  pub section_retained_by-holds : (r : ℕ) (route : Route) (now : RouteState) (x : ℕ) → slice_get p.routes r ≡ Some route → slice_get s.routes r ≡ Some now → tree_holds (image_of p s) (section_retained_by r route x) ≡
      (is_locked_or_occupied now && is_unreleased_on_path route now x)
  section_retained_by-holds r route now x known at =
      marked_pair-holds (image_of p s) (route_locked_or_occupied r) (section_on_unreleased_path r route x) (is_locked_or_occupied now) (is_unreleased_on_path route now x) (route_locked_or_occupied-holds r now at)
      (section_on_unreleased_path-holds r route now x known at)
