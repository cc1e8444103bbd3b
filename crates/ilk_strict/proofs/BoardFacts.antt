-- The statements of V5, V6 and V9 for each route.
use Rattle.std.proofs.Common.{◌≡◌, ℕ, ◌<◌, Bool, true, false, ◌==◌, ◌&&◌, Some, length, slice_get, refl}
use Rattle.std.specs.Prelude.{if◌then◌else◌}
use Rattle.std.specs.List.{list_all}
use Rattle.std.proofs.lemmas.Bool.{and_from, and_parts, eqb-true, eq-eqb}
use Rattle.ilk_base.proofs.Tested.{all-pass, list_all-slice_get}
use Rattle.ilk_base.proofs.Truth.{if-passes, passes-if}
use Rattle.ilk_plant.specs.Network.{contains_section}
use Rattle.ilk_plant.specs.Plant.{PlantLists}
use Rattle.ilk_plant.specs.State.{is_occupied}
use Rattle.ilk_plant.specs.declared.state.Aspect.TheVariants.{Open, Closed}
use Rattle.ilk_plant.specs.declared.state.Mode.TheVariants.{Allocating, Locked}
use Rattle.ilk_plant.specs.declared.state.RouteState.{RouteState}
use Rattle.ilk_plant.specs.declared.state.State.{State}
use Rattle.ilk_plant.specs.declared.table.Listed.{Listed}
use Rattle.ilk_plant.specs.declared.table.Route.{Route}
use Rattle.ilk_routes.specs.Boards.{has_aspect}
use Rattle.ilk_routes.specs.Lies.{is_point_detected_as_listed}
use Rattle.ilk_routes.specs.Modes.{same_mode}
use Rattle.ilk_model.specs.Commanded.{is_point_commanded_as_listed}
use Rattle.ilk_model.specs.Families.{is_point_commanded_if_allocating, meets_v5_open_needs_locked, meets_v6_points_match_modes, meets_v9_protecting_boards_closed, is_point_set_if_locked_or_occupied}
use Rattle.ilk_model.specs.Holding.{is_unreleased_on_path, is_locked_or_occupied, is_vacant}
use Rattle.ilk_model.proofs.Alike.{one_mode}
use Rattle.ilk_strict.proofs.Reading.{RouteIn, is_true_for_all_below-at, is_true_for_all_below-from, all_routes_pass_test-at, all_routes_pass_test-from, has_aspect-at, has_aspect-from, any_route_passes_test-at, any_route_passes_test-from}
use Rattle.ilk_strict.proofs.RouteFacts.{all_vacant-at, all_vacant-from}

pub record IsOpenFor (p : PlantLists) (s : State) (m : ℕ) : Type 0 where
  pub r : ℕ
  pub route : Route
  pub now : RouteState
  pub it : RouteIn p s r route now
  pub source : route.source ≡ m
  pub mode : now.mode ≡ Locked
  pub vacant : (i x : ℕ) → slice_get route.path i ≡ Some x → is_occupied s x ≡ false

module _ (p : PlantLists) (s : State) where
  abbrev opens : ℕ → Route → RouteState → Bool
  opens m route now = (route.source == m) && same_mode now.mode Locked && list_all (is_vacant s) route.path

  pub open-at : meets_v5_open_needs_locked p s ≡ true → (m : ℕ) → m < length p.boards → slice_get s.boards m ≡ Some Open → IsOpenFor p s m
  open-at kept m within shown =
      let found = any_route_passes_test-at p s (opens m) (if-passes (has_aspect s m Open) _ (is_true_for_all_below-at (length p.boards) _ kept m within) (has_aspect-from s m Open shown)) in
      let parts = and_parts ((found.1.source == m) && same_mode found.2.mode Locked) (list_all (is_vacant s) found.1.path) found.4 in
      let both = and_parts (found.1.source == m) (same_mode found.2.mode Locked) parts.0 in
      record {
        r = found.0;
        route = found.1;
        now = found.2;
        it = found.3;
        source = eqb-true found.1.source m both.0;
        mode = one_mode found.2.mode Locked both.1;
        vacant = all_vacant-at s found.1.path parts.1;
      }

  pub open-from : ((m : ℕ) → m < length p.boards → slice_get s.boards m ≡ Some Open → IsOpenFor p s m) → meets_v5_open_needs_locked p s ≡ true
  open-from each =
      is_true_for_all_below-from (length p.boards) _ (λ m within. passes-if (has_aspect s m Open) _ (λ shown.
      let one = each m within (has_aspect-at s m Open shown) in
      let mode : same_mode one.now.mode Locked ≡ true = rw one.mode refl in
      any_route_passes_test-from p s (opens m) one.r one.route one.now one.it
      (and_from ((one.route.source == m) && same_mode one.now.mode Locked)
      (list_all (is_vacant s) one.route.path)
      (and_from (one.route.source == m) (same_mode one.now.mode Locked)
      (eq-eqb one.route.source m one.source) mode)
      (all_vacant-from s one.route.path one.vacant))))

  abbrev points_fit : Route → RouteState → Bool
  points_fit route now = list_all (λ listed. is_point_commanded_if_allocating p s route now listed && is_point_set_if_locked_or_occupied p s route now listed) route.points

  pub commanded-at : meets_v6_points_match_modes p s ≡ true → (r : ℕ) (route : Route) (now : RouteState) →
      RouteIn p s r route now → (k : ℕ) (listed : Listed) → slice_get route.points k ≡ Some listed →
      now.mode ≡ Allocating → contains_section listed.point route.path ≡ true →
      is_point_commanded_as_listed p s listed ≡ true
  commanded-at kept r route now it k listed at mode on =
      let both = and_parts (is_point_commanded_if_allocating p s route now listed) (is_point_set_if_locked_or_occupied p s route now listed)
      (list_all-slice_get
      (λ listed. is_point_commanded_if_allocating p s route now listed && is_point_set_if_locked_or_occupied p s route now listed) route.points
      k listed (all_routes_pass_test-at p s points_fit kept r route now it) at) in
      if-passes (same_mode now.mode Allocating && contains_section listed.point route.path) (is_point_commanded_as_listed p s listed) both.0 (and_from (same_mode now.mode Allocating) (contains_section listed.point route.path) (rw mode refl) on)

  pub lies-at : meets_v6_points_match_modes p s ≡ true → (r : ℕ) (route : Route) (now : RouteState) → RouteIn p s r route now →
      (k : ℕ) (listed : Listed) → slice_get route.points k ≡ Some listed → is_locked_or_occupied now ≡ true →
      is_unreleased_on_path route now listed.point ≡ true →
      (is_point_commanded_as_listed p s listed ≡ true) × (is_point_detected_as_listed p s listed ≡ true)
  lies-at kept r route now it k listed at mode on =
      let both = and_parts (is_point_commanded_if_allocating p s route now listed) (is_point_set_if_locked_or_occupied p s route now listed)
      (list_all-slice_get
      (λ listed. is_point_commanded_if_allocating p s route now listed && is_point_set_if_locked_or_occupied p s route now listed) route.points
      k listed (all_routes_pass_test-at p s points_fit kept r route now it) at) in
      and_parts (is_point_commanded_as_listed p s listed) (is_point_detected_as_listed p s listed)
      (if-passes (is_locked_or_occupied now && is_unreleased_on_path route now listed.point)
      (is_point_commanded_as_listed p s listed && is_point_detected_as_listed p s listed) both.1
      (and_from (is_locked_or_occupied now) (is_unreleased_on_path route now listed.point) mode on))

  pub points-from : length s.routes ≡ length p.routes →
      ((r : ℕ) (route : Route) (now : RouteState) → RouteIn p s r route now → (k : ℕ) (listed : Listed) →
      slice_get route.points k ≡ Some listed →
      (now.mode ≡ Allocating → contains_section listed.point route.path ≡ true →
      is_point_commanded_as_listed p s listed ≡ true) ×
      (is_locked_or_occupied now ≡ true → is_unreleased_on_path route now listed.point ≡ true →
      (is_point_commanded_as_listed p s listed ≡ true) × (is_point_detected_as_listed p s listed ≡ true))) →
      meets_v6_points_match_modes p s ≡ true
  points-from count each =
      all_routes_pass_test-from p s points_fit count (λ r route now it.
      all-pass (λ listed. is_point_commanded_if_allocating p s route now listed && is_point_set_if_locked_or_occupied p s route now listed) route.points (λ k listed at.
      let both = each r route now it k listed at in
      and_from (is_point_commanded_if_allocating p s route now listed) (is_point_set_if_locked_or_occupied p s route now listed)
      (passes-if (same_mode now.mode Allocating && contains_section listed.point route.path) (is_point_commanded_as_listed p s listed) (λ h.
      let parts = and_parts (same_mode now.mode Allocating) (contains_section listed.point route.path) h in
      both.0 (one_mode now.mode Allocating parts.0) parts.1))
      (passes-if (is_locked_or_occupied now && is_unreleased_on_path route now listed.point) (is_point_commanded_as_listed p s listed && is_point_detected_as_listed p s listed) (λ h.
      let parts = and_parts (is_locked_or_occupied now) (is_unreleased_on_path route now listed.point) h in
      let lies = both.1 parts.0 parts.1 in
      and_from (is_point_commanded_as_listed p s listed) (is_point_detected_as_listed p s listed) lies.0 lies.1))))

  abbrev is_protected : Route → RouteState → Bool
  is_protected route now = if same_mode now.mode Locked then list_all (λ m. has_aspect s m Closed) route.protecting_boards else true

  pub protected-at : meets_v9_protecting_boards_closed p s ≡ true → (r : ℕ) (route : Route) (now : RouteState) → RouteIn p s r route now → now.mode ≡ Locked → (k m : ℕ) → slice_get route.protecting_boards k ≡ Some m →
      slice_get s.boards m ≡ Some Closed
  protected-at kept r route now it mode k m at =
      has_aspect-at s m Closed
      (list_all-slice_get (λ m. has_aspect s m Closed) route.protecting_boards k m
      (if-passes (same_mode now.mode Locked)
      (list_all (λ m. has_aspect s m Closed) route.protecting_boards)
      (all_routes_pass_test-at p s is_protected kept r route now it) (rw mode refl)) at)

  pub protected-from : length s.routes ≡ length p.routes →
      ((r : ℕ) (route : Route) (now : RouteState) → RouteIn p s r route now → now.mode ≡ Locked → (k m : ℕ) →
      slice_get route.protecting_boards k ≡ Some m → slice_get s.boards m ≡ Some Closed) →
      meets_v9_protecting_boards_closed p s ≡ true
  protected-from count each =
      all_routes_pass_test-from p s is_protected count (λ r route now it.
      passes-if (same_mode now.mode Locked) (list_all (λ m. has_aspect s m Closed) route.protecting_boards) (λ mode.
      all-pass (λ m. has_aspect s m Closed) route.protecting_boards (λ k m at. has_aspect-from s m Closed (each r route now it (one_mode now.mode Locked mode) k m at))))
