-- Lists after a change of one route, of some locks or of trains.
use Rattle.std.proofs.Common.{◌≡◌, ℕ, ◌<◌, Bool, true, false, Option, Some, None, option_map, List, inl, inr, ◌⊎◌, length, set, slice_get, refl, sym, ap, ◌∙◌, subst}
use Rattle.std.specs.Prelude.{if◌then◌else◌}
use Rattle.std.proofs.lemmas.Bool.{cases_eq}
use Rattle.std.proofs.lemmas.Option.{same_Some, slice_get_within}
use Rattle.ilk_base.proofs.Lists.{item_at, slice_get-set_other, slice_get-set_same}
use Rattle.ilk_base.proofs.Numbered.{slice_get-map_numbered}
use Rattle.ilk_plant.specs.Network.{contains_section}
use Rattle.ilk_plant.specs.Plant.{PlantLists}
use Rattle.ilk_plant.specs.State.{is_occupied}
use Rattle.ilk_plant.specs.declared.state.Aspect.{Aspect}
use Rattle.ilk_plant.specs.declared.state.Hold.{Hold}
use Rattle.ilk_plant.specs.declared.state.PointState.{PointState}
use Rattle.ilk_plant.specs.declared.state.RouteState.{RouteState}
use Rattle.ilk_plant.specs.declared.state.State.{State}
use Rattle.ilk_plant.specs.declared.state.Train.{Train}
use Rattle.ilk_plant.specs.declared.table.Route.{Route}
use Rattle.ilk_routes.specs.Locks.{with_locks}
use Rattle.ilk_model.specs.Families.{meets_v1_consistent_counts, meets_v2_sections_held_once, meets_v3_locks_match_routes, meets_v4_allocating_paths_vacant, meets_v5_open_needs_locked, meets_v6_points_match_modes, meets_v7_heads_have_routes, meets_v8_bodies_have_routes, meets_v9_protecting_boards_closed}
use Rattle.ilk_model.specs.Hazard.{has_two_trains, is_wrong_under_train}
use Rattle.ilk_model.proofs.RouteFrames.{ChangesRoute}
use Rattle.ilk_strict.proofs.Reading.{RouteIn}

pub set-cases : {X : Type 0} (xs : List X) (i j : ℕ) (x y z : X) → slice_get xs i ≡ Some x → slice_get (set xs i y) j ≡ Some z → ((j ≡ i) × (z ≡ y)) ⊎ ((j ≡ i → ⊥) × (slice_get xs j ≡ Some z))
set-cases xs i j x y z there at = elim (cases_eq j i) [
  | inl same ↦ inl (same, same_Some z y (sym at ∙ ap (slice_get (set xs i y)) same ∙ slice_get-set_same xs i y (slice_get_within xs i x there)))
  | inr apart ↦ inr (apart, sym (slice_get-set_other xs i j y (λ e. apart (sym e))) ∙ at)
]

pub before-change : (p : PlantLists) (s t : State) (r : ℕ) (route : Route) (now new : RouteState) → ChangesRoute p s t r route now new → RouteIn p s r route now
before-change p s t r route now new changes = record { known = changes.known; state = changes.state }

pub after-change : (p : PlantLists) (s t : State) (r : ℕ) (route : Route) (now new : RouteState) → ChangesRoute p s t r route now new → RouteIn p t r route new
after-change p s t r route now new changes = record {
  known = changes.known;
  state = ap (λ (routes : List RouteState). slice_get routes r) changes.routes ∙ slice_get-set_same s.routes r new (slice_get_within s.routes r now changes.state);
}

pub other-stays : (p : PlantLists) (s t : State) (r : ℕ) (route : Route) (now new : RouteState) → ChangesRoute p s t r route now new → (q : ℕ) (one : Route) (its : RouteState) → (q ≡ r → ⊥) → RouteIn p s q one its → RouteIn p t q one its
other-stays p s t r route now new changes q one its apart it = record {
  known = it.known;
  state = ap (λ (routes : List RouteState). slice_get routes q) changes.routes ∙ slice_get-set_other s.routes r q new (λ e. apart (sym e)) ∙ it.state;
}

pub after-cases : (p : PlantLists) (s t : State) (r : ℕ) (route : Route) (now new : RouteState) →
    ChangesRoute p s t r route now new → (q : ℕ) (one : Route) (its : RouteState) → RouteIn p t q one its →
    ((q ≡ r) × (one ≡ route) × (its ≡ new)) ⊎ ((q ≡ r → ⊥) × RouteIn p s q one its)
after-cases p s t r route now new changes q one its it =
    elim (set-cases s.routes r q now new its changes.state (sym (ap (λ (routes : List RouteState). slice_get routes q) changes.routes) ∙ it.state)) [
      | inl here ↦ inl (here.0, same_Some one route (sym it.known ∙ ap (slice_get p.routes) here.0 ∙ changes.known), here.1)
      | inr other ↦ inr (other.0, record { known = it.known; state = other.1 })
    ]

pub same-here : (P : Route → RouteState → Type 0) (one route : Route) (its new : RouteState) → one ≡ route → its ≡ new → P route new → P one its
same-here P one route its new e f h =
    let Q : RouteState → Type 0 = λ u. P route u in
    let R : Route → Type 0 = λ u. P u its in
    subst R (sym e) (subst Q (sym f) h)

pub same-route : (p : PlantLists) (s t : State) → t.routes ≡ s.routes → (q : ℕ) (one : Route) (its : RouteState) → RouteIn p t q one its → RouteIn p s q one its
same-route p s t e q one its it = record {
  known = it.known;
  state = sym (ap (λ (routes : List RouteState). slice_get routes q) e) ∙ it.state;
}

pub route-stays : (p : PlantLists) (s t : State) → t.routes ≡ s.routes → (q : ℕ) (one : Route) (its : RouteState) → RouteIn p s q one its → RouteIn p t q one its
route-stays p s t e q one its it = record {
  known = it.known;
  state = ap (λ (routes : List RouteState). slice_get routes q) e ∙ it.state;
}

pub one-state : (p : PlantLists) (s : State) (q r : ℕ) (one other : Route) (its now : RouteState) → RouteIn p s q one its → RouteIn p s r other now → q ≡ r → (one ≡ other) × (its ≡ now)
one-state p s q r one other its now it that e =
    (same_Some one other (sym it.known ∙ ap (slice_get p.routes) e ∙ that.known), same_Some its now (sym it.state ∙ ap (slice_get s.routes) e ∙ that.state))

pub given-lock : (locks : List Hold) (xs : List ℕ) (hold : Hold) (x : ℕ) → contains_section x xs ≡ true → x < length locks → slice_get (with_locks locks xs hold) x ≡ Some hold
given-lock locks xs hold x among within =
    let lock = item_at locks x within in
    slice_get-map_numbered (λ y lock. if contains_section y xs then hold else lock) locks x ∙ rw (lock.1, among) refl

pub other-lock : (locks : List Hold) (xs : List ℕ) (hold : Hold) (x : ℕ) → contains_section x xs ≡ false → slice_get (with_locks locks xs hold) x ≡ slice_get locks x
other-lock locks xs hold x away =
    slice_get-map_numbered (λ y lock. if contains_section y xs then hold else lock) locks x ∙ kept (slice_get locks x) (contains_section x xs) away
  where
    kept : (o : Option Hold) (b : Bool) → b ≡ false → option_map (λ lock. if b then hold else lock) o ≡ o
    kept None b e = refl
    kept (Some lock) b e = rw e refl

pub same-occupied : (s t : State) → t.trains ≡ s.trains → (x : ℕ) → is_occupied t x ≡ is_occupied s x
same-occupied s t e x =
    ap (λ (trains : List Train). is_occupied (record s { trains = trains }) x) e

module _ (p : PlantLists) (s t : State) where
  pub v1-reads : t.routes ≡ s.routes → meets_v1_consistent_counts p s ≡ true → meets_v1_consistent_counts p t ≡ true
  v1-reads routes kept =
      let P : List RouteState → Type 0 = λ now. meets_v1_consistent_counts p (record s { routes = now }) ≡ true in subst P (sym routes) kept

  pub v2-reads : t.routes ≡ s.routes → meets_v2_sections_held_once p s ≡ true → meets_v2_sections_held_once p t ≡ true
  v2-reads routes kept =
      let P : List RouteState → Type 0 = λ now. meets_v2_sections_held_once p (record s { routes = now }) ≡ true in subst P (sym routes) kept

  pub v3-reads : t.routes ≡ s.routes → t.locks ≡ s.locks → meets_v3_locks_match_routes p s ≡ true → meets_v3_locks_match_routes p t ≡ true
  v3-reads routes locks kept =
      let P : List RouteState → Type 0 = λ now. meets_v3_locks_match_routes p (record s { routes = now }) ≡ true in
      let Q : List Hold → Type 0 = λ now. meets_v3_locks_match_routes p (record s { routes = t.routes; locks = now }) ≡ true in
      subst Q (sym locks) (subst P (sym routes) kept)

  pub v4-reads : t.routes ≡ s.routes → t.trains ≡ s.trains → meets_v4_allocating_paths_vacant p s ≡ true → meets_v4_allocating_paths_vacant p t ≡ true
  v4-reads routes trains kept =
      let P : List RouteState → Type 0 = λ now. meets_v4_allocating_paths_vacant p (record s { routes = now }) ≡ true in
      let Q : List Train → Type 0 = λ now. meets_v4_allocating_paths_vacant p (record s { routes = t.routes; trains = now }) ≡ true in
      subst Q (sym trains) (subst P (sym routes) kept)

  pub v5-reads : t.routes ≡ s.routes → t.boards ≡ s.boards → t.trains ≡ s.trains → meets_v5_open_needs_locked p s ≡ true → meets_v5_open_needs_locked p t ≡ true
  v5-reads routes boards trains kept =
      let P : List RouteState → Type 0 = λ now. meets_v5_open_needs_locked p (record s { routes = now }) ≡ true in
      let Q : List Aspect → Type 0 = λ now. meets_v5_open_needs_locked p (record s { routes = t.routes; boards = now }) ≡ true in
      let R : List Train → Type 0 = λ now. meets_v5_open_needs_locked p (record s { routes = t.routes; boards = t.boards; trains = now }) ≡ true in
      subst R (sym trains) (subst Q (sym boards) (subst P (sym routes) kept))

  pub v6-reads : t.routes ≡ s.routes → t.points ≡ s.points → meets_v6_points_match_modes p s ≡ true → meets_v6_points_match_modes p t ≡ true
  v6-reads routes points kept =
      let P : List RouteState → Type 0 = λ now. meets_v6_points_match_modes p (record s { routes = now }) ≡ true in
      let Q : List PointState → Type 0 = λ now. meets_v6_points_match_modes p (record s { routes = t.routes; points = now }) ≡ true in
      subst Q (sym points) (subst P (sym routes) kept)

  pub v7-reads : t.routes ≡ s.routes → t.boards ≡ s.boards → t.trains ≡ s.trains → meets_v7_heads_have_routes p s ≡ true → meets_v7_heads_have_routes p t ≡ true
  v7-reads routes boards trains kept =
      let P : List RouteState → Type 0 = λ now. meets_v7_heads_have_routes p (record s { routes = now }) ≡ true in
      let Q : List Aspect → Type 0 = λ now. meets_v7_heads_have_routes p (record s { routes = t.routes; boards = now }) ≡ true in
      let R : List Train → Type 0 = λ now. meets_v7_heads_have_routes p (record s { routes = t.routes; boards = t.boards; trains = now }) ≡ true in
      subst R (sym trains) (subst Q (sym boards) (subst P (sym routes) kept))

  pub v8-reads : t.routes ≡ s.routes → t.trains ≡ s.trains → meets_v8_bodies_have_routes p s ≡ true → meets_v8_bodies_have_routes p t ≡ true
  v8-reads routes trains kept =
      let P : List RouteState → Type 0 = λ now. meets_v8_bodies_have_routes p (record s { routes = now }) ≡ true in
      let Q : List Train → Type 0 = λ now. meets_v8_bodies_have_routes p (record s { routes = t.routes; trains = now }) ≡ true in
      subst Q (sym trains) (subst P (sym routes) kept)

  pub v9-reads : t.routes ≡ s.routes → t.boards ≡ s.boards → meets_v9_protecting_boards_closed p s ≡ true → meets_v9_protecting_boards_closed p t ≡ true
  v9-reads routes boards kept =
      let P : List RouteState → Type 0 = λ now. meets_v9_protecting_boards_closed p (record s { routes = now }) ≡ true in
      let Q : List Aspect → Type 0 = λ now. meets_v9_protecting_boards_closed p (record s { routes = t.routes; boards = now }) ≡ true in
      subst Q (sym boards) (subst P (sym routes) kept)

  pub two-reads : (x : ℕ) → t.trains ≡ s.trains → has_two_trains s x ≡ false → has_two_trains t x ≡ false
  two-reads x trains none =
      let P : List Train → Type 0 = λ now. has_two_trains (record s { trains = now }) x ≡ false in subst P (sym trains) none

  pub wrong-reads : (x : ℕ) → t.points ≡ s.points → t.trains ≡ s.trains → is_wrong_under_train p s x ≡ false → is_wrong_under_train p t x ≡ false
  wrong-reads x points trains none =
      let P : List PointState → Type 0 = λ now. is_wrong_under_train p (record s { points = now }) x ≡ false in
      let Q : List Train → Type 0 = λ now. is_wrong_under_train p (record s { points = t.points; trains = now }) x ≡ false in
      subst Q (sym trains) (subst P (sym points) none)
