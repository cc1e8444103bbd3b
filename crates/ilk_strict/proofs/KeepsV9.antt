-- No event breaks V9: each protecting board of a Locked route is Closed. Only a source is opened,
-- and only if no Locked route has it as a protecting board.
use Rattle.std.proofs.Common.{◌≡◌, ℕ, ◌+◌, true, ◌==◌, ◌&&◌, Some, List, inl, inr, length, slice_get, refl, sym, ◌∙◌, ap}
use Rattle.std.specs.List.{list_any}
use Rattle.std.proofs.lemmas.Bool.{and_from, both_ways, eq-eqb}
use Rattle.std.proofs.lemmas.Option.{slice_get_within}
use Rattle.ilk_base.proofs.ListTests.{all-at}
use Rattle.ilk_base.proofs.Tested.{list_all-slice_get, list_any-from}
use Rattle.ilk_plant.specs.Plant.{IsPlant, PlantLists}
use Rattle.ilk_plant.specs.Shape.{HasShape}
use Rattle.ilk_plant.specs.declared.state.Aspect.{Aspect}
use Rattle.ilk_plant.specs.declared.state.Aspect.TheVariants.{Open, Closed}
use Rattle.ilk_plant.specs.declared.state.Mode.TheVariants.{Free, Marked, Allocating, Locked, Occupied}
use Rattle.ilk_plant.specs.declared.state.RouteState.{RouteState}
use Rattle.ilk_plant.specs.declared.state.State.{State}
use Rattle.ilk_plant.specs.declared.table.Route.{Route}
use Rattle.ilk_routes.specs.Boards.{has_aspect, is_protecting_locked_route, is_protecting_board}
use Rattle.ilk_routes.specs.Modes.{has_mode}
use Rattle.ilk_model.specs.Families.{meets_v9_protecting_boards_closed}
use Rattle.ilk_strict.proofs.After.{after-cases, same-here, same-route, v9-reads}
use Rattle.ilk_strict.proofs.Boards.{head-closed, other-board, sense-closed}
use Rattle.ilk_model.proofs.PointFrames.{IsSettled, IsThrown}
use Rattle.ilk_model.proofs.RouteFrames.{ChangesRoute, IsAllocated, IsCancelled, IsFinished, IsLocked, IsMarked, IsReleased, IsSensed}
use Rattle.ilk_model.proofs.TrainFrames.{IsEntered, IsHeaded, IsLeft, IsTailed}
use Rattle.ilk_strict.proofs.Reading.{RouteIn, has_aspect-at, is_true_for_any_below-from}
use Rattle.ilk_strict.proofs.BoardFacts.{protected-at, protected-from}
use Rattle.ilk_strict.proofs.TrainFacts.{Keeps}

module _ (p : PlantLists) (plant : IsPlant p) (s t : State) (keeps : Keeps p s) (shape : HasShape p t) (n : ℕ) where
  changed : (route : Route) (now new : RouteState) → ChangesRoute p s t n route now new →
      ((q : ℕ) (one : Route) (its : RouteState) → RouteIn p s q one its → its.mode ≡ Locked → (k m : ℕ) →
      slice_get one.protecting_boards k ≡ Some m → slice_get s.boards m ≡ Some Closed →
      slice_get t.boards m ≡ Some Closed) →
      (new.mode ≡ Locked → (k m : ℕ) → slice_get route.protecting_boards k ≡ Some m →
      slice_get t.boards m ≡ Some Closed) →
      meets_v9_protecting_boards_closed p t ≡ true
  changed route now new changes stay mine =
      protected-from p t shape.routes (λ q one its it mode k m at. elim (after-cases p s t n route now new changes q one its it) [
        | inl here ↦ same-here (λ u v. v.mode ≡ Locked → (k m : ℕ) → slice_get u.protecting_boards k ≡ Some m → slice_get t.boards m ≡ Some Closed) one route its new here.1 here.2 mine mode k m at
        | inr other ↦ stay q one its other.1 mode k m at (protected-at p s keeps.v9 q one its other.1 mode k m at)
      ])

  unlocked : (route : Route) (now new : RouteState) → ChangesRoute p s t n route now new → t.boards ≡ s.boards → (new.mode ≡ Locked → ⊥) → meets_v9_protecting_boards_closed p t ≡ true
  unlocked route now new changes boards apart =
      changed route now new changes (λ q one its it mode k m at closed. ap (λ (l : List Aspect). slice_get l m) boards ∙ closed) (λ mode. absurd (apart mode))

  pub mark-meets_v9_protecting_boards_closed : IsMarked p s t n → meets_v9_protecting_boards_closed p t ≡ true
  mark-meets_v9_protecting_boards_closed it = let now = it.now in unlocked it.route now (record now { mode = Marked }) it.changes it.boards (λ e. cc)

  pub allocate-meets_v9_protecting_boards_closed : IsAllocated p s t n → meets_v9_protecting_boards_closed p t ≡ true
  allocate-meets_v9_protecting_boards_closed it = let now = it.now in unlocked it.route now (record now { mode = Allocating }) it.changes it.boards (λ e. cc)

  pub lock-meets_v9_protecting_boards_closed : IsLocked p s t n → meets_v9_protecting_boards_closed p t ≡ true
  lock-meets_v9_protecting_boards_closed it =
      changed it.route it.now new it.changes
      (λ q one its that mode k m at closed. elsewhere m (λ same. unprotected q one its that mode k m at same) closed)
      (λ mode k m at. elsewhere m
      (all-at (λ m. m ≡ it.route.source → ⊥) it.route.protecting_boards k m
      (plant.routes_known n it.route it.changes.known).protecting_boards_other at)
      (has_aspect-at s m Closed
      (list_all-slice_get (λ m. has_aspect s m Closed) it.route.protecting_boards k m it.closed at)))
    where
      new : RouteState
      new = let now = it.now in record now { mode = Locked }

      elsewhere : (m : ℕ) → (m ≡ it.route.source → ⊥) → slice_get s.boards m ≡ Some Closed → slice_get t.boards m ≡ Some Closed
      elsewhere m apart closed = ap (λ (l : List Aspect). slice_get l m) it.boards ∙ other-board s.boards it.route.source m Open apart ∙ closed

      unprotected : (q : ℕ) (one : Route) (its : RouteState) → RouteIn p s q one its → its.mode ≡ Locked → (k m : ℕ) → slice_get one.protecting_boards k ≡ Some m → m ≡ it.route.source → ⊥
      unprotected q one its that mode k m at same =
          let is_locked : has_mode s q Locked ≡ true = rw (that.state, mode) refl in
          let among : list_any (λ b. b == it.route.source) one.protecting_boards ≡ true = list_any-from (λ b. b == it.route.source) one.protecting_boards k m at (eq-eqb m it.route.source same) in
          let protects : is_protecting_board p q it.route.source ≡ true = rw that.known among in
          both_ways (is_protecting_locked_route p s it.route.source) it.unprotecting
          (is_true_for_any_below-from (length p.routes) (λ q. has_mode s q Locked && is_protecting_board p q it.route.source) q (slice_get_within p.routes q one that.known)
          (and_from (has_mode s q Locked) (is_protecting_board p q it.route.source) is_locked protects))

  pub sense-meets_v9_protecting_boards_closed : IsSensed p s t n → meets_v9_protecting_boards_closed p t ≡ true
  sense-meets_v9_protecting_boards_closed it =
      let now = it.now in
      changed it.route now (record now { mode = Occupied; seen = now.seen + 1 }) it.changes (λ q one its that mode k m at closed. sense-closed p s t n it m closed) (λ e. cc)

  pub release-meets_v9_protecting_boards_closed : IsReleased p s t n → meets_v9_protecting_boards_closed p t ≡ true
  release-meets_v9_protecting_boards_closed it = let now = it.now in unlocked it.route now (record now { rel = now.rel + 1 }) it.changes it.boards (λ e. let bad : Occupied ≡ Locked = sym it.was ∙ e in cc)

  pub finish-meets_v9_protecting_boards_closed : IsFinished p s t n → meets_v9_protecting_boards_closed p t ≡ true
  finish-meets_v9_protecting_boards_closed it = unlocked it.route it.now (record { mode = Free; seen = 0; rel = 0 }) it.changes it.boards (λ e. cc)

  pub throw-meets_v9_protecting_boards_closed : IsThrown p s t n → meets_v9_protecting_boards_closed p t ≡ true
  throw-meets_v9_protecting_boards_closed it = v9-reads p s t it.routes it.boards keeps.v9

  pub settle-meets_v9_protecting_boards_closed : IsSettled p s t n → meets_v9_protecting_boards_closed p t ≡ true
  settle-meets_v9_protecting_boards_closed it = v9-reads p s t it.routes it.boards keeps.v9

  pub enter-meets_v9_protecting_boards_closed : IsEntered p s t n → meets_v9_protecting_boards_closed p t ≡ true
  enter-meets_v9_protecting_boards_closed it = v9-reads p s t it.routes it.boards keeps.v9

  pub head-meets_v9_protecting_boards_closed : IsHeaded p s t n → meets_v9_protecting_boards_closed p t ≡ true
  head-meets_v9_protecting_boards_closed it =
      protected-from p t shape.routes (λ q one its that mode k m at. head-closed p s t n it m (protected-at p s keeps.v9 q one its (same-route p s t it.routes q one its that) mode k m at))

  pub tail-meets_v9_protecting_boards_closed : IsTailed p s t n → meets_v9_protecting_boards_closed p t ≡ true
  tail-meets_v9_protecting_boards_closed it = v9-reads p s t it.routes it.boards keeps.v9

  pub leave-meets_v9_protecting_boards_closed : IsLeft p s t n → meets_v9_protecting_boards_closed p t ≡ true
  leave-meets_v9_protecting_boards_closed it = v9-reads p s t it.routes it.boards keeps.v9

  pub cancel-meets_v9_protecting_boards_closed : IsCancelled p s t n → meets_v9_protecting_boards_closed p t ≡ true
  cancel-meets_v9_protecting_boards_closed it = let now = it.now in unlocked it.route now (record now { mode = Free }) it.changes it.boards (λ e. cc)
