-- No event breaks V5: each Open board is the source of a Locked route whose path sections are all
-- vacant. A board opens as the source of an Allocating route with a vacant path. A train that
-- reaches the path closes the source, or is on another route.
use Rattle.std.proofs.Common.{◌≡◌, ℕ, ◌+◌, true, false, ◌||◌, Some, List, inl, inr, slice_get, refl, sym, ◌∙◌, ap, arith}
use Rattle.std.proofs.lemmas.Bool.{both_ways, cases_eq}
use Rattle.ilk_plant.specs.Plant.{IsPlant, PlantLists, board_of}
use Rattle.ilk_plant.specs.State.{is_occupied}
use Rattle.ilk_plant.specs.declared.state.Aspect.{Aspect}
use Rattle.ilk_plant.specs.declared.state.Aspect.TheVariants.{Open, Closed}
use Rattle.ilk_plant.specs.declared.state.Hold.TheVariants.{Free as FreeLock}
use Rattle.ilk_plant.specs.declared.state.Mode.TheVariants.{Free, Marked, Allocating, Locked, Occupied}
use Rattle.ilk_plant.specs.declared.state.RouteState.{RouteState}
use Rattle.ilk_plant.specs.declared.state.State.{State}
use Rattle.ilk_plant.specs.declared.table.Route.{Route}
use Rattle.ilk_routes.specs.Modes.{same_mode}
use Rattle.ilk_model.specs.Families.{meets_v5_open_needs_locked}
use Rattle.ilk_model.specs.Holding.{holds_section}
use Rattle.ilk_strict.specs.IsStrict.{IsStrict}
use Rattle.ilk_strict.proofs.After.{after-change, before-change, one-state, other-stays, route-stays, same-occupied, v5-reads}
use Rattle.ilk_strict.proofs.Boards.{head-open, other-board, sense-open}
use Rattle.ilk_model.proofs.PointFrames.{IsSettled, IsThrown}
use Rattle.ilk_model.proofs.RouteFrames.{ChangesRoute, IsAllocated, IsCancelled, IsFinished, IsLocked, IsMarked, IsReleased, IsSensed}
use Rattle.ilk_model.proofs.TrainFrames.{IsEntered, IsHeaded, IsLeft, IsTailed}
use Rattle.ilk_strict.proofs.KeepsV4.{headed-goes_on}
use Rattle.ilk_strict.proofs.Reading.{has_lock_state-at}
use Rattle.ilk_strict.proofs.BoardFacts.{IsOpenFor, open-at, open-from}
use Rattle.ilk_strict.proofs.RouteFacts.{alone, held-not_free, holds-path, idle, locked-holds, locked-is, vacant-path}
use Rattle.ilk_strict.proofs.Table.{path-section}
use Rattle.ilk_strict.proofs.TrainFacts.{Keeps}
use Rattle.ilk_strict.proofs.Trains.{enter-vacant, head-vacant, leave-vacant, tail-vacant}

module _ (p : PlantLists) (plant : IsPlant p) (strict : IsStrict p) (s t : State) (keeps : Keeps p s) (n : ℕ) where
  other-open : (route : Route) (now new : RouteState) → ChangesRoute p s t n route now new → t.trains ≡ s.trains → (m : ℕ) → (open_for : IsOpenFor p s m) → (open_for.r ≡ n → ⊥) → IsOpenFor p t m
  other-open route now new changes trains m open_for apart = record {
    r = open_for.r;
    route = open_for.route;
    now = open_for.now;
    it = other-stays p s t n route now new changes open_for.r open_for.route open_for.now apart open_for.it;
    source = open_for.source;
    mode = open_for.mode;
    vacant = λ i x at. same-occupied s t trains x ∙ open_for.vacant i x at;
  }

  is-another : (route : Route) (now new : RouteState) → ChangesRoute p s t n route now new → (now.mode ≡ Locked → ⊥) → (m : ℕ) → (open_for : IsOpenFor p s m) → open_for.r ≡ n → ⊥
  is-another route now new changes unlocked m open_for same =
      let is = one-state p s open_for.r n open_for.route route open_for.now now open_for.it (before-change p s t n route now new changes) same in
      unlocked (ap (λ (v : RouteState). v.mode) (sym is.1) ∙ open_for.mode)

  same-boards : (route : Route) (now new : RouteState) → ChangesRoute p s t n route now new → t.trains ≡ s.trains → t.boards ≡ s.boards → (now.mode ≡ Locked → ⊥) → meets_v5_open_needs_locked p t ≡ true
  same-boards route now new changes trains boards unlocked =
      open-from p t (λ m within shown.
      let open_for = open-at p s keeps.v5 m within (sym (ap (λ (l : List Aspect). slice_get l m) boards) ∙ shown) in
      other-open route now new changes trains m open_for (is-another route now new changes unlocked m open_for))

  pub mark-meets_v5_open_needs_locked : IsMarked p s t n → meets_v5_open_needs_locked p t ≡ true
  mark-meets_v5_open_needs_locked it = let now = it.now in same-boards it.route now (record now { mode = Marked }) it.changes it.trains it.boards (λ e. let bad : Free ≡ Locked = sym it.was ∙ e in cc)

  pub allocate-meets_v5_open_needs_locked : IsAllocated p s t n → meets_v5_open_needs_locked p t ≡ true
  allocate-meets_v5_open_needs_locked it = let now = it.now in same-boards it.route now (record now { mode = Allocating }) it.changes it.trains it.boards (λ e. let bad : Marked ≡ Locked = sym it.was ∙ e in cc)

  pub lock-meets_v5_open_needs_locked : IsLocked p s t n → meets_v5_open_needs_locked p t ≡ true
  lock-meets_v5_open_needs_locked it =
      open-from p t (λ m within shown. elim (cases_eq m it.route.source) [
        | inl same ↦ record {
          r = n;
          route = it.route;
          now = new;
          it = after-change p s t n it.route it.now new it.changes;
          source = sym same;
          mode = refl;
          vacant = λ i x at. same-occupied s t it.trains x ∙ vacant-path p s keeps.v4 n it.route it.now (before-change p s t n it.route it.now new it.changes) it.was i x at;
        }
        | inr apart ↦
            (let was : slice_get s.boards m ≡ Some Open = sym (other-board s.boards it.route.source m Open apart) ∙ sym (ap (λ (l : List Aspect). slice_get l m) it.boards) ∙ shown in
            let open_for = open-at p s keeps.v5 m within was in
            other-open it.route it.now new it.changes it.trains m open_for (is-another it.route it.now new it.changes (λ e. let bad : Allocating ≡ Locked = sym it.was ∙ e in cc) m open_for))
      ])
    where
      new : RouteState
      new = let now = it.now in record now { mode = Locked }

  pub sense-meets_v5_open_needs_locked : IsSensed p s t n → meets_v5_open_needs_locked p t ≡ true
  sense-meets_v5_open_needs_locked it =
      open-from p t (λ m within shown.
      let open_for = open-at p s keeps.v5 m within (sense-open p s t n it m shown) in
      other-open it.route it.now new it.changes it.trains m open_for (apart m open_for))
    where
      new : RouteState
      new = let now = it.now in record now { mode = Occupied; seen = now.seen + 1 }

      apart : (m : ℕ) → (open_for : IsOpenFor p s m) → open_for.r ≡ n → ⊥
      apart m open_for same =
          let is = one-state p s open_for.r n open_for.route it.route open_for.now it.now open_for.it (before-change p s t n it.route it.now new it.changes) same in
          let vacant = open_for.vacant it.now.seen it.x (ap (λ (route : Route). slice_get route.path it.now.seen) is.0 ∙ it.next) in
          both_ways (is_occupied s it.x) vacant it.occupied

  pub release-meets_v5_open_needs_locked : IsReleased p s t n → meets_v5_open_needs_locked p t ≡ true
  release-meets_v5_open_needs_locked it = let now = it.now in same-boards it.route now (record now { rel = now.rel + 1 }) it.changes it.trains it.boards (λ e. let bad : Occupied ≡ Locked = sym it.was ∙ e in cc)

  pub finish-meets_v5_open_needs_locked : IsFinished p s t n → meets_v5_open_needs_locked p t ≡ true
  finish-meets_v5_open_needs_locked it = same-boards it.route it.now (record { mode = Free; seen = 0; rel = 0 }) it.changes it.trains it.boards (λ e. let bad : Occupied ≡ Locked = sym it.was ∙ e in cc)

  pub throw-meets_v5_open_needs_locked : IsThrown p s t n → meets_v5_open_needs_locked p t ≡ true
  throw-meets_v5_open_needs_locked it = v5-reads p s t it.routes it.boards it.trains keeps.v5

  pub settle-meets_v5_open_needs_locked : IsSettled p s t n → meets_v5_open_needs_locked p t ≡ true
  settle-meets_v5_open_needs_locked it = v5-reads p s t it.routes it.boards it.trains keeps.v5

  still-open : t.routes ≡ s.routes → (m : ℕ) → (open_for : IsOpenFor p s m) → ((i x : ℕ) → slice_get open_for.route.path i ≡ Some x → is_occupied s x ≡ false → is_occupied t x ≡ false) → IsOpenFor p t m
  still-open routes m open_for stay = record {
    r = open_for.r;
    route = open_for.route;
    now = open_for.now;
    it = route-stays p s t routes open_for.r open_for.route open_for.now open_for.it;
    source = open_for.source;
    mode = open_for.mode;
    vacant = λ i x at. stay i x at (open_for.vacant i x at);
  }

  holds-whole : (m : ℕ) → (open_for : IsOpenFor p s m) → (i x : ℕ) → slice_get open_for.route.path i ≡ Some x → holds_section x open_for.route open_for.now ≡ true
  holds-whole m open_for i x at =
      let counts = idle p s keeps.v1 open_for.r open_for.route open_for.now open_for.it (rw open_for.mode refl) in
      let none = counts.1 in
      holds-path open_for.route open_for.now i x (locked-holds open_for.now (locked-is open_for.now open_for.mode)) (omega (arith, none)) at

  pub enter-meets_v5_open_needs_locked : IsEntered p s t n → meets_v5_open_needs_locked p t ≡ true
  enter-meets_v5_open_needs_locked it =
      open-from p t (λ m within shown.
      let open_for = open-at p s keeps.v5 m within (sym (ap (λ (l : List Aspect). slice_get l m) it.boards) ∙ shown) in
      still-open it.routes m open_for (λ i x at vacant. enter-vacant p s t n it x vacant (λ same.
      held-not_free p s keeps.v3 open_for.r open_for.route open_for.now open_for.it x (holds-whole m open_for i x at) (ap (slice_get s.locks) same ∙ has_lock_state-at s n FreeLock it.free))))

  pub head-meets_v5_open_needs_locked : IsHeaded p s t n → meets_v5_open_needs_locked p t ≡ true
  head-meets_v5_open_needs_locked it =
      open-from p t (λ m within shown.
      let was = head-open p s t n it m shown in
      let open_for = open-at p s keeps.v5 m within was.0 in
      still-open it.routes m open_for (λ i x at vacant. head-vacant p s t n it x vacant (λ same. clash m was.0 was.1 open_for i x at same)))
    where
      clash : (m : ℕ) → slice_get s.boards m ≡ Some Open → (board_of p n it.train.dir ≡ Some m → ⊥) → (open_for : IsOpenFor p s m) → (i x : ℕ) → slice_get open_for.route.path i ≡ Some x → x ≡ it.y → ⊥
      clash m shown elsewhere open_for i x at same =
          let on = headed-goes_on p plant strict s t keeps n it in
          let mine = holds-path on.route on.now on.k x (locked-holds on.now on.mode) on.least (on.at ∙ ap Some (sym same)) in
          let one_route = alone p s keeps.v2 open_for.r open_for.route open_for.now open_for.it on.r on.route
          on.now on.it x
          (path-section p open_for.route (plant.routes_known open_for.r open_for.route open_for.it.known)
          i x at)
          (holds-whole m open_for i x at) mine in
          let is = one-state p s open_for.r on.r open_for.route on.route open_for.now on.now open_for.it on.it one_route in
          let source : on.route.source ≡ m = ap (λ (route : Route). route.source) (sym is.0) ∙ open_for.source in
          let mode : on.now.mode ≡ Locked = ap (λ (v : RouteState). v.mode) (sym is.1) ∙ open_for.mode in
          elim on.board [
            | inl board ↦ elsewhere (board.0 ∙ ap Some source)
            | inr none ↦ elim none.1 [
              | inl occupied ↦ (let bad : Occupied ≡ Locked = sym occupied ∙ mode in cc)
              | inr closed ↦ (let bad : Some Closed ≡ Some Open = sym closed.1 ∙ ap (slice_get s.boards) source ∙ shown in cc)
            ]
          ]

  pub tail-meets_v5_open_needs_locked : IsTailed p s t n → meets_v5_open_needs_locked p t ≡ true
  tail-meets_v5_open_needs_locked it =
      open-from p t (λ m within shown.
      let open_for = open-at p s keeps.v5 m within (sym (ap (λ (l : List Aspect). slice_get l m) it.boards) ∙ shown) in
      still-open it.routes m open_for (λ i x at vacant. tail-vacant p s t n it x vacant))

  pub leave-meets_v5_open_needs_locked : IsLeft p s t n → meets_v5_open_needs_locked p t ≡ true
  leave-meets_v5_open_needs_locked it =
      open-from p t (λ m within shown.
      let open_for = open-at p s keeps.v5 m within (sym (ap (λ (l : List Aspect). slice_get l m) it.boards) ∙ shown) in
      still-open it.routes m open_for (λ i x at vacant. leave-vacant p s t n it x vacant))

  pub cancel-meets_v5_open_needs_locked : IsCancelled p s t n → meets_v5_open_needs_locked p t ≡ true
  cancel-meets_v5_open_needs_locked it =
      let now = it.now in
      same-boards it.route now (record now { mode = Free }) it.changes it.trains it.boards (λ e.
      let bad : (same_mode Locked Marked || same_mode Locked Allocating) ≡ true = rw e at it.was in cc)
