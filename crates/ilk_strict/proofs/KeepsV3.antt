-- No event breaks V3, about the locks of held sections. An event changes locks only of sections
-- that its own route holds, or that were free. By V2 no other route holds them.
use Rattle.std.proofs.Common.{◌≡◌, ℕ, ◌+◌, ◌<◌, ◌≤◌, true, false, Some, List, inl, inr, ◌⊎◌, length, nat_lt, set, slice_get, refl, sym, ◌∙◌, ap, subst, arith}
use Rattle.std.specs.Prelude.{if◌then◌else◌}
use Rattle.std.proofs.lemmas.Bool.{cases_Bool, cases_eq, false_from_ne_true}
use Rattle.std.proofs.lemmas.Bool.Decides.{nat_tests}
use Rattle.std.proofs.lemmas.Option.{same_Some}
use Rattle.ilk_base.proofs.Lists.{slice_get-set_other, slice_get-set_same}
use Rattle.ilk_plant.specs.Network.{contains_section}
use Rattle.ilk_plant.specs.Plant.{IsPlant, IsValidRouteOf, PlantLists}
use Rattle.ilk_plant.specs.Shape.{HasShape}
use Rattle.ilk_plant.specs.TableRules.{sections_locked_for}
use Rattle.ilk_plant.specs.declared.state.Hold.{Hold}
use Rattle.ilk_plant.specs.declared.state.Hold.TheVariants.{Free as FreeLock, Locked as LockedLock, Used as UsedLock}
use Rattle.ilk_plant.specs.declared.state.Mode.TheVariants.{Free, Marked, Allocating, Locked, Occupied}
use Rattle.ilk_plant.specs.declared.state.RouteState.{RouteState}
use Rattle.ilk_plant.specs.declared.state.State.{State}
use Rattle.ilk_plant.specs.declared.table.Route.{Route}
use Rattle.ilk_plant.proofs.InLists.{section-at}
use Rattle.ilk_routes.proofs.Shape.{beside-known}
use Rattle.ilk_routes.specs.Claims.{sections_outside_path}
use Rattle.ilk_routes.specs.Locks.{with_locks}
use Rattle.ilk_routes.specs.Modes.{same_mode}
use Rattle.ilk_model.specs.Families.{meets_v3_locks_match_routes, required_path_section_lock}
use Rattle.ilk_model.specs.Holding.{holds_section, is_holding_state}
use Rattle.ilk_strict.proofs.After.{after-cases, before-change, given-lock, other-lock, same-here, v3-reads}
use Rattle.ilk_model.proofs.Alike.{one_mode}
use Rattle.ilk_model.proofs.PointFrames.{IsSettled, IsThrown}
use Rattle.ilk_model.proofs.RouteFrames.{ChangesRoute, IsAllocated, IsCancelled, IsFinished, IsLocked, IsMarked, IsReleased, IsSensed}
use Rattle.ilk_model.proofs.TrainFrames.{IsEntered, IsHeaded, IsLeft, IsTailed}
use Rattle.ilk_strict.proofs.KeepsV2.{cleared}
use Rattle.ilk_strict.proofs.Reading.{RouteIn}
use Rattle.ilk_strict.proofs.RouteFacts.{allocating-holds, alone, held-not_free, holds-beside, holds-path, idle, lock-beside, lock-path, locked-holds, locks-from, rel-seen}
use Rattle.ilk_strict.proofs.Table.{beside-locked_for, locked_for-cases, path-apart, path-locked_for, path-once, path-section}
use Rattle.ilk_strict.proofs.TrainFacts.{Keeps}

pub record HasItsLocks (t : State) (route : Route) (new : RouteState) : Type 0 where
  pub on_path : (i x : ℕ) → new.rel ≤ i → slice_get route.path i ≡ Some x → slice_get t.locks x ≡ Some (required_path_section_lock new i)
  pub beside : (x : ℕ) → contains_section x (sections_outside_path route) ≡ true → slice_get t.locks x ≡ Some LockedLock

module _ (p : PlantLists) (plant : IsPlant p) (s t : State) (keeps : Keeps p s) (shape : HasShape p t) (n : ℕ) where
  changed : (route : Route) (now new : RouteState) → ChangesRoute p s t n route now new →
      (Touched : ℕ → Type 0) → ((x : ℕ) → (Touched x → ⊥) → slice_get t.locks x ≡ slice_get s.locks x) →
      ((q : ℕ) (one : Route) (its : RouteState) → (q ≡ n → ⊥) → RouteIn p s q one its → (x : ℕ) →
      holds_section x one its ≡ true → Touched x → ⊥) →
      (is_holding_state new ≡ true → HasItsLocks t route new) → meets_v3_locks_match_routes p t ≡ true
  changed route now new changes Touched same apart mine =
      locks-from p t shape.routes (λ q one its it holds. elim (after-cases p s t n route now new changes q one its it) [
        | inl here ↦ same-here
            (λ u v. is_holding_state v ≡ true →
            ((i x : ℕ) → v.rel ≤ i → slice_get u.path i ≡ Some x →
            slice_get t.locks x ≡ Some (required_path_section_lock v i)) ×
            ((x : ℕ) → contains_section x (sections_outside_path u) ≡ true →
            slice_get t.locks x ≡ Some LockedLock)) one route its new here.1 here.2
            (λ h. let all = mine h in (all.on_path, all.beside)) holds
        | inr other ↦ (
          λ i x least at. same x (apart q one its other.0 other.1 x (holds-path one its i x holds least at)) ∙ lock-path p s keeps.v3 q one its other.1 holds i x least at,
          λ x beside. same x (apart q one its other.0 other.1 x (holds-beside one its x holds beside)) ∙ lock-beside p s keeps.v3 q one its other.1 holds x beside,
        )
      ])

  unlocked : (route : Route) (now new : RouteState) → ChangesRoute p s t n route now new → t.locks ≡ s.locks → (is_holding_state new ≡ true → HasItsLocks t route new) → meets_v3_locks_match_routes p t ≡ true
  unlocked route now new changes locks mine =
      changed route now new changes (λ x. ⊥) (λ x none. ap (λ (l : List Hold). slice_get l x) locks) (λ q one its apart it x held none. none) mine

  not-others : (route : Route) (now : RouteState) → RouteIn p s n route now → (x : ℕ) →
      x < length p.sections → holds_section x route now ≡ true → (q : ℕ) (one : Route) (its : RouteState) →
      (q ≡ n → ⊥) → RouteIn p s q one its → holds_section x one its ≡ true → ⊥
  not-others route now it x within mine q one its apart that theirs = apart (alone p s keeps.v2 q one its that n route now it x within theirs mine)

  pub mark-meets_v3_locks_match_routes : IsMarked p s t n → meets_v3_locks_match_routes p t ≡ true
  mark-meets_v3_locks_match_routes it =
      let now = it.now in unlocked it.route now (record now { mode = Marked }) it.changes it.locks (λ holds. cc)

  pub allocate-meets_v3_locks_match_routes : IsAllocated p s t n → meets_v3_locks_match_routes p t ≡ true
  allocate-meets_v3_locks_match_routes it =
      changed it.route it.now new it.changes (λ x. contains_section x (sections_locked_for it.route) ≡ true)
      (λ x away. ap (λ (l : List Hold). slice_get l x) it.locks ∙ other-lock s.locks (sections_locked_for it.route) LockedLock x (false_from_ne_true (contains_section x (sections_locked_for it.route)) away))
      (λ q one its apart that x held taken. held-not_free p s keeps.v3 q one its that x held (cleared s it.route it.clear x taken).0)
      (λ holds. record {
        on_path = λ i x least at. given x (path-locked_for it.route i x at) (path-section p it.route of i x at) ∙ ap Some (sym (unseen i));
        beside = λ x beside. (let found = section-at x (sections_outside_path it.route) beside in given x (beside-locked_for it.route x beside) (beside-known p it.route of found.0 x found.1));
      })
    where
      new : RouteState
      new = let now = it.now in record now { mode = Allocating }

      of : IsValidRouteOf p it.route
      of = plant.routes_known n it.route it.changes.known

      given : (x : ℕ) → contains_section x (sections_locked_for it.route) ≡ true → x < length p.sections → slice_get t.locks x ≡ Some LockedLock
      given x among within =
          let count = keeps.shape.locks in
          ap (λ (l : List Hold). slice_get l x) it.locks ∙ given-lock s.locks (sections_locked_for it.route) LockedLock x among (omega (arith, count, within))

      unseen : (i : ℕ) → required_path_section_lock new i ≡ LockedLock
      unseen i =
          let counts = idle p s keeps.v1 n it.route it.now (before-change p s t n it.route it.now new it.changes) (rw it.was refl) in
          none_seen it.now.seen counts.0
        where
          none_seen : (seen : ℕ) → seen ≡ 0 → (if nat_lt i seen then UsedLock else LockedLock) ≡ LockedLock
          none_seen seen e = let test : nat_lt i seen ≡ false = grind (arith, nat_tests) in rw test refl

  pub lock-meets_v3_locks_match_routes : IsLocked p s t n → meets_v3_locks_match_routes p t ≡ true
  lock-meets_v3_locks_match_routes it =
      let now = it.now in
      let was = before-change p s t n it.route now (record now { mode = Locked }) it.changes in
      let locks : (x : ℕ) → slice_get t.locks x ≡ slice_get s.locks x = λ x. ap (λ (l : List Hold). slice_get l x) it.locks in
      unlocked it.route now (record now { mode = Locked }) it.changes it.locks (λ holds. record {
        on_path = λ i x least at. locks x ∙ lock-path p s keeps.v3 n it.route now was (allocating-holds now it.was) i x least at;
        beside = λ x beside. locks x ∙ lock-beside p s keeps.v3 n it.route now was (allocating-holds now it.was) x beside;
      })

  pub sense-meets_v3_locks_match_routes : IsSensed p s t n → meets_v3_locks_match_routes p t ≡ true
  sense-meets_v3_locks_match_routes it =
      changed it.route it.now new it.changes (λ y. y ≡ it.x) away
      (λ q one its apart that y held is. not-others it.route it.now was it.x (path-section p it.route of it.now.seen it.x it.next) mine q one its apart that (subst (λ z. holds_section z one its ≡ true) is held))
      (λ holds. record {
        on_path = on_path;
        beside =
            λ y beside. away y
            (λ is. path-apart p it.route of it.now.seen it.x it.next
            (subst (λ z. contains_section z (sections_outside_path it.route) ≡ true) is beside))
            ∙ lock-beside p s keeps.v3 n it.route it.now was (locked-holds it.now it.was) y beside;
      })
    where
      new : RouteState
      new = let now = it.now in record now { mode = Occupied; seen = now.seen + 1 }

      of : IsValidRouteOf p it.route
      of = plant.routes_known n it.route it.changes.known

      was : RouteIn p s n it.route it.now
      was = before-change p s t n it.route it.now new it.changes

      mine : holds_section it.x it.route it.now ≡ true
      mine = holds-path it.route it.now it.now.seen it.x (locked-holds it.now it.was) (rel-seen p s keeps.v1 n it.route it.now was) it.next

      away : (y : ℕ) → (y ≡ it.x → ⊥) → slice_get t.locks y ≡ slice_get s.locks y
      away y apart = ap (λ (l : List Hold). slice_get l y) it.locks ∙ slice_get-set_other s.locks it.x y UsedLock (λ e. apart (sym e))

      seen-more : (i seen : ℕ) → (i ≡ seen → ⊥) → (if nat_lt i seen then UsedLock else LockedLock) ≡ (if nat_lt i (seen + 1) then UsedLock else LockedLock)
      seen-more i seen apart = elim (cases_Bool (nat_lt i seen)) [
        | inl less ↦ (let more : nat_lt i (seen + 1) ≡ true = grind (arith, nat_tests) in rw (less, more) refl)
        | inr past ↦ (let more : nat_lt i (seen + 1) ≡ false = grind (arith, nat_tests) in rw (past, more) refl)
      ]

      seen-here : (i seen : ℕ) → i ≡ seen → UsedLock ≡ (if nat_lt i (seen + 1) then UsedLock else LockedLock)
      seen-here i seen same = let less : nat_lt i (seen + 1) ≡ true = grind (arith, nat_tests) in rw less refl

      on_path : (i y : ℕ) → new.rel ≤ i → slice_get it.route.path i ≡ Some y → slice_get t.locks y ≡ Some (required_path_section_lock new i)
      on_path i y least at = elim (cases_eq i it.now.seen) [
        | inl here ↦
            (let same : y ≡ it.x = same_Some y it.x (sym at ∙ ap (slice_get it.route.path) here ∙ it.next) in
            let count = keeps.shape.locks in
            let within : it.x < length s.locks = omega (arith, count, path-section p it.route of it.now.seen it.x it.next) in
            ap (λ (l : List Hold). slice_get l y) it.locks ∙ ap (slice_get (set s.locks it.x UsedLock)) same ∙ slice_get-set_same s.locks it.x UsedLock within ∙ ap Some (seen-here i it.now.seen here))
        | inr apart ↦
            away y (λ is. apart (path-once p it.route of i it.now.seen y at (it.next ∙ ap Some (sym is))))
            ∙ lock-path p s keeps.v3 n it.route it.now was (locked-holds it.now it.was) i y least at
            ∙ ap Some (seen-more i it.now.seen apart)
      ]

  pub release-meets_v3_locks_match_routes : IsReleased p s t n → meets_v3_locks_match_routes p t ≡ true
  release-meets_v3_locks_match_routes it =
      changed it.route it.now new it.changes (λ y. y ≡ it.x) away
      (λ q one its apart that y held is. not-others it.route it.now was it.x
      (path-section p it.route of it.now.rel it.x it.first)
      (holds-path it.route it.now it.now.rel it.x holds_now (omega arith) it.first) q one its apart that
      (subst (λ z. holds_section z one its ≡ true) is held))
      (λ holds. record {
        on_path = λ i y least at.
            away y (λ is. let here = path-once p it.route of i it.now.rel y at (it.first ∙ ap Some (sym is)) in absurd (omega (arith, here, least)))
            ∙ lock-path p s keeps.v3 n it.route it.now was holds_now i y (omega (arith, least)) at;
        beside = λ y beside. away y (λ is. path-apart p it.route of it.now.rel it.x it.first (subst (λ z. contains_section z (sections_outside_path it.route) ≡ true) is beside)) ∙ lock-beside p s keeps.v3 n it.route it.now was holds_now y beside;
      })
    where
      new : RouteState
      new = let now = it.now in record now { rel = now.rel + 1 }

      of : IsValidRouteOf p it.route
      of = plant.routes_known n it.route it.changes.known

      was : RouteIn p s n it.route it.now
      was = before-change p s t n it.route it.now new it.changes

      holds_now : is_holding_state it.now ≡ true
      holds_now = rw it.was refl

      away : (y : ℕ) → (y ≡ it.x → ⊥) → slice_get t.locks y ≡ slice_get s.locks y
      away y apart = ap (λ (l : List Hold). slice_get l y) it.locks ∙ slice_get-set_other s.locks it.x y FreeLock (λ e. apart (sym e))

  pub finish-meets_v3_locks_match_routes : IsFinished p s t n → meets_v3_locks_match_routes p t ≡ true
  finish-meets_v3_locks_match_routes it =
      changed it.route it.now new it.changes (λ y. (y ≡ it.x) ⊎ (contains_section y (sections_outside_path it.route) ≡ true)) away others (λ holds. cc)
    where
      new : RouteState
      new = record { mode = Free; seen = 0; rel = 0 }

      of : IsValidRouteOf p it.route
      of = plant.routes_known n it.route it.changes.known

      was : RouteIn p s n it.route it.now
      was = before-change p s t n it.route it.now new it.changes

      holds_now : is_holding_state it.now ≡ true
      holds_now = rw it.was refl

      away : (y : ℕ) → ((y ≡ it.x) ⊎ (contains_section y (sections_outside_path it.route) ≡ true) → ⊥) → slice_get t.locks y ≡ slice_get s.locks y
      away y apart =
          ap (λ (l : List Hold). slice_get l y) it.locks
          ∙ other-lock (set s.locks it.x FreeLock) (sections_outside_path it.route) FreeLock y (false_from_ne_true (contains_section y (sections_outside_path it.route)) (λ beside. apart (inr beside)))
          ∙ slice_get-set_other s.locks it.x y FreeLock (λ e. apart (inl (sym e)))

      others : (q : ℕ) (one : Route) (its : RouteState) → (q ≡ n → ⊥) → RouteIn p s q one its → (y : ℕ) → holds_section y one its ≡ true → (y ≡ it.x) ⊎ (contains_section y (sections_outside_path it.route) ≡ true) → ⊥
      others q one its apart that y held (inl is) =
          not-others it.route it.now was it.x (path-section p it.route of it.now.rel it.x it.last) (holds-path it.route it.now it.now.rel it.x holds_now (omega arith) it.last) q one its apart that (subst (λ z. holds_section z one its ≡ true) is held)
      others q one its apart that y held (inr beside) =
          let found = section-at y (sections_outside_path it.route) beside in
          not-others it.route it.now was y (beside-known p it.route of found.0 y found.1) (holds-beside it.route it.now y holds_now beside) q one its apart that held

  pub throw-meets_v3_locks_match_routes : IsThrown p s t n → meets_v3_locks_match_routes p t ≡ true
  throw-meets_v3_locks_match_routes it = v3-reads p s t it.routes it.locks keeps.v3

  pub settle-meets_v3_locks_match_routes : IsSettled p s t n → meets_v3_locks_match_routes p t ≡ true
  settle-meets_v3_locks_match_routes it = v3-reads p s t it.routes it.locks keeps.v3

  pub enter-meets_v3_locks_match_routes : IsEntered p s t n → meets_v3_locks_match_routes p t ≡ true
  enter-meets_v3_locks_match_routes it = v3-reads p s t it.routes it.locks keeps.v3

  pub head-meets_v3_locks_match_routes : IsHeaded p s t n → meets_v3_locks_match_routes p t ≡ true
  head-meets_v3_locks_match_routes it = v3-reads p s t it.routes it.locks keeps.v3

  pub tail-meets_v3_locks_match_routes : IsTailed p s t n → meets_v3_locks_match_routes p t ≡ true
  tail-meets_v3_locks_match_routes it = v3-reads p s t it.routes it.locks keeps.v3

  pub leave-meets_v3_locks_match_routes : IsLeft p s t n → meets_v3_locks_match_routes p t ≡ true
  leave-meets_v3_locks_match_routes it = v3-reads p s t it.routes it.locks keeps.v3

  pub cancel-meets_v3_locks_match_routes : IsCancelled p s t n → meets_v3_locks_match_routes p t ≡ true
  cancel-meets_v3_locks_match_routes it = elim (cases_Bool (same_mode it.now.mode Allocating)) [
    | inl allocating ↦
        (let locks : t.locks ≡ with_locks s.locks (sections_locked_for it.route) FreeLock = it.locks ∙ rw allocating refl in
        changed it.route it.now new it.changes (λ y. contains_section y (sections_locked_for it.route) ≡ true)
        (λ y away. ap (λ (l : List Hold). slice_get l y) locks ∙ other-lock s.locks (sections_locked_for it.route) FreeLock y (false_from_ne_true (contains_section y (sections_locked_for it.route)) away))
        (others (one_mode it.now.mode Allocating allocating)) (λ holds. cc))
    | inr marked ↦ unlocked it.route it.now new it.changes (it.locks ∙ rw marked refl) (λ holds. cc)
  ]
    where
      new : RouteState
      new = let now = it.now in record now { mode = Free }

      of : IsValidRouteOf p it.route
      of = plant.routes_known n it.route it.changes.known

      was : RouteIn p s n it.route it.now
      was = before-change p s t n it.route it.now new it.changes

      others : it.now.mode ≡ Allocating → (q : ℕ) (one : Route) (its : RouteState) → (q ≡ n → ⊥) → RouteIn p s q one its → (y : ℕ) → holds_section y one its ≡ true → contains_section y (sections_locked_for it.route) ≡ true → ⊥
      others mode q one its apart that y held among = elim (locked_for-cases it.route y among) [
        | inl place ↦
            (let counts = idle p s keeps.v1 n it.route it.now was (rw mode refl) in
            let none = counts.1 in
            not-others it.route it.now was y (path-section p it.route of place.0 y place.1) (holds-path it.route it.now place.0 y (allocating-holds it.now mode) (omega (arith, none)) place.1) q one its apart that held)
        | inr beside ↦
            (let found = section-at y (sections_outside_path it.route) beside in
            not-others it.route it.now was y (beside-known p it.route of found.0 y found.1) (holds-beside it.route it.now y (allocating-holds it.now mode) beside) q one its apart that held)
      ]
