-- No event breaks V4: every path section of an Allocating route is vacant. Trains reach only
-- sections that no such route holds: they enter if the lock is Free, or move to sections of Locked
-- or Occupied routes.
use Rattle.std.proofs.Common.{◌≡◌, ℕ, ◌+◌, ◌≤◌, true, false, Some, None, inl, inr, slice_get, refl, sym, ◌∙◌, ap, arith}
use Rattle.ilk_plant.specs.Plant.{IsPlant, PlantLists}
use Rattle.ilk_plant.specs.Shape.{HasShape}
use Rattle.ilk_plant.specs.State.{is_occupied}
use Rattle.ilk_plant.specs.declared.state.Hold.TheVariants.{Free as FreeLock}
use Rattle.ilk_plant.specs.declared.state.Mode.TheVariants.{Free, Marked, Allocating, Locked, Occupied}
use Rattle.ilk_plant.specs.declared.state.RouteState.{RouteState}
use Rattle.ilk_plant.specs.declared.state.State.{State}
use Rattle.ilk_plant.specs.declared.table.Route.{Route}
use Rattle.ilk_model.specs.Families.{meets_v4_allocating_paths_vacant}
use Rattle.ilk_strict.specs.IsStrict.{IsStrict}
use Rattle.ilk_strict.proofs.After.{after-cases, one-state, same-here, same-occupied, same-route, v4-reads}
use Rattle.ilk_model.proofs.PointFrames.{IsSettled, IsThrown}
use Rattle.ilk_model.proofs.RouteFrames.{ChangesRoute, IsAllocated, IsCancelled, IsFinished, IsLocked, IsMarked, IsReleased, IsSensed}
use Rattle.ilk_model.proofs.TrainFrames.{IsEntered, IsHeaded, IsLeft, IsTailed}
use Rattle.ilk_strict.proofs.Heads.{GoesOn, goes-on}
use Rattle.ilk_strict.proofs.KeepsV2.{cleared}
use Rattle.ilk_strict.proofs.Reading.{RouteIn, has_lock_state-at}
use Rattle.ilk_strict.proofs.RouteFacts.{allocating-holds, alone, held-not_free, holds-path, idle, locked-holds, locked-or_occupied, vacant-from, vacant-path}
use Rattle.ilk_strict.proofs.Table.{path-locked_for, path-section}
use Rattle.ilk_strict.proofs.TrainFacts.{Keeps}
use Rattle.ilk_strict.proofs.Trains.{enter-vacant, head-vacant, last-is, leave-vacant, tail-vacant}

pub headed-goes_on : (p : PlantLists) → IsPlant p → IsStrict p → (s t : State) → Keeps p s → (x : ℕ) → (it : IsHeaded p s t x) → GoesOn p s x it.train.dir it.y
headed-goes_on p plant strict s t keeps x it =
    goes-on p plant strict s keeps it.i it.train x it.y it.at (last-is x it.train.body it.heads None) it.leads it.passes

module _ (p : PlantLists) (plant : IsPlant p) (strict : IsStrict p) (s t : State) (keeps : Keeps p s) (shape : HasShape p t) (n : ℕ) where
  changed : (route : Route) (now new : RouteState) → ChangesRoute p s t n route now new → t.trains ≡ s.trains → (new.mode ≡ Allocating → (i x : ℕ) → slice_get route.path i ≡ Some x → is_occupied s x ≡ false) →
      meets_v4_allocating_paths_vacant p t ≡ true
  changed route now new changes trains mine =
      vacant-from p t shape.routes (λ q one its it mode i x at. same-occupied s t trains x ∙ elim (after-cases p s t n route now new changes q one its it) [
        | inl here ↦ same-here (λ u v. v.mode ≡ Allocating → (i x : ℕ) → slice_get u.path i ≡ Some x → is_occupied s x ≡ false) one route its new here.1 here.2 mine mode i x at
        | inr other ↦ vacant-path p s keeps.v4 q one its other.1 mode i x at
      ])

  trains-come : t.routes ≡ s.routes →
      ((q : ℕ) (one : Route) (its : RouteState) → RouteIn p s q one its → its.mode ≡ Allocating → (i x : ℕ) →
      its.rel ≤ i → slice_get one.path i ≡ Some x → is_occupied s x ≡ false → is_occupied t x ≡ false) →
      meets_v4_allocating_paths_vacant p t ≡ true
  trains-come routes stay =
      vacant-from p t shape.routes (λ q one its it mode i x at.
      let was = same-route p s t routes q one its it in
      let counts = idle p s keeps.v1 q one its was (rw mode refl) in
      let none = counts.1 in
      stay q one its was mode i x (omega (arith, none)) at (vacant-path p s keeps.v4 q one its was mode i x at))

  pub mark-meets_v4_allocating_paths_vacant : IsMarked p s t n → meets_v4_allocating_paths_vacant p t ≡ true
  mark-meets_v4_allocating_paths_vacant it = let now = it.now in changed it.route now (record now { mode = Marked }) it.changes it.trains (λ e. cc)

  pub allocate-meets_v4_allocating_paths_vacant : IsAllocated p s t n → meets_v4_allocating_paths_vacant p t ≡ true
  allocate-meets_v4_allocating_paths_vacant it =
      let now = it.now in
      changed it.route now (record now { mode = Allocating }) it.changes it.trains (λ e i x at. (cleared s it.route it.clear x (path-locked_for it.route i x at)).1)

  pub lock-meets_v4_allocating_paths_vacant : IsLocked p s t n → meets_v4_allocating_paths_vacant p t ≡ true
  lock-meets_v4_allocating_paths_vacant it = let now = it.now in changed it.route now (record now { mode = Locked }) it.changes it.trains (λ e. cc)

  pub sense-meets_v4_allocating_paths_vacant : IsSensed p s t n → meets_v4_allocating_paths_vacant p t ≡ true
  sense-meets_v4_allocating_paths_vacant it = let now = it.now in changed it.route now (record now { mode = Occupied; seen = now.seen + 1 }) it.changes it.trains (λ e. cc)

  pub release-meets_v4_allocating_paths_vacant : IsReleased p s t n → meets_v4_allocating_paths_vacant p t ≡ true
  release-meets_v4_allocating_paths_vacant it = let now = it.now in changed it.route now (record now { rel = now.rel + 1 }) it.changes it.trains (λ e. let bad : Occupied ≡ Allocating = sym it.was ∙ e in cc)

  pub finish-meets_v4_allocating_paths_vacant : IsFinished p s t n → meets_v4_allocating_paths_vacant p t ≡ true
  finish-meets_v4_allocating_paths_vacant it = changed it.route it.now (record { mode = Free; seen = 0; rel = 0 }) it.changes it.trains (λ e. cc)

  pub throw-meets_v4_allocating_paths_vacant : IsThrown p s t n → meets_v4_allocating_paths_vacant p t ≡ true
  throw-meets_v4_allocating_paths_vacant it = v4-reads p s t it.routes it.trains keeps.v4

  pub settle-meets_v4_allocating_paths_vacant : IsSettled p s t n → meets_v4_allocating_paths_vacant p t ≡ true
  settle-meets_v4_allocating_paths_vacant it = v4-reads p s t it.routes it.trains keeps.v4

  pub enter-meets_v4_allocating_paths_vacant : IsEntered p s t n → meets_v4_allocating_paths_vacant p t ≡ true
  enter-meets_v4_allocating_paths_vacant it =
      trains-come it.routes (λ q one its that mode i x least at vacant. enter-vacant p s t n it x vacant (λ same.
      held-not_free p s keeps.v3 q one its that x (holds-path one its i x (allocating-holds its mode) least at) (ap (slice_get s.locks) same ∙ has_lock_state-at s n FreeLock it.free)))

  pub head-meets_v4_allocating_paths_vacant : IsHeaded p s t n → meets_v4_allocating_paths_vacant p t ≡ true
  head-meets_v4_allocating_paths_vacant it =
      let on = headed-goes_on p plant strict s t keeps n it in
      trains-come it.routes (λ q one its that mode i x least at vacant. head-vacant p s t n it x vacant (λ same.
      let mine = holds-path on.route on.now on.k x (locked-holds on.now on.mode) on.least (on.at ∙ ap Some (sym same)) in
      let one_route = alone p s keeps.v2 q one its that on.r on.route on.now on.it x (path-section p one (plant.routes_known q one that.known) i x at) (holds-path one its i x (allocating-holds its mode) least at) mine in
      let is = one-state p s q on.r one on.route its on.now that on.it one_route in
      let allocating : on.now.mode ≡ Allocating = ap (λ (v : RouteState). v.mode) (sym is.1) ∙ mode in
      elim (locked-or_occupied on.now on.mode) [
        | inl locked ↦ (let bad : Locked ≡ Allocating = sym locked ∙ allocating in cc)
        | inr occupied ↦ (let bad : Occupied ≡ Allocating = sym occupied ∙ allocating in cc)
      ]))

  pub tail-meets_v4_allocating_paths_vacant : IsTailed p s t n → meets_v4_allocating_paths_vacant p t ≡ true
  tail-meets_v4_allocating_paths_vacant it = trains-come it.routes (λ q one its that mode i x least at vacant. tail-vacant p s t n it x vacant)

  pub leave-meets_v4_allocating_paths_vacant : IsLeft p s t n → meets_v4_allocating_paths_vacant p t ≡ true
  leave-meets_v4_allocating_paths_vacant it = trains-come it.routes (λ q one its that mode i x least at vacant. leave-vacant p s t n it x vacant)

  pub cancel-meets_v4_allocating_paths_vacant : IsCancelled p s t n → meets_v4_allocating_paths_vacant p t ≡ true
  cancel-meets_v4_allocating_paths_vacant it = let now = it.now in changed it.route now (record now { mode = Free }) it.changes it.trains (λ e. cc)
