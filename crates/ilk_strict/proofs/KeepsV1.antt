-- No event breaks V1, about the counts of seen and released sections.
use Rattle.std.proofs.Common.{◌≡◌, ℕ, ◌+◌, true, false, inl, inr, refl, arith}
use Rattle.std.proofs.lemmas.Option.{slice_get_within}
use Rattle.ilk_base.proofs.Truth.{either}
use Rattle.ilk_plant.specs.Plant.{PlantLists}
use Rattle.ilk_plant.specs.Shape.{HasShape}
use Rattle.ilk_plant.specs.declared.state.Mode.{Mode}
use Rattle.ilk_plant.specs.declared.state.Mode.TheVariants.{Free, Marked, Allocating, Locked, Occupied}
use Rattle.ilk_plant.specs.declared.state.RouteState.{RouteState}
use Rattle.ilk_plant.specs.declared.state.State.{State}
use Rattle.ilk_plant.specs.declared.table.Route.{Route}
use Rattle.ilk_routes.specs.Modes.{same_mode}
use Rattle.ilk_model.specs.Families.{meets_v1_consistent_counts}
use Rattle.ilk_strict.proofs.After.{after-cases, before-change, same-here, v1-reads}
use Rattle.ilk_model.proofs.Alike.{one_mode}
use Rattle.ilk_model.proofs.PointFrames.{IsSettled, IsThrown}
use Rattle.ilk_model.proofs.RouteFrames.{ChangesRoute, IsAllocated, IsCancelled, IsFinished, IsLocked, IsMarked, IsReleased, IsSensed}
use Rattle.ilk_model.proofs.TrainFrames.{IsEntered, IsHeaded, IsLeft, IsTailed}
use Rattle.ilk_strict.proofs.Reading.{all_routes_pass_test-at, all_routes_pass_test-from}
use Rattle.ilk_strict.proofs.RouteFacts.{counts-idle, counts-in_use, counts_right, idle, in_use, rel-seen}
use Rattle.ilk_strict.proofs.TrainFacts.{Keeps}

module _ (p : PlantLists) (s t : State) (keeps : Keeps p s) (shape : HasShape p t) (n : ℕ) where
  changed : (route : Route) (now new : RouteState) → ChangesRoute p s t n route now new → counts_right route new ≡ true → meets_v1_consistent_counts p t ≡ true
  changed route now new changes right =
      all_routes_pass_test-from p t counts_right shape.routes (λ q one its it. elim (after-cases p s t n route now new changes q one its it) [
        | inl here ↦ same-here (λ u v. counts_right u v ≡ true) one route its new here.1 here.2 right
        | inr other ↦ all_routes_pass_test-at p s counts_right keeps.v1 q one its other.1
      ])

  still-idle : (route : Route) (now : RouteState) (mode : Mode) → ChangesRoute p s t n route now (record now { mode = mode }) → same_mode now.mode Occupied ≡ false → same_mode mode Occupied ≡ false → meets_v1_consistent_counts p t ≡ true
  still-idle route now mode changes before after =
      let counts = idle p s keeps.v1 n route now (before-change p s t n route now (record now { mode = mode }) changes) before in
      changed route now (record now { mode = mode }) changes (counts-idle route (record now { mode = mode }) after counts.0 counts.1)

  pub mark-meets_v1_consistent_counts : IsMarked p s t n → meets_v1_consistent_counts p t ≡ true
  mark-meets_v1_consistent_counts it = still-idle it.route it.now Marked it.changes (rw it.was refl) refl

  pub allocate-meets_v1_consistent_counts : IsAllocated p s t n → meets_v1_consistent_counts p t ≡ true
  allocate-meets_v1_consistent_counts it = still-idle it.route it.now Allocating it.changes (rw it.was refl) refl

  pub lock-meets_v1_consistent_counts : IsLocked p s t n → meets_v1_consistent_counts p t ≡ true
  lock-meets_v1_consistent_counts it = still-idle it.route it.now Locked it.changes (rw it.was refl) refl

  pub sense-meets_v1_consistent_counts : IsSensed p s t n → meets_v1_consistent_counts p t ≡ true
  sense-meets_v1_consistent_counts it =
      let now = it.now in
      let new : RouteState = record now { mode = Occupied; seen = now.seen + 1 } in
      let few = rel-seen p s keeps.v1 n it.route now (before-change p s t n it.route now new it.changes) in
      let within = slice_get_within it.route.path now.seen it.x it.next in
      changed it.route now new it.changes (counts-in_use it.route new refl (omega (arith, few)) (omega (arith, within)))

  pub release-meets_v1_consistent_counts : IsReleased p s t n → meets_v1_consistent_counts p t ≡ true
  release-meets_v1_consistent_counts it =
      let now = it.now in
      let new : RouteState = record now { rel = now.rel + 1 } in
      let counts = in_use p s keeps.v1 n it.route now (before-change p s t n it.route now new it.changes) (rw it.was refl) in
      let less = it.behind in
      changed it.route now new it.changes (counts-in_use it.route new (rw it.was refl) (omega (arith, less)) counts.1)

  pub finish-meets_v1_consistent_counts : IsFinished p s t n → meets_v1_consistent_counts p t ≡ true
  finish-meets_v1_consistent_counts it =
      let new : RouteState = record { mode = Free; seen = 0; rel = 0 } in
      changed it.route it.now new it.changes (counts-idle it.route new refl refl refl)

  pub throw-meets_v1_consistent_counts : IsThrown p s t n → meets_v1_consistent_counts p t ≡ true
  throw-meets_v1_consistent_counts it = v1-reads p s t it.routes keeps.v1

  pub settle-meets_v1_consistent_counts : IsSettled p s t n → meets_v1_consistent_counts p t ≡ true
  settle-meets_v1_consistent_counts it = v1-reads p s t it.routes keeps.v1

  pub enter-meets_v1_consistent_counts : IsEntered p s t n → meets_v1_consistent_counts p t ≡ true
  enter-meets_v1_consistent_counts it = v1-reads p s t it.routes keeps.v1

  pub head-meets_v1_consistent_counts : IsHeaded p s t n → meets_v1_consistent_counts p t ≡ true
  head-meets_v1_consistent_counts it = v1-reads p s t it.routes keeps.v1

  pub tail-meets_v1_consistent_counts : IsTailed p s t n → meets_v1_consistent_counts p t ≡ true
  tail-meets_v1_consistent_counts it = v1-reads p s t it.routes keeps.v1

  pub leave-meets_v1_consistent_counts : IsLeft p s t n → meets_v1_consistent_counts p t ≡ true
  leave-meets_v1_consistent_counts it = v1-reads p s t it.routes keeps.v1

  pub cancel-meets_v1_consistent_counts : IsCancelled p s t n → meets_v1_consistent_counts p t ≡ true
  cancel-meets_v1_consistent_counts it =
      still-idle it.route it.now Free it.changes (elim (either (same_mode it.now.mode Marked) (same_mode it.now.mode Allocating) it.was) [
        | inl e ↦ rw (one_mode it.now.mode Marked e) refl
        | inr e ↦ rw (one_mode it.now.mode Allocating e) refl
      ]) refl
