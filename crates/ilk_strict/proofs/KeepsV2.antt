-- No event breaks V2: no two routes hold one section. Only an allocation adds held sections. Their
-- locks were Free, and by V3 no held section has lock Free.
use Rattle.std.proofs.Common.{◌≡◌, ℕ, ◌+◌, ◌<◌, ◌≤◌, true, false, Some, inl, inr, length, slice_get, refl, sym, ◌∙◌, ap, arith}
use Rattle.std.specs.List.{list_all}
use Rattle.std.proofs.lemmas.Bool.{and_parts, both_ways, cases_eq}
use Rattle.ilk_base.proofs.Tested.{list_all-slice_get}
use Rattle.ilk_base.proofs.Truth.{fails}
use Rattle.ilk_plant.specs.Network.{contains_section}
use Rattle.ilk_plant.specs.Plant.{PlantLists}
use Rattle.ilk_plant.specs.State.{has_lock_state, is_unlocked_and_vacant, is_occupied}
use Rattle.ilk_plant.specs.TableRules.{sections_locked_for}
use Rattle.ilk_plant.specs.declared.state.Hold.TheVariants.{Free as FreeLock}
use Rattle.ilk_plant.specs.declared.state.Mode.TheVariants.{Free, Marked, Allocating, Locked, Occupied}
use Rattle.ilk_plant.specs.declared.state.RouteState.{RouteState}
use Rattle.ilk_plant.specs.declared.state.State.{State}
use Rattle.ilk_plant.specs.declared.table.Route.{Route}
use Rattle.ilk_plant.proofs.InLists.{section-at}
use Rattle.ilk_model.specs.Families.{meets_v2_sections_held_once}
use Rattle.ilk_model.specs.Holding.{holds_section, is_holding_state}
use Rattle.ilk_strict.proofs.After.{after-cases, v2-reads}
use Rattle.ilk_model.proofs.PointFrames.{IsSettled, IsThrown}
use Rattle.ilk_model.proofs.RouteFrames.{ChangesRoute, IsAllocated, IsCancelled, IsFinished, IsLocked, IsMarked, IsReleased, IsSensed}
use Rattle.ilk_model.proofs.TrainFrames.{IsEntered, IsHeaded, IsLeft, IsTailed}
use Rattle.ilk_strict.proofs.Reading.{RouteIn, has_lock_state-at}
use Rattle.ilk_strict.proofs.RouteFacts.{allocating-holds, alone, alone-from, held-not_free, holds-beside, holds-cases, holds-path, locked-holds}
use Rattle.ilk_strict.proofs.Table.{beside-locked_for, path-locked_for}
use Rattle.ilk_strict.proofs.TrainFacts.{Keeps}

pub cleared : (s : State) (route : Route) → list_all (is_unlocked_and_vacant s) (sections_locked_for route) ≡ true → (x : ℕ) → contains_section x (sections_locked_for route) ≡ true → (slice_get s.locks x ≡ Some FreeLock) × (is_occupied s x ≡ false)
cleared s route clear x among =
    let found = section-at x (sections_locked_for route) among in
    let both = and_parts (has_lock_state s x FreeLock) _ (list_all-slice_get (is_unlocked_and_vacant s) (sections_locked_for route) found.0 x clear found.1) in
    (has_lock_state-at s x FreeLock both.0, fails (is_occupied s x) both.1)

pub held-locked_for : (route : Route) (now : RouteState) (x : ℕ) → holds_section x route now ≡ true → contains_section x (sections_locked_for route) ≡ true
held-locked_for route now x held = elim (holds-cases route now x held).1 [
  | inl beside ↦ beside-locked_for route x beside
  | inr place ↦ path-locked_for route place.0 x place.2
]

module _ (p : PlantLists) (s t : State) (keeps : Keeps p s) (n : ℕ) where
  shrinks : (route : Route) (now new : RouteState) → ChangesRoute p s t n route now new → ((x : ℕ) → holds_section x route new ≡ true → holds_section x route now ≡ true) → meets_v2_sections_held_once p t ≡ true
  shrinks route now new changes less =
      alone-from p t (λ q one its it r other their that x within first second.
      let a = held q one its it x first in
      let b = held r other their that x second in
      alone p s keeps.v2 q one a.0 a.1 r other b.0 b.1 x within a.2 b.2)
    where
      held : (q : ℕ) (one : Route) (its : RouteState) → RouteIn p t q one its → (x : ℕ) → holds_section x one its ≡ true → (old : RouteState) × RouteIn p s q one old × (holds_section x one old ≡ true)
      held q one its it x h = elim (after-cases p s t n route now new changes q one its it) [
        | inl here ↦
            (let was : RouteIn p s q one now = record { known = it.known; state = ap (slice_get s.routes) here.0 ∙ changes.state } in
            let mine : holds_section x route new ≡ true = rw (here.1, here.2) at h in
            (now, was, rw here.1 (less x mine)))
        | inr other ↦ (its, other.1, h)
      ]

  drops : (route : Route) (now new : RouteState) → ChangesRoute p s t n route now new → is_holding_state new ≡ false → meets_v2_sections_held_once p t ≡ true
  drops route now new changes none =
      shrinks route now new changes (λ x held. let holds = (holds-cases route new x held).0 in absurd (both_ways (is_holding_state new) none holds))

  goes-on_holding : (route : Route) (now new : RouteState) → ChangesRoute p s t n route now new → is_holding_state now ≡ true → now.rel ≤ new.rel → meets_v2_sections_held_once p t ≡ true
  goes-on_holding route now new changes holds more =
      shrinks route now new changes (λ x held. elim (holds-cases route new x held).1 [
        | inl beside ↦ holds-beside route now x holds beside
        | inr place ↦ (let least = place.1 in holds-path route now place.0 x holds (omega (arith, more, least)) place.2)
      ])

  pub mark-meets_v2_sections_held_once : IsMarked p s t n → meets_v2_sections_held_once p t ≡ true
  mark-meets_v2_sections_held_once it = let now = it.now in drops it.route now (record now { mode = Marked }) it.changes refl

  pub allocate-meets_v2_sections_held_once : IsAllocated p s t n → meets_v2_sections_held_once p t ≡ true
  allocate-meets_v2_sections_held_once it =
      alone-from p t (λ q one its here r other their there x within first second. elim (cases_eq q r) [
        | inl same ↦ same
        | inr apart ↦ absurd (apart (of q one its here r other their there x within first second))
      ])
    where
      new : RouteState
      new = let now = it.now in record now { mode = Allocating }

      taken : (q : ℕ) (one : Route) (its : RouteState) → RouteIn p s q one its → (x : ℕ) → holds_section x one its ≡ true → holds_section x it.route new ≡ true → ⊥
      taken q one its that x theirs mine =
          held-not_free p s keeps.v3 q one its that x theirs (cleared s it.route it.clear x (held-locked_for it.route new x mine)).0

      of : (q : ℕ) (one : Route) (its : RouteState) → RouteIn p t q one its →
          (r : ℕ) (other : Route) (their : RouteState) → RouteIn p t r other their → (x : ℕ) →
          x < length p.sections → holds_section x one its ≡ true → holds_section x other their ≡ true → q ≡ r
      of q one its here r other their there x within first second =
          elim (after-cases p s t n it.route it.now new it.changes q one its here) [
            | inl mine ↦ elim (after-cases p s t n it.route it.now new it.changes r other their there) [
              | inl too ↦ mine.0 ∙ sym too.0
              | inr else ↦ absurd (taken r other their else.1 x second (rw (mine.1, mine.2) at first))
            ]
            | inr else ↦ elim (after-cases p s t n it.route it.now new it.changes r other their there) [
              | inl mine ↦ absurd (taken q one its else.1 x first (rw (mine.1, mine.2) at second))
              | inr too ↦ alone p s keeps.v2 q one its else.1 r other their too.1 x within first second
            ]
          ]

  pub lock-meets_v2_sections_held_once : IsLocked p s t n → meets_v2_sections_held_once p t ≡ true
  lock-meets_v2_sections_held_once it = let now = it.now in goes-on_holding it.route now (record now { mode = Locked }) it.changes (allocating-holds now it.was) (omega arith)

  pub sense-meets_v2_sections_held_once : IsSensed p s t n → meets_v2_sections_held_once p t ≡ true
  sense-meets_v2_sections_held_once it = let now = it.now in goes-on_holding it.route now (record now { mode = Occupied; seen = now.seen + 1 }) it.changes (locked-holds now it.was) (omega arith)

  pub release-meets_v2_sections_held_once : IsReleased p s t n → meets_v2_sections_held_once p t ≡ true
  release-meets_v2_sections_held_once it = let now = it.now in goes-on_holding it.route now (record now { rel = now.rel + 1 }) it.changes (rw it.was refl) (omega arith)

  pub finish-meets_v2_sections_held_once : IsFinished p s t n → meets_v2_sections_held_once p t ≡ true
  finish-meets_v2_sections_held_once it = drops it.route it.now (record { mode = Free; seen = 0; rel = 0 }) it.changes refl

  pub throw-meets_v2_sections_held_once : IsThrown p s t n → meets_v2_sections_held_once p t ≡ true
  throw-meets_v2_sections_held_once it = v2-reads p s t it.routes keeps.v2

  pub settle-meets_v2_sections_held_once : IsSettled p s t n → meets_v2_sections_held_once p t ≡ true
  settle-meets_v2_sections_held_once it = v2-reads p s t it.routes keeps.v2

  pub enter-meets_v2_sections_held_once : IsEntered p s t n → meets_v2_sections_held_once p t ≡ true
  enter-meets_v2_sections_held_once it = v2-reads p s t it.routes keeps.v2

  pub head-meets_v2_sections_held_once : IsHeaded p s t n → meets_v2_sections_held_once p t ≡ true
  head-meets_v2_sections_held_once it = v2-reads p s t it.routes keeps.v2

  pub tail-meets_v2_sections_held_once : IsTailed p s t n → meets_v2_sections_held_once p t ≡ true
  tail-meets_v2_sections_held_once it = v2-reads p s t it.routes keeps.v2

  pub leave-meets_v2_sections_held_once : IsLeft p s t n → meets_v2_sections_held_once p t ≡ true
  leave-meets_v2_sections_held_once it = v2-reads p s t it.routes keeps.v2

  pub cancel-meets_v2_sections_held_once : IsCancelled p s t n → meets_v2_sections_held_once p t ≡ true
  cancel-meets_v2_sections_held_once it = let now = it.now in drops it.route now (record now { mode = Free }) it.changes refl
