-- Release, finish and cancel enable no automatic event that `may_enable_automatic` doesn't list.
use Rattle.std.proofs.Common.{◌≡◌, ℕ, ◌+◌, Bool, true, false, ◌||◌, ◌==◌, Some, List, slice_get, inl, refl, ap, ◌∙◌}
use Rattle.std.specs.Prelude.{if◌then◌else◌}
use Rattle.ilk_base.proofs.Tested.{list_any-none}
use Rattle.ilk_plant.specs.Network.{contains_section}
use Rattle.ilk_plant.specs.Plant.{IsPlant, PlantLists, board_of}
use Rattle.ilk_plant.specs.Shape.{HasShape}
use Rattle.ilk_plant.specs.TableRules.{sections_locked_for}
use Rattle.ilk_plant.specs.declared.state.Aspect.TheVariants.{Closed}
use Rattle.ilk_plant.specs.declared.state.Hold.TheVariants.{Free as FreeLock, Locked as LockedLock, Used as UsedLock}
use Rattle.ilk_plant.specs.declared.state.Mode.{Mode}
use Rattle.ilk_plant.specs.declared.state.Mode.TheVariants.{Free, Marked, Allocating, Locked, Occupied}
use Rattle.ilk_plant.specs.declared.state.State.{State}
use Rattle.ilk_plant.specs.declared.table.Route.{Route}
use Rattle.ilk_routes.specs.Claims.{sections_outside_path}
use Rattle.ilk_routes.specs.Locks.{with_locks}
use Rattle.ilk_routes.specs.Modes.{same_mode}
use Rattle.ilk_model.proofs.RouteFrames.{IsCancelled, IsFinished, IsReleased}
use Rattle.ilk_model.specs.Event.{next}
use Rattle.ilk_model.specs.Holding.{is_locked_or_occupied}
use Rattle.ilk_model.specs.declared.event.Event.TheVariants.{Mark, Allocate, Lock, Sense, Release, Finish, Throw, Settle, Enter, Head, Tail, Leave, Cancel}
use Rattle.ilk_plant.proofs.InLists.{section-from}
use Rattle.ilk_strict.proofs.Table.{path-locked_for}
use Rattle.ilk_drive.proofs.Back.{allocate-back, allocating, finish-back, in_occupation, lock-back, marked, release-back, sense-back}
use Rattle.ilk_drive.proofs.Changes.{GivesLock, claims-back, claims-other, clear-back, lock-back as other-lock-back, lock-same, locks-set, locks-set_with, locks-stay, locks-with, states-back, states-other}
use Rattle.ilk_drive.proofs.RouteKeeps.{Keeps}
use Rattle.ilk_drive.proofs.Staying.{are-apart, aspect-stays, beside-none, head-stays, leave-stays, lie-stays, lies-back, not-shared, not-these, occupied-stays, passes-same, protecting-keeps, settle-stays, tail-stays, throw-stays, vacant-stays}

pub release-keeps : (p : PlantLists) → IsPlant p → (s t : State) → HasShape p s → (r : ℕ) → IsReleased p s t r → Keeps p s t (Release r)
release-keeps p plant s t shape r it (Mark q) own out h = cc
release-keeps p plant s t shape r it (Allocate q) own out h = allocate-back p s t q
    (states-back p s t r it.route it.now (record it.now { rel = it.now.rel + 1 }) it.changes q marked
    (ap (λ (m : Mode). same_mode m Marked) it.was))
    (λ route known k c at free. claims-back p s t r it.route it.now (record it.now { rel = it.now.rel + 1 })
    it.changes (inl (ap (λ (m : Mode). same_mode m Allocating || same_mode m Locked) it.was)) c free)
    (λ route known k x at. clear-back s t x
    (lock-same s t FreeLock (λ z. z == it.x) (locks-set s t it.x FreeLock it.locks) x FreeLock
    (not-these (sections_locked_for it.route) x it.x
    (not-shared it.route route
    (are-apart p r q it.route route it.changes.known known out).sections x
    (section-from (sections_locked_for route) k x at))
    (path-locked_for it.route it.now.rel it.x it.first)))
    (vacant-stays s t it.trains x)) h
release-keeps p plant s t shape r it (Lock q) own out h = lock-back p s t q
    (states-back p s t r it.route it.now (record it.now { rel = it.now.rel + 1 }) it.changes q allocating
    (ap (λ (m : Mode). same_mode m Allocating) it.was))
    (λ route known k listed at. lies-back p s t listed (lie-stays p s t it.points listed.point))
    (λ route known k m at. aspect-stays s t it.boards m Closed)
    (λ route known. protecting-keeps p s t r it.route it.now (record it.now { rel = it.now.rel + 1 })
    it.changes (inl (ap (λ (m : Mode). same_mode m Locked) it.was)) route.source) h
release-keeps p plant s t shape r it (Sense q) own out h = sense-back p s t q
    (states-other p s t r it.route it.now (record it.now { rel = it.now.rel + 1 }) it.changes q
    is_locked_or_occupied out)
    (λ route now x known at next occupied locked. (
      occupied-stays s t it.trains x occupied,
      other-lock-back s t FreeLock (λ z. z == it.x) (locks-set s t it.x FreeLock it.locks) x
          LockedLock refl locked,
    )) h
release-keeps p plant s t shape r it (Release q) own out h = release-back p s t q
    (states-other p s t r it.route it.now (record it.now { rel = it.now.rel + 1 }) it.changes q in_occupation
    out)
    (λ route now x known at first vacant used. (
      vacant-stays s t it.trains x vacant,
      other-lock-back s t FreeLock (λ z. z == it.x) (locks-set s t it.x FreeLock it.locks) x UsedLock
          refl used,
    )) h
release-keeps p plant s t shape r it (Finish q) own out h = finish-back p s t q (states-other p s t r it.route it.now (record it.now { rel = it.now.rel + 1 }) it.changes q in_occupation out) h
release-keeps p plant s t shape r it (Throw x) own out h = throw-stays p s t x it.points h
release-keeps p plant s t shape r it (Settle x) own out h = settle-stays p s t x it.points h
release-keeps p plant s t shape r it (Enter x) own out h = cc
release-keeps p plant s t shape r it (Head x) own out h = head-stays p s t x it.trains (lie-stays p s t it.points x) (λ d. passes-same s t it.boards (board_of p x d)) h
release-keeps p plant s t shape r it (Tail x) own out h = tail-stays p s t x it.trains h
release-keeps p plant s t shape r it (Leave x) own out h = leave-stays p s t x it.trains h
release-keeps p plant s t shape r it (Cancel q) own out h = cc

finished-other : (route : Route) (k x z : ℕ) → slice_get route.path k ≡ Some x → contains_section z (sections_locked_for route) ≡ false → (z == x || contains_section z (sections_outside_path route)) ≡ false
finished-other route k x z at out =
    ap (λ (b : Bool). b || contains_section z (sections_outside_path route)) (not-these (sections_locked_for route) z x out (path-locked_for route k x at)) ∙ beside-none z route out

pub finish-keeps : (p : PlantLists) → IsPlant p → (s t : State) → HasShape p s → (r : ℕ) → IsFinished p s t r → Keeps p s t (Finish r)
finish-keeps p plant s t shape r it (Mark q) own out h = cc
finish-keeps p plant s t shape r it (Allocate q) own out h = allocate-back p s t q
    (states-back p s t r it.route it.now (record { mode = Free; seen = 0; rel = 0 }) it.changes q marked
    (refl))
    (λ route known k c at free. claims-back p s t r it.route it.now
    (record { mode = Free; seen = 0; rel = 0 }) it.changes
    (inl (ap (λ (m : Mode). same_mode m Allocating || same_mode m Locked) it.was)) c free)
    (λ route known k x at. clear-back s t x
    (lock-same s t FreeLock (λ z. z == it.x || contains_section z (sections_outside_path it.route))
    (locks-set_with s t it.x (sections_outside_path it.route) FreeLock it.locks) x FreeLock
    (finished-other it.route it.now.rel it.x x it.last
    (not-shared it.route route
    (are-apart p r q it.route route it.changes.known known out).sections x
    (section-from (sections_locked_for route) k x at))))
    (vacant-stays s t it.trains x)) h
finish-keeps p plant s t shape r it (Lock q) own out h = lock-back p s t q
    (states-back p s t r it.route it.now (record { mode = Free; seen = 0; rel = 0 }) it.changes q allocating
    (refl))
    (λ route known k listed at. lies-back p s t listed (lie-stays p s t it.points listed.point))
    (λ route known k m at. aspect-stays s t it.boards m Closed)
    (λ route known. protecting-keeps p s t r it.route it.now (record { mode = Free; seen = 0; rel = 0 })
    it.changes (inl (ap (λ (m : Mode). same_mode m Locked) it.was)) route.source) h
finish-keeps p plant s t shape r it (Sense q) own out h = sense-back p s t q
    (states-back p s t r it.route it.now (record { mode = Free; seen = 0; rel = 0 }) it.changes q
    is_locked_or_occupied (refl))
    (λ route now x known at next occupied locked. (
      occupied-stays s t it.trains x occupied,
      other-lock-back s t FreeLock (λ z. z == it.x || contains_section z (sections_outside_path it.route))
          (locks-set_with s t it.x (sections_outside_path it.route) FreeLock it.locks) x LockedLock refl
          locked,
    )) h
finish-keeps p plant s t shape r it (Release q) own out h = release-back p s t q
    (states-back p s t r it.route it.now (record { mode = Free; seen = 0; rel = 0 }) it.changes q
    in_occupation (refl))
    (λ route now x known at first vacant used. (
      vacant-stays s t it.trains x vacant,
      other-lock-back s t FreeLock (λ z. z == it.x || contains_section z (sections_outside_path it.route))
          (locks-set_with s t it.x (sections_outside_path it.route) FreeLock it.locks) x UsedLock refl used,
    ))
    h
finish-keeps p plant s t shape r it (Finish q) own out h = finish-back p s t q (states-back p s t r it.route it.now (record { mode = Free; seen = 0; rel = 0 }) it.changes q in_occupation (refl)) h
finish-keeps p plant s t shape r it (Throw x) own out h = throw-stays p s t x it.points h
finish-keeps p plant s t shape r it (Settle x) own out h = settle-stays p s t x it.points h
finish-keeps p plant s t shape r it (Enter x) own out h = cc
finish-keeps p plant s t shape r it (Head x) own out h = head-stays p s t x it.trains (lie-stays p s t it.points x) (λ d. passes-same s t it.boards (board_of p x d)) h
finish-keeps p plant s t shape r it (Tail x) own out h = tail-stays p s t x it.trains h
finish-keeps p plant s t shape r it (Leave x) own out h = leave-stays p s t x it.trains h
finish-keeps p plant s t shape r it (Cancel q) own out h = cc

record GivesBack (s t : State) (ys : List ℕ) : Type 0 where
  changed : ℕ → Bool
  gives : GivesLock s t FreeLock changed
  only : (x : ℕ) → contains_section x ys ≡ false → changed x ≡ false

given-back : (s t : State) (ys : List ℕ) (b : Bool) → t.locks ≡ (if b then with_locks s.locks ys FreeLock else s.locks) → GivesBack s t ys
given-back s t ys true same = record { changed = λ x. contains_section x ys; gives = locks-with s t ys FreeLock same; only = λ x out. out }
given-back s t ys false same = record { changed = λ x. false; gives = locks-stay s t FreeLock same; only = λ x out. refl }

cancelled-unlocked : (mode : Mode) → (same_mode mode Marked || same_mode mode Allocating) ≡ true → same_mode mode Locked ≡ false
cancelled-unlocked Free h = cc
cancelled-unlocked Marked h = refl
cancelled-unlocked Allocating h = refl
cancelled-unlocked Locked h = cc
cancelled-unlocked Occupied h = cc

cancelled-locks : (p : PlantLists) (s t : State) (r : ℕ) → (it : IsCancelled p s t r) → GivesBack s t (sections_locked_for it.route)
cancelled-locks p s t r it = given-back s t (sections_locked_for it.route) (same_mode it.now.mode Allocating) it.locks

pub cancel-keeps : (p : PlantLists) → IsPlant p → (s t : State) → HasShape p s → (r : ℕ) → IsCancelled p s t r → Keeps p s t (Cancel r)
cancel-keeps p plant s t shape r it (Mark q) own out h = cc
cancel-keeps p plant s t shape r it (Allocate q) own out h = allocate-back p s t q
    (states-back p s t r it.route it.now (record it.now { mode = Free }) it.changes q marked (refl))
    (λ route known k c at free. claims-other p s t r it.route it.now (record it.now { mode = Free })
    it.changes c
    (list_any-none (λ z. z == r) route.conflicts k c
    (are-apart p r q it.route route it.changes.known known out).conflict at) free)
    (λ route known k x at. clear-back s t x
    (lock-same s t FreeLock (cancelled-locks p s t r it).changed (cancelled-locks p s t r it).gives x
    FreeLock
    ((cancelled-locks p s t r it).only x
    (not-shared it.route route
    (are-apart p r q it.route route it.changes.known known out).sections x
    (section-from (sections_locked_for route) k x at))))
    (vacant-stays s t it.trains x)) h
cancel-keeps p plant s t shape r it (Lock q) own out h = lock-back p s t q
    (states-back p s t r it.route it.now (record it.now { mode = Free }) it.changes q allocating (refl))
    (λ route known k listed at. lies-back p s t listed (lie-stays p s t it.points listed.point))
    (λ route known k m at. aspect-stays s t it.boards m Closed)
    (λ route known. protecting-keeps p s t r it.route it.now (record it.now { mode = Free }) it.changes
    (inl (cancelled-unlocked it.now.mode it.was)) route.source) h
cancel-keeps p plant s t shape r it (Sense q) own out h = sense-back p s t q
    (states-back p s t r it.route it.now (record it.now { mode = Free }) it.changes q is_locked_or_occupied
    (refl))
    (λ route now x known at next occupied locked. (
      occupied-stays s t it.trains x occupied,
      other-lock-back s t FreeLock (cancelled-locks p s t r it).changed
          (cancelled-locks p s t r it).gives x LockedLock refl locked,
    )) h
cancel-keeps p plant s t shape r it (Release q) own out h = release-back p s t q
    (states-back p s t r it.route it.now (record it.now { mode = Free }) it.changes q in_occupation (refl))
    (λ route now x known at first vacant used. (
      vacant-stays s t it.trains x vacant,
      other-lock-back s t FreeLock (cancelled-locks p s t r it).changed
          (cancelled-locks p s t r it).gives x UsedLock refl used,
    )) h
cancel-keeps p plant s t shape r it (Finish q) own out h = finish-back p s t q (states-back p s t r it.route it.now (record it.now { mode = Free }) it.changes q in_occupation (refl)) h
cancel-keeps p plant s t shape r it (Throw x) own out h = throw-stays p s t x it.points h
cancel-keeps p plant s t shape r it (Settle x) own out h = settle-stays p s t x it.points h
cancel-keeps p plant s t shape r it (Enter x) own out h = cc
cancel-keeps p plant s t shape r it (Head x) own out h = head-stays p s t x it.trains (lie-stays p s t it.points x) (λ d. passes-same s t it.boards (board_of p x d)) h
cancel-keeps p plant s t shape r it (Tail x) own out h = tail-stays p s t x it.trains h
cancel-keeps p plant s t shape r it (Leave x) own out h = leave-stays p s t x it.trains h
cancel-keeps p plant s t shape r it (Cancel q) own out h = cc
