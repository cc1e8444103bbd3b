-- The conditions and the effects of each route event, and that nothing else changes.
use Rattle.std.proofs.Common.{◌≡◌, ℕ, ◌+◌, ◌≤◌, true, false, not, ◌==◌, ◌&&◌, ◌||◌, Some, None, List, length, nat_le, set, slice_get, refl, sym, ◌∙◌, arith}
use Rattle.std.specs.Prelude.{if◌then◌else◌}
use Rattle.std.specs.List.{last_or, list_all}
use Rattle.std.proofs.lemmas.Bool.{and_parts, eqb-true}
use Rattle.std.proofs.lemmas.Bool.Decides.{nat_tests}
use Rattle.std.proofs.lemmas.Option.{cond_some, option_and_then_some}
use Rattle.ilk_base.proofs.Lists.{item_at, last_or-at}
use Rattle.ilk_base.proofs.Truth.{fails}
use Rattle.ilk_plant.specs.Plant.{PlantLists}
use Rattle.ilk_plant.specs.State.{has_lock_state, is_unlocked_and_vacant, is_occupied}
use Rattle.ilk_plant.specs.TableRules.{sections_locked_for}
use Rattle.ilk_plant.specs.declared.state.Aspect.TheVariants.{Open, Closed}
use Rattle.ilk_plant.specs.declared.state.Hold.TheVariants.{Free as FreeLock, Locked as LockedLock, Used as UsedLock}
use Rattle.ilk_plant.specs.declared.state.Mode.TheVariants.{Free, Marked, Allocating, Locked, Occupied}
use Rattle.ilk_plant.specs.declared.state.RouteState.{RouteState}
use Rattle.ilk_plant.specs.declared.state.State.{State}
use Rattle.ilk_plant.specs.declared.table.Route.{Route}
use Rattle.ilk_routes.specs.Boards.{has_aspect, is_protecting_locked_route}
use Rattle.ilk_routes.specs.Claims.{sections_outside_path, required_points}
use Rattle.ilk_routes.specs.Lies.{is_point_detected_as_listed, with_commands}
use Rattle.ilk_routes.specs.Locks.{with_locks}
use Rattle.ilk_routes.specs.Modes.{same_mode}
use Rattle.ilk_routes.specs.Routes.{after_allocate, after_cancel, after_finish, after_lock, after_mark, after_release, after_sense, can_allocate_if_marked, can_lock_if_allocating}
use Rattle.ilk_model.specs.Holding.{is_locked_or_occupied}
use Rattle.ilk_model.proofs.Alike.{one_mode}
use Rattle.ilk_model.proofs.SameLists.{same-lists}

-- From s to t only the state of route r changes among the routes, from `now` to `new`.
pub record ChangesRoute (p : PlantLists) (s t : State) (r : ℕ) (route : Route) (now new : RouteState) : Type 0 where
  pub known : slice_get p.routes r ≡ Some route
  pub state : slice_get s.routes r ≡ Some now
  pub routes : t.routes ≡ set s.routes r new

-- `mark r`: r was Free. Points, boards, locks and trains don't change.
pub record IsMarked (p : PlantLists) (s t : State) (r : ℕ) : Type 0 where
  pub route : Route
  pub now : RouteState
  pub changes : ChangesRoute p s t r route now (record now { mode = Marked })
  pub was : now.mode ≡ Free
  pub points : t.points ≡ s.points
  pub boards : t.boards ≡ s.boards
  pub locks : t.locks ≡ s.locks
  pub trains : t.trains ≡ s.trains

pub mark-frame : (p : PlantLists) (s t : State) (r : ℕ) → after_mark p s r ≡ Some t → IsMarked p s t r
mark-frame p s t r e =
    option_and_then_some _ (slice_get p.routes r) t e (λ route known e1.
    option_and_then_some _ (slice_get s.routes r) t e1 (λ now state e2.
    let done = cond_some _ _ t e2 in
    let same = same-lists _ t done.1 in
    record {
      route = route;
      now = now;
      changes = record { known = known; state = state; routes = same.routes };
      was = one_mode now.mode Free done.0;
      points = same.points;
      boards = same.boards;
      locks = same.locks;
      trains = same.trains;
    }))

-- `allocate r`: r was Marked, and its sections had lock Free and were vacant. Boards, trains and
-- detected positions don't change.
pub record IsAllocated (p : PlantLists) (s t : State) (r : ℕ) : Type 0 where
  pub route : Route
  pub now : RouteState
  pub changes : ChangesRoute p s t r route now (record now { mode = Allocating })
  pub was : now.mode ≡ Marked
  pub clear : list_all (is_unlocked_and_vacant s) (sections_locked_for route) ≡ true
  pub points : t.points ≡ with_commands p s.points (required_points route)
  pub boards : t.boards ≡ s.boards
  pub locks : t.locks ≡ with_locks s.locks (sections_locked_for route) LockedLock
  pub trains : t.trains ≡ s.trains

pub allocate-frame : (p : PlantLists) (s t : State) (r : ℕ) → after_allocate p s r ≡ Some t → IsAllocated p s t r
allocate-frame p s t r e =
    option_and_then_some _ (slice_get p.routes r) t e (λ route known e1.
    option_and_then_some _ (slice_get s.routes r) t e1 (λ now state e2.
    let done = cond_some _ _ t e2 in
    let same = same-lists _ t done.1 in
    let asked = and_parts (same_mode now.mode Marked) (can_allocate_if_marked s route) done.0 in
    record {
      route = route;
      now = now;
      changes = record { known = known; state = state; routes = same.routes };
      was = one_mode now.mode Marked asked.0;
      clear = (and_parts _ (list_all (is_unlocked_and_vacant s) (sections_locked_for route)) asked.1).1;
      points = same.points;
      boards = same.boards;
      locks = same.locks;
      trains = same.trains;
    }))

-- `lock r`: r was Allocating, its points were in position, its protecting boards were Closed, and
-- its source was not a protecting board of a Locked route. Points, locks, trains and other boards
-- don't change.
pub record IsLocked (p : PlantLists) (s t : State) (r : ℕ) : Type 0 where
  pub route : Route
  pub now : RouteState
  pub changes : ChangesRoute p s t r route now (record now { mode = Locked })
  pub was : now.mode ≡ Allocating
  pub lie : list_all (is_point_detected_as_listed p s) (required_points route) ≡ true
  pub closed : list_all (λ m. has_aspect s m Closed) route.protecting_boards ≡ true
  pub unprotecting : is_protecting_locked_route p s route.source ≡ false
  pub points : t.points ≡ s.points
  pub boards : t.boards ≡ set s.boards route.source Open
  pub locks : t.locks ≡ s.locks
  pub trains : t.trains ≡ s.trains

pub lock-frame : (p : PlantLists) (s t : State) (r : ℕ) → after_lock p s r ≡ Some t → IsLocked p s t r
lock-frame p s t r e =
    option_and_then_some _ (slice_get p.routes r) t e (λ route known e1.
    option_and_then_some _ (slice_get s.routes r) t e1 (λ now state e2.
    let done = cond_some _ _ t e2 in
    let same = same-lists _ t done.1 in
    let asked = and_parts (same_mode now.mode Allocating) (can_lock_if_allocating p s route) done.0 in
    let lie = list_all (is_point_detected_as_listed p s) (required_points route) in
    let closed = list_all (λ m. has_aspect s m Closed) route.protecting_boards in
    let parts = and_parts (lie && closed) (not (is_protecting_locked_route p s route.source)) asked.1 in
    let both = and_parts lie closed parts.0 in
    record {
      route = route;
      now = now;
      changes = record { known = known; state = state; routes = same.routes };
      was = one_mode now.mode Allocating asked.0;
      lie = both.0;
      closed = both.1;
      unprotecting = fails (is_protecting_locked_route p s route.source) parts.1;
      points = same.points;
      boards = same.boards;
      locks = same.locks;
      trains = same.trains;
    }))

-- `sense r`: r was Locked or Occupied, and x, the first path section not yet seen, was occupied and
-- had lock Locked. Points, trains, other locks and boards other than the source don't change.
pub record IsSensed (p : PlantLists) (s t : State) (r : ℕ) : Type 0 where
  pub route : Route
  pub now : RouteState
  pub x : ℕ
  pub changes : ChangesRoute p s t r route now (record now { mode = Occupied; seen = now.seen + 1 })
  pub was : is_locked_or_occupied now ≡ true
  pub next : slice_get route.path now.seen ≡ Some x
  pub occupied : is_occupied s x ≡ true
  pub locked : has_lock_state s x LockedLock ≡ true
  pub points : t.points ≡ s.points
  pub boards : t.boards ≡ (if now.seen == 0 then set s.boards route.source Closed else s.boards)
  pub locks : t.locks ≡ set s.locks x UsedLock
  pub trains : t.trains ≡ s.trains

pub sense-frame : (p : PlantLists) (s t : State) (r : ℕ) → after_sense p s r ≡ Some t → IsSensed p s t r
sense-frame p s t r e =
    option_and_then_some _ (slice_get p.routes r) t e (λ route known e1.
    option_and_then_some _ (slice_get s.routes r) t e1 (λ now state e2.
    option_and_then_some _ (slice_get route.path now.seen) t e2 (λ x next e3.
    let done = cond_some _ _ t e3 in
    let same = same-lists _ t done.1 in
    let asked = and_parts (is_locked_or_occupied now && is_occupied s x) (has_lock_state s x LockedLock) done.0 in
    let both = and_parts (is_locked_or_occupied now) (is_occupied s x) asked.0 in
    record {
      route = route;
      now = now;
      x = x;
      changes = record { known = known; state = state; routes = same.routes };
      was = both.0;
      next = next;
      occupied = both.1;
      locked = asked.1;
      points = same.points;
      boards = same.boards;
      locks = same.locks;
      trains = same.trains;
    })))

-- `release r`: r was Occupied with at least two more seen than released. Section x, the first one
-- not yet released, was vacant and had lock Used. Points, boards, trains and other locks don't
-- change.
pub record IsReleased (p : PlantLists) (s t : State) (r : ℕ) : Type 0 where
  pub route : Route
  pub now : RouteState
  pub x : ℕ
  pub changes : ChangesRoute p s t r route now (record now { rel = now.rel + 1 })
  pub was : now.mode ≡ Occupied
  pub behind : now.rel + 2 ≤ now.seen
  pub first : slice_get route.path now.rel ≡ Some x
  pub vacant : is_occupied s x ≡ false
  pub used : has_lock_state s x UsedLock ≡ true
  pub points : t.points ≡ s.points
  pub boards : t.boards ≡ s.boards
  pub locks : t.locks ≡ set s.locks x FreeLock
  pub trains : t.trains ≡ s.trains

pub release-frame : (p : PlantLists) (s t : State) (r : ℕ) → after_release p s r ≡ Some t → IsReleased p s t r
release-frame p s t r e =
    option_and_then_some _ (slice_get p.routes r) t e (λ route known e1.
    option_and_then_some _ (slice_get s.routes r) t e1 (λ now state e2.
    option_and_then_some _ (slice_get route.path now.rel) t e2 (λ x first e3.
    let done = cond_some _ _ t e3 in
    let same = same-lists _ t done.1 in
    let mode = same_mode now.mode Occupied in
    let asked = and_parts (mode && nat_le (now.rel + 2) now.seen && not (is_occupied s x)) (has_lock_state s x UsedLock) done.0 in
    let three = and_parts (mode && nat_le (now.rel + 2) now.seen) (not (is_occupied s x)) asked.0 in
    let both = and_parts mode (nat_le (now.rel + 2) now.seen) three.0 in
    record {
      route = route;
      now = now;
      x = x;
      changes = record { known = known; state = state; routes = same.routes };
      was = one_mode now.mode Occupied both.0;
      behind = at_most (now.rel + 2) now.seen both.1;
      first = first;
      vacant = fails (is_occupied s x) three.1;
      used = asked.1;
      points = same.points;
      boards = same.boards;
      locks = same.locks;
      trains = same.trains;
    })))
  where
    at_most : (n m : ℕ) → nat_le n m ≡ true → n ≤ m
    at_most n m h = grind (arith, nat_tests)

last-place : (xs : List ℕ) (n x : ℕ) → n + 1 ≡ length xs → last_or None xs ≡ Some x → slice_get xs n ≡ Some x
last-place xs n x count last =
    let item = item_at xs n (omega (arith, count)) in
    item.1 ∙ sym (last_or-at None xs n item.0 count item.1) ∙ last

-- `finish r`: r was Occupied, its whole path was seen, and all of it except its last section x was
-- released. Points, boards, trains, and locks other than those of x, overlap and protecting points
-- don't change.
pub record IsFinished (p : PlantLists) (s t : State) (r : ℕ) : Type 0 where
  pub route : Route
  pub now : RouteState
  pub x : ℕ
  pub changes : ChangesRoute p s t r route now (record { mode = Free; seen = 0; rel = 0 })
  pub was : now.mode ≡ Occupied
  pub all_seen : now.seen ≡ length route.path
  pub rest : now.rel + 1 ≡ length route.path
  pub last : slice_get route.path now.rel ≡ Some x
  pub points : t.points ≡ s.points
  pub boards : t.boards ≡ s.boards
  pub locks : t.locks ≡ with_locks (set s.locks x FreeLock) (sections_outside_path route) FreeLock
  pub trains : t.trains ≡ s.trains

pub finish-frame : (p : PlantLists) (s t : State) (r : ℕ) → after_finish p s r ≡ Some t → IsFinished p s t r
finish-frame p s t r e =
    option_and_then_some _ (slice_get p.routes r) t e (λ route known e1.
    option_and_then_some _ (slice_get s.routes r) t e1 (λ now state e2.
    option_and_then_some _ (last_or None route.path) t e2 (λ x last e3.
    let done = cond_some _ _ t e3 in
    let same = same-lists _ t done.1 in
    let asked = and_parts (same_mode now.mode Occupied && now.seen == length route.path) (now.rel + 1 == length route.path) done.0 in
    let both = and_parts (same_mode now.mode Occupied) (now.seen == length route.path) asked.0 in
    let rest = eqb-true (now.rel + 1) (length route.path) asked.1 in
    record {
      route = route;
      now = now;
      x = x;
      changes = record { known = known; state = state; routes = same.routes };
      was = one_mode now.mode Occupied both.0;
      all_seen = eqb-true now.seen (length route.path) both.1;
      rest = rest;
      last = last-place route.path now.rel x rest last;
      points = same.points;
      boards = same.boards;
      locks = same.locks;
      trains = same.trains;
    })))

-- `cancel r`: r was Marked or Allocating. Points, boards and trains don't change, nor locks unless
-- r was Allocating.
pub record IsCancelled (p : PlantLists) (s t : State) (r : ℕ) : Type 0 where
  pub route : Route
  pub now : RouteState
  pub changes : ChangesRoute p s t r route now (record now { mode = Free })
  pub was : (same_mode now.mode Marked || same_mode now.mode Allocating) ≡ true
  pub points : t.points ≡ s.points
  pub boards : t.boards ≡ s.boards
  pub locks : t.locks ≡ (if same_mode now.mode Allocating then with_locks s.locks (sections_locked_for route) FreeLock else s.locks)
  pub trains : t.trains ≡ s.trains

pub cancel-frame : (p : PlantLists) (s t : State) (r : ℕ) → after_cancel p s r ≡ Some t → IsCancelled p s t r
cancel-frame p s t r e =
    option_and_then_some _ (slice_get p.routes r) t e (λ route known e1.
    option_and_then_some _ (slice_get s.routes r) t e1 (λ now state e2.
    let done = cond_some _ _ t e2 in
    let same = same-lists _ t done.1 in
    record {
      route = route;
      now = now;
      changes = record { known = known; state = state; routes = same.routes };
      was = done.0;
      points = same.points;
      boards = same.boards;
      locks = same.locks;
      trains = same.trains;
    }))
