-- The seven route events: the next state if the event is enabled, otherwise `None`. Other parts of
-- the state don't change.
use Rattle.std.specs.Prelude.{ℕ, ◌+◌, Bool, Option, ◌==◌, ◌&&◌, ◌||◌, if◌then◌else◌, length, nat_le, slice_get, set, not}
use Rattle.std.specs.List.{list_any, list_all}
use Rattle.ilk_base.specs.Option.{◌>>=◌, then_some}
use Rattle.ilk_plant.specs.Plant.{PlantLists}
use Rattle.ilk_plant.specs.TableRules.{sections_locked_for}
use Rattle.ilk_plant.specs.State.{has_lock_state, is_unlocked_and_vacant, is_occupied}
use Rattle.ilk_plant.specs.declared.state.Aspect.TheVariants.{Open, Closed}
use Rattle.ilk_plant.specs.declared.state.Hold.TheVariants.{Free as FreeLock, Locked as LockedLock, Used as UsedLock}
use Rattle.ilk_plant.specs.declared.state.Mode.TheVariants.{Free, Marked, Allocating, Locked, Occupied}
use Rattle.ilk_plant.specs.declared.state.State.{State}
use Rattle.ilk_plant.specs.declared.table.Route.{Route}
use Rattle.ilk_routes.specs.Boards.{has_aspect, is_protecting_locked_route}
use Rattle.ilk_routes.specs.Claims.{sections_outside_path, required_points}
use Rattle.ilk_routes.specs.Lies.{is_point_detected_as_listed, with_commands}
use Rattle.ilk_routes.specs.Locks.{with_locks}
use Rattle.ilk_routes.specs.Modes.{is_allocating_or_locked, same_mode}
use Rattle.ilk_plant.specs.Network.{last_of}

-- The state after `mark r`. Enabled if route `r` is Free. It becomes Marked.
abbrev pub after_mark : PlantLists → State → ℕ → Option State
after_mark p s r = do
  route ← slice_get p.routes r
  now ← slice_get s.routes r
  then_some (same_mode now.mode Free) (record s {
    routes = set s.routes r (record now { mode = Marked });
  })

-- Returns whether no route that `route` lists as a conflict is Allocating or Locked, and each
-- section of its path, overlap and protecting points has lock Free and is vacant.
abbrev pub can_allocate_if_marked : State → Route → Bool
can_allocate_if_marked s route =
    not (list_any (is_allocating_or_locked s) route.conflicts) && list_all (is_unlocked_and_vacant s) (sections_locked_for route)

-- The state after `allocate r`. Enabled if route `r` is Marked and satisfies
-- `can_allocate_if_marked`. It becomes Allocating, the locks of its path, overlap and protecting
-- points become Locked, and its listed and protecting points are commanded.
abbrev pub after_allocate : PlantLists → State → ℕ → Option State
after_allocate p s r = do
  route ← slice_get p.routes r
  now ← slice_get s.routes r
  then_some (same_mode now.mode Marked && can_allocate_if_marked s route) (record s {
    routes = set s.routes r (record now { mode = Allocating });
    locks = with_locks s.locks (sections_locked_for route) LockedLock;
    points = with_commands p s.points (required_points route);
  })

-- Returns whether the listed and protecting points of `route` are in position, its protecting
-- boards are Closed, and no Locked route has its source as a protecting board.
abbrev pub can_lock_if_allocating : PlantLists → State → Route → Bool
can_lock_if_allocating p s route =
    list_all (is_point_detected_as_listed p s) (required_points route)
    && list_all (λ m. has_aspect s m Closed) route.protecting_boards
    && not (is_protecting_locked_route p s route.source)

-- The state after `lock r`. Enabled if route `r` is Allocating and satisfies
-- `can_lock_if_allocating`. It becomes Locked, and its source board opens.
abbrev pub after_lock : PlantLists → State → ℕ → Option State
after_lock p s r = do
  route ← slice_get p.routes r
  now ← slice_get s.routes r
  then_some (same_mode now.mode Allocating && can_lock_if_allocating p s route) (record s {
    routes = set s.routes r (record now { mode = Locked });
    boards = set s.boards route.source Open;
  })

-- The state after `sense r`. Enabled if route `r` is Locked or Occupied, and the first path section
-- that is not yet seen is occupied and has lock Locked. This lock becomes Used, one more section is
-- seen, and `r` becomes Occupied. With the first section, the source board closes.
abbrev pub after_sense : PlantLists → State → ℕ → Option State
after_sense p s r = do
  route ← slice_get p.routes r
  now ← slice_get s.routes r
  x ← slice_get route.path now.seen
  then_some ((same_mode now.mode Locked || same_mode now.mode Occupied)
      && is_occupied s x
      && has_lock_state s x LockedLock) (record s {
        routes = set s.routes r (record now { mode = Occupied; seen = now.seen + 1 });
        locks = set s.locks x UsedLock;
        boards = (if now.seen == 0 then set s.boards route.source Closed else s.boards);
      })

-- The state after `release r`. Enabled if route `r` is Occupied, at least two more sections are
-- seen than released, and the first one not yet released is vacant and has lock Used. This lock
-- becomes Free, and one more section is released.
abbrev pub after_release : PlantLists → State → ℕ → Option State
after_release p s r = do
  route ← slice_get p.routes r
  now ← slice_get s.routes r
  x ← slice_get route.path now.rel
  then_some (same_mode now.mode Occupied
      && nat_le (now.rel + 2) now.seen
      && not (is_occupied s x)
      && has_lock_state s x UsedLock) (record s {
        routes = set s.routes r (record now { rel = now.rel + 1 });
        locks = set s.locks x FreeLock;
      })

-- The state after `finish r`. Enabled if route `r` is Occupied, its whole path is seen, and all of
-- it except the last section is released. The locks of that section, the overlap and the protecting
-- points become Free, both counts 0, and `r` Free.
abbrev pub after_finish : PlantLists → State → ℕ → Option State
after_finish p s r = do
  route ← slice_get p.routes r
  now ← slice_get s.routes r
  x ← last_of route.path
  then_some (same_mode now.mode Occupied
      && now.seen == length route.path
      && now.rel + 1 == length route.path) (record s {
        routes = set s.routes r (record { mode = Free; seen = 0; rel = 0 });
        locks = with_locks (set s.locks x FreeLock) (sections_outside_path route) FreeLock;
      })

-- The state after `cancel r`. Enabled if route `r` is Marked or Allocating. It becomes Free. If it
-- was Allocating, the locks of its path, overlap and protecting points also become Free.
abbrev pub after_cancel : PlantLists → State → ℕ → Option State
after_cancel p s r = do
  route ← slice_get p.routes r
  now ← slice_get s.routes r
  then_some (same_mode now.mode Marked || same_mode now.mode Allocating) (record s {
    routes = set s.routes r (record now { mode = Free });
    locks = (if same_mode now.mode Allocating then with_locks s.locks (sections_locked_for route) FreeLock else s.locks);
  })
