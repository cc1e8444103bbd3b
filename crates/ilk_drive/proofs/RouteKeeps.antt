-- Mark, allocate, lock and sense enable no automatic event that `may_enable_automatic` doesn't
-- list.
use Rattle.std.proofs.Common.{◌≡◌, ℕ, ◌+◌, Bool, true, false, not, ◌||◌, ◌==◌, Option, Some, None, List, [], ◌∷◌, slice_get, is_some, option_map, unwrap_or, inl, inr, refl, sym, ap, ◌∙◌}
use Rattle.std.specs.Option.{option_or}
use Rattle.std.specs.List.{list_any}
use Rattle.std.proofs.lemmas.Bool.{and_parts, cases_Bool, eqb-true, false_from_ne_true}
use Rattle.ilk_base.specs.Option.{then_some}
use Rattle.ilk_base.proofs.Numbered.{slice_get-map_numbered}
use Rattle.ilk_base.proofs.Options.{mapped-Some}
use Rattle.ilk_base.proofs.Tested.{list_all-slice_get, list_any-at, list_any-none}
use Rattle.ilk_base.proofs.Truth.{fails}
use Rattle.ilk_plant.specs.Network.{contains_section}
use Rattle.ilk_plant.specs.Plant.{IsPlant, PlantLists, board_of, point_number}
use Rattle.ilk_plant.specs.Shape.{HasShape}
use Rattle.ilk_plant.specs.State.{has_lock_state, is_unlocked_and_vacant, is_occupied}
use Rattle.ilk_plant.specs.TableRules.{sections_locked_for}
use Rattle.ilk_plant.specs.declared.network.Position.{Position}
use Rattle.ilk_plant.specs.declared.state.Aspect.TheVariants.{Closed}
use Rattle.ilk_plant.specs.declared.state.Hold.TheVariants.{Free as FreeLock, Locked as LockedLock, Used as UsedLock}
use Rattle.ilk_plant.specs.declared.state.Mode.{Mode}
use Rattle.ilk_plant.specs.declared.state.Mode.TheVariants.{Marked, Allocating, Locked, Occupied}
use Rattle.ilk_plant.specs.declared.state.PointState.{PointState}
use Rattle.ilk_plant.specs.declared.state.RouteState.{RouteState}
use Rattle.ilk_plant.specs.declared.state.State.{State}
use Rattle.ilk_plant.specs.declared.table.Listed.{Listed}
use Rattle.ilk_plant.specs.declared.table.Route.{Route}
use Rattle.ilk_routes.specs.Boards.{is_protecting_locked_route, is_protecting_board}
use Rattle.ilk_routes.specs.Claims.{required_points}
use Rattle.ilk_routes.specs.Lies.{is_lie_moving, listed_position, is_entry_for_point, with_commands}
use Rattle.ilk_routes.specs.Modes.{same_mode}
use Rattle.ilk_model.proofs.RouteFrames.{ChangesRoute, IsAllocated, IsLocked, IsMarked, IsSensed}
use Rattle.ilk_model.specs.Event.{next}
use Rattle.ilk_model.specs.Holding.{is_locked_or_occupied}
use Rattle.ilk_model.specs.declared.event.Event.{Event}
use Rattle.ilk_model.specs.declared.event.Event.TheVariants.{Mark, Allocate, Lock, Sense, Release, Finish, Throw, Settle, Enter, Head, Tail, Leave, Cancel}
use Rattle.ilk_strict.proofs.Points.{lie-kept, lists-named}
use Rattle.ilk_drive.specs.Awakening.{is_source_board_on_section, may_enable_automatic, is_board_on_section, requires_point}
use Rattle.ilk_drive.specs.Commands.{is_command}
use Rattle.ilk_drive.proofs.Back.{allocate-back, allocating, finish-back, in_occupation, lock-back, marked, release-back, sense-back, settle-back, throw-back}
use Rattle.ilk_drive.proofs.Changes.{apart, claims-back, claims-other, clear-back, lock-back as other-lock-back, lock-same, locks-set, locks-with, neither, states-back, states-other, true-false}
use Rattle.ilk_drive.proofs.Staying.{are-apart, aspect-alike, aspect-opened, aspect-stays, board-sensed, head-stays, leave-stays, lie-stays, lies-back, locks-kept, mode-alike, occupied-stays, passes-opened, passes-same, passes-sensed, protecting-back, protecting-keeps, settle-stays, stays-other, tail-stays, throw-stays, vacant-stays}

abbrev pub Keeps : PlantLists → State → State → Event → Type 0
Keeps p s t event = (other : Event) → is_command other ≡ false → may_enable_automatic p event other ≡ false → is_some (next p t other) ≡ true → is_some (next p s other) ≡ true

pub mark-keeps : (p : PlantLists) → IsPlant p → (s t : State) → HasShape p s → (r : ℕ) → IsMarked p s t r → Keeps p s t (Mark r)
mark-keeps p plant s t shape r it (Mark q) own out h = cc
mark-keeps p plant s t shape r it (Allocate q) own out h = allocate-back p s t q
    (states-other p s t r it.route it.now (record it.now { mode = Marked }) it.changes q marked out)
    (λ route known k c at free. claims-back p s t r it.route it.now (record it.now { mode = Marked })
    it.changes (inl (ap (λ (m : Mode). same_mode m Allocating || same_mode m Locked) it.was)) c free)
    (λ route known k x at. clear-back s t x (locks-kept s t it.locks x FreeLock)
    (vacant-stays s t it.trains x)) h
mark-keeps p plant s t shape r it (Lock q) own out h = lock-back p s t q
    (states-back p s t r it.route it.now (record it.now { mode = Marked }) it.changes q allocating (refl))
    (λ route known k listed at. lies-back p s t listed (lie-stays p s t it.points listed.point))
    (λ route known k m at. aspect-stays s t it.boards m Closed)
    (λ route known. protecting-keeps p s t r it.route it.now (record it.now { mode = Marked }) it.changes
    (inl (ap (λ (m : Mode). same_mode m Locked) it.was)) route.source) h
mark-keeps p plant s t shape r it (Sense q) own out h = sense-back p s t q
    (states-back p s t r it.route it.now (record it.now { mode = Marked }) it.changes q is_locked_or_occupied
    (refl))
    (λ route now x known at next occupied locked.
    (occupied-stays s t it.trains x occupied, locks-kept s t it.locks x LockedLock locked)) h
mark-keeps p plant s t shape r it (Release q) own out h = release-back p s t q
    (states-back p s t r it.route it.now (record it.now { mode = Marked }) it.changes q in_occupation (refl))
    (λ route now x known at first vacant used.
    (vacant-stays s t it.trains x vacant, locks-kept s t it.locks x UsedLock used)) h
mark-keeps p plant s t shape r it (Finish q) own out h = finish-back p s t q (states-back p s t r it.route it.now (record it.now { mode = Marked }) it.changes q in_occupation (refl)) h
mark-keeps p plant s t shape r it (Throw x) own out h = throw-stays p s t x it.points h
mark-keeps p plant s t shape r it (Settle x) own out h = settle-stays p s t x it.points h
mark-keeps p plant s t shape r it (Enter x) own out h = cc
mark-keeps p plant s t shape r it (Head x) own out h = head-stays p s t x it.trains (lie-stays p s t it.points x) (λ d. passes-same s t it.boards (board_of p x d)) h
mark-keeps p plant s t shape r it (Tail x) own out h = tail-stays p s t x it.trains h
mark-keeps p plant s t shape r it (Leave x) own out h = leave-stays p s t x it.trains h
mark-keeps p plant s t shape r it (Cancel q) own out h = cc

allocated-vacant : (p : PlantLists) (s t : State) (r : ℕ) → (it : IsAllocated p s t r) → (x : ℕ) → is_occupied s x ≡ true → contains_section x (sections_locked_for it.route) ≡ false
allocated-vacant p s t r it x occupied = false_from_ne_true (contains_section x (sections_locked_for it.route)) (λ h.
    let found = list_any-at (λ y. y == x) (sections_locked_for it.route) h in
    let clear : is_unlocked_and_vacant s found.1 ≡ true = list_all-slice_get (is_unlocked_and_vacant s) (sections_locked_for it.route) found.0 found.1 it.clear found.2 in
    let vacant : is_occupied s found.1 ≡ false = fails (is_occupied s found.1) (and_parts (has_lock_state s found.1 FreeLock) (not (is_occupied s found.1)) clear).1 in
    true-false (is_occupied s x) occupied (ap (is_occupied s) (sym (eqb-true found.1 x found.3)) ∙ vacant))

listed-none : (p : PlantLists) (x n : ℕ) → point_number p x ≡ Some n → (entries : List Listed) → list_any (λ listed. listed.point == x) entries ≡ false → listed_position p n entries ≡ None
listed-none p x n number [] out = refl
listed-none p x n number (listed ∷ rest) out =
    let parts = neither (listed.point == x) (list_any (λ one. one.point == x) rest) out in
    let unlisted : is_entry_for_point p n listed ≡ false = false_from_ne_true (is_entry_for_point p n listed) (λ h. apart listed.point x parts.0 (lists-named p listed x n number h)) in
    ap (λ (o : Option Position). option_or o (then_some (is_entry_for_point p n listed) listed.at)) (listed-none p x n number rest parts.1) ∙ ap (λ (b : Bool). option_or None (then_some b listed.at)) unlisted

point-uncommanded : (o : Option PointState) (to : Option Position) → to ≡ None → option_map (λ (point : PointState). record point { to = unwrap_or to point.to }) o ≡ o
point-uncommanded None to e = refl
point-uncommanded (Some point) to e = ap (λ (v : Option Position). Some (record point { to = unwrap_or v point.to })) e

points-after : (p : PlantLists) (s t : State) (entries : List Listed) →
    t.points ≡ with_commands p s.points entries → (n : ℕ) →
    slice_get t.points n
    ≡ option_map
    (λ (point : PointState). record point { to = unwrap_or (listed_position p n entries) point.to })
    (slice_get s.points n)
points-after p s t entries same n =
    ap (λ (l : List PointState). slice_get l n) same ∙ slice_get-map_numbered (λ k (point : PointState). record point { to = unwrap_or (listed_position p k entries) point.to }) s.points n

allocated-throw : (p : PlantLists) (s t : State) (r x : ℕ) → (it : IsAllocated p s t r) → requires_point p r x ≡ false → (n : ℕ) → point_number p x ≡ Some n → slice_get t.points n ≡ slice_get s.points n
allocated-throw p s t r x it out n number =
    let same : requires_point p r x ≡ list_any (λ listed. listed.point == x) (required_points it.route) = rw it.changes.known refl in
    points-after p s t (required_points it.route) it.points n ∙ point-uncommanded (slice_get s.points n) (listed_position p n (required_points it.route)) (listed-none p x n number (required_points it.route) (sym same ∙ out))

allocated-settle : (p : PlantLists) (s t : State) (r : ℕ) → (it : IsAllocated p s t r) →
    (n : ℕ) (point : PointState) → slice_get t.points n ≡ Some point → is_lie_moving point.at ≡ true →
    (was : PointState) × (slice_get s.points n ≡ Some was) × (is_lie_moving was.at ≡ true)
allocated-settle p s t r it n point at moves =
    let found = mapped-Some (λ (one : PointState). record one { to = unwrap_or (listed_position p n (required_points it.route)) one.to }) (slice_get s.points n) point (sym (points-after p s t (required_points it.route) it.points n) ∙ at) in
    (found.0, found.1, ap (λ (one : PointState). is_lie_moving one.at) found.2 ∙ moves)

pub allocate-keeps : (p : PlantLists) → IsPlant p → (s t : State) → HasShape p s → (r : ℕ) → IsAllocated p s t r → Keeps p s t (Allocate r)
allocate-keeps p plant s t shape r it (Mark q) own out h = cc
allocate-keeps p plant s t shape r it (Allocate q) own out h = allocate-back p s t q
    (states-back p s t r it.route it.now (record it.now { mode = Allocating }) it.changes q marked (refl))
    (λ route known k c at free. claims-back p s t r it.route it.now (record it.now { mode = Allocating })
    it.changes (inr refl) c free)
    (λ route known k x at. clear-back s t x
    (other-lock-back s t LockedLock (λ z. contains_section z (sections_locked_for it.route))
    (locks-with s t (sections_locked_for it.route) LockedLock it.locks) x FreeLock refl)
    (vacant-stays s t it.trains x)) h
allocate-keeps p plant s t shape r it (Lock q) own out h = lock-back p s t q
    (states-other p s t r it.route it.now (record it.now { mode = Allocating }) it.changes q allocating out)
    (λ route known k listed at. lies-back p s t listed
    (lie-kept p s t (required_points it.route) it.points listed.point))
    (λ route known k m at. aspect-stays s t it.boards m Closed)
    (λ route known. protecting-keeps p s t r it.route it.now (record it.now { mode = Allocating }) it.changes
    (inl (ap (λ (m : Mode). same_mode m Locked) it.was)) route.source) h
allocate-keeps p plant s t shape r it (Sense q) own out h = sense-back p s t q
    (states-back p s t r it.route it.now (record it.now { mode = Allocating }) it.changes q
    is_locked_or_occupied (refl))
    (λ route now x known at next occupied locked. (
      occupied-stays s t it.trains x occupied,
      lock-same s t LockedLock (λ z. contains_section z (sections_locked_for it.route))
          (locks-with s t (sections_locked_for it.route) LockedLock it.locks) x LockedLock
          (allocated-vacant p s t r it x (occupied-stays s t it.trains x occupied)) locked,
    )) h
allocate-keeps p plant s t shape r it (Release q) own out h = release-back p s t q
    (states-back p s t r it.route it.now (record it.now { mode = Allocating }) it.changes q in_occupation
    (refl))
    (λ route now x known at first vacant used. (
      vacant-stays s t it.trains x vacant,
      other-lock-back s t LockedLock (λ z. contains_section z (sections_locked_for it.route))
          (locks-with s t (sections_locked_for it.route) LockedLock it.locks) x UsedLock refl used,
    )) h
allocate-keeps p plant s t shape r it (Finish q) own out h = finish-back p s t q (states-back p s t r it.route it.now (record it.now { mode = Allocating }) it.changes q in_occupation (refl)) h
allocate-keeps p plant s t shape r it (Throw x) own out h = throw-back p s t x (allocated-throw p s t r x it out) h
allocate-keeps p plant s t shape r it (Settle x) own out h = settle-back p s t x (λ n point number. allocated-settle p s t r it n point) h
allocate-keeps p plant s t shape r it (Enter x) own out h = cc
allocate-keeps p plant s t shape r it (Head x) own out h = head-stays p s t x it.trains (lie-kept p s t (required_points it.route) it.points x) (λ d. passes-same s t it.boards (board_of p x d)) h
allocate-keeps p plant s t shape r it (Tail x) own out h = tail-stays p s t x it.trains h
allocate-keeps p plant s t shape r it (Leave x) own out h = leave-stays p s t x it.trains h
allocate-keeps p plant s t shape r it (Cancel q) own out h = cc

begins-not : (p : PlantLists) (r x : ℕ) (route : Route) → slice_get p.routes r ≡ Some route → is_source_board_on_section p r x ≡ false → is_board_on_section p x route.source ≡ false
begins-not p r x route known out =
    let same : is_source_board_on_section p r x ≡ is_board_on_section p x route.source = rw known refl in
    sym same ∙ out

pub lock-keeps : (p : PlantLists) → IsPlant p → (s t : State) → HasShape p s → (r : ℕ) → IsLocked p s t r → Keeps p s t (Lock r)
lock-keeps p plant s t shape r it (Mark q) own out h = cc
lock-keeps p plant s t shape r it (Allocate q) own out h = allocate-back p s t q
    (states-back p s t r it.route it.now (record it.now { mode = Locked }) it.changes q marked (refl))
    (λ route known k c at free. claims-back p s t r it.route it.now (record it.now { mode = Locked })
    it.changes (inr refl) c free)
    (λ route known k x at. clear-back s t x (locks-kept s t it.locks x FreeLock)
    (vacant-stays s t it.trains x)) h
lock-keeps p plant s t shape r it (Lock q) own out h = lock-back p s t q
    (states-back p s t r it.route it.now (record it.now { mode = Locked }) it.changes q allocating (refl))
    (λ route known k listed at. lies-back p s t listed (lie-stays p s t it.points listed.point))
    (λ route known k m at. aspect-opened s t it.route.source it.boards m)
    (λ route known. protecting-keeps p s t r it.route it.now (record it.now { mode = Locked }) it.changes
    (inr refl) route.source) h
lock-keeps p plant s t shape r it (Sense q) own out h = sense-back p s t q
    (states-other p s t r it.route it.now (record it.now { mode = Locked }) it.changes q
    is_locked_or_occupied out)
    (λ route now x known at next occupied locked.
    (occupied-stays s t it.trains x occupied, locks-kept s t it.locks x LockedLock locked)) h
lock-keeps p plant s t shape r it (Release q) own out h = release-back p s t q
    (states-back p s t r it.route it.now (record it.now { mode = Locked }) it.changes q in_occupation (refl))
    (λ route now x known at first vacant used.
    (vacant-stays s t it.trains x vacant, locks-kept s t it.locks x UsedLock used)) h
lock-keeps p plant s t shape r it (Finish q) own out h = finish-back p s t q (states-back p s t r it.route it.now (record it.now { mode = Locked }) it.changes q in_occupation (refl)) h
lock-keeps p plant s t shape r it (Throw x) own out h = throw-stays p s t x it.points h
lock-keeps p plant s t shape r it (Settle x) own out h = settle-stays p s t x it.points h
lock-keeps p plant s t shape r it (Enter x) own out h = cc
lock-keeps p plant s t shape r it (Head x) own out h = head-stays p s t x it.trains (lie-stays p s t it.points x) (λ d. passes-opened p plant s t it.route.source x d it.boards (begins-not p r x it.route it.changes.known out)) h
lock-keeps p plant s t shape r it (Tail x) own out h = tail-stays p s t x it.trains h
lock-keeps p plant s t shape r it (Leave x) own out h = leave-stays p s t x it.trains h
lock-keeps p plant s t shape r it (Cancel q) own out h = cc

protecting-apart : (p : PlantLists) (s t : State) (r : ℕ) (route : Route) (now new : RouteState) →
    (changes : ChangesRoute p s t r route now new) → (m : ℕ) →
    list_any (λ k. k == m) route.protecting_boards ≡ false → is_protecting_locked_route p t m ≡ false →
    is_protecting_locked_route p s m ≡ false
protecting-apart p s t r route now new changes m out = protecting-back p s t m (λ k locked protects. elim (cases_Bool (k == r)) [
  | inl here ↦
      (let same : is_protecting_board p r m ≡ list_any (λ j. j == m) route.protecting_boards = rw changes.known refl in
      true-false (is_protecting_board p r m) (ap (λ (i : ℕ). is_protecting_board p i m) (sym (eqb-true k r here)) ∙ protects) (same ∙ out))
  | inr other ↦ mode-alike s t k Locked (stays-other p s t r route now new changes k other) locked
])

sensed-other : (p : PlantLists) (s t : State) (r : ℕ) → (it : IsSensed p s t r) → (x : ℕ) → is_occupied s x ≡ false → (x == it.x) ≡ false
sensed-other p s t r it x vacant = false_from_ne_true (x == it.x) (λ e. true-false (is_occupied s x) (ap (is_occupied s) (eqb-true x it.x e) ∙ it.occupied) vacant)

pub sense-keeps : (p : PlantLists) → IsPlant p → (s t : State) → HasShape p s → (r : ℕ) → IsSensed p s t r → Keeps p s t (Sense r)
sense-keeps p plant s t shape r it (Mark q) own out h = cc
sense-keeps p plant s t shape r it (Allocate q) own out h = allocate-back p s t q
    (states-back p s t r it.route it.now (record it.now { mode = Occupied; seen = it.now.seen + 1 })
    it.changes q marked (refl))
    (λ route known k c at free. claims-other p s t r it.route it.now
    (record it.now { mode = Occupied; seen = it.now.seen + 1 }) it.changes c
    (list_any-none (λ z. z == r) route.conflicts k c
    (are-apart p r q it.route route it.changes.known known out).conflict at) free)
    (λ route known k x at. clear-back s t x
    (other-lock-back s t UsedLock (λ z. z == it.x) (locks-set s t it.x UsedLock it.locks) x FreeLock
    refl)
    (vacant-stays s t it.trains x)) h
sense-keeps p plant s t shape r it (Lock q) own out h = lock-back p s t q
    (states-back p s t r it.route it.now (record it.now { mode = Occupied; seen = it.now.seen + 1 })
    it.changes q allocating (refl))
    (λ route known k listed at. lies-back p s t listed (lie-stays p s t it.points listed.point))
    (λ route known k m at. aspect-alike s t m Closed
    (board-sensed s t it.route.source (it.now.seen == 0) it.boards m
    (apart m it.route.source
    (list_any-none (λ z. z == it.route.source) route.protecting_boards k m
    (are-apart p r q it.route route it.changes.known known out).guarded at))))
    (λ route known. protecting-apart p s t r it.route it.now
    (record it.now { mode = Occupied; seen = it.now.seen + 1 }) it.changes route.source
    (are-apart p r q it.route route it.changes.known known out).guarding) h
sense-keeps p plant s t shape r it (Sense q) own out h = sense-back p s t q
    (states-other p s t r it.route it.now (record it.now { mode = Occupied; seen = it.now.seen + 1 })
    it.changes q is_locked_or_occupied out)
    (λ route now x known at next occupied locked. (
      occupied-stays s t it.trains x occupied,
      other-lock-back s t UsedLock (λ z. z == it.x) (locks-set s t it.x UsedLock it.locks) x
          LockedLock refl locked,
    )) h
sense-keeps p plant s t shape r it (Release q) own out h = release-back p s t q
    (states-other p s t r it.route it.now (record it.now { mode = Occupied; seen = it.now.seen + 1 })
    it.changes q in_occupation out)
    (λ route now x known at first vacant used. (
      vacant-stays s t it.trains x vacant,
      lock-same s t UsedLock (λ z. z == it.x) (locks-set s t it.x UsedLock it.locks) x UsedLock
          (sensed-other p s t r it x (vacant-stays s t it.trains x vacant)) used,
    )) h
sense-keeps p plant s t shape r it (Finish q) own out h = finish-back p s t q (states-other p s t r it.route it.now (record it.now { mode = Occupied; seen = it.now.seen + 1 }) it.changes q in_occupation out) h
sense-keeps p plant s t shape r it (Throw x) own out h = throw-stays p s t x it.points h
sense-keeps p plant s t shape r it (Settle x) own out h = settle-stays p s t x it.points h
sense-keeps p plant s t shape r it (Enter x) own out h = cc
sense-keeps p plant s t shape r it (Head x) own out h = head-stays p s t x it.trains (lie-stays p s t it.points x) (λ d. passes-sensed s t it.route.source (it.now.seen == 0) it.boards (board_of p x d)) h
sense-keeps p plant s t shape r it (Tail x) own out h = tail-stays p s t x it.trains h
sense-keeps p plant s t shape r it (Leave x) own out h = leave-stays p s t x it.trains h
sense-keeps p plant s t shape r it (Cancel q) own out h = cc
