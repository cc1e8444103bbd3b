-- Throw, settle, enter, head, tail and leave enable no automatic event that `may_enable_automatic`
-- doesn't list.
use Rattle.std.proofs.Common.{◌≡◌, ℕ, true, false, ◌==◌, Option, Some, List, [], set, slice_get, inl, inr, refl, sym, ap, ◌∙◌}
use Rattle.std.specs.List.{list_any}
use Rattle.std.proofs.lemmas.Bool.{cases_eq, eqb-true}
use Rattle.ilk_base.specs.Option.{is_some_and}
use Rattle.ilk_base.proofs.Lists.{slice_get-set_other}
use Rattle.ilk_base.proofs.Tested.{list_any-at, list_any-none}
use Rattle.ilk_plant.specs.Network.{contains_section}
use Rattle.ilk_plant.specs.Plant.{IsPlant, PlantLists, board_of, point_number}
use Rattle.ilk_plant.specs.Shape.{HasShape}
use Rattle.ilk_plant.specs.State.{detected_position_in_state}
use Rattle.ilk_plant.specs.TableRules.{sections_locked_for}
use Rattle.ilk_plant.specs.declared.network.Position.{Position}
use Rattle.ilk_plant.specs.declared.network.Position.TheVariants.{Plus, Minus}
use Rattle.ilk_plant.specs.declared.state.Aspect.TheVariants.{Closed}
use Rattle.ilk_plant.specs.declared.state.Hold.TheVariants.{Free as FreeLock, Locked as LockedLock, Used as UsedLock}
use Rattle.ilk_plant.specs.declared.state.Lie.{Lie}
use Rattle.ilk_plant.specs.declared.state.Lie.TheVariants.{Moving}
use Rattle.ilk_plant.specs.declared.state.PointState.{PointState}
use Rattle.ilk_plant.specs.declared.state.State.{State}
use Rattle.ilk_plant.specs.declared.table.Listed.{Listed}
use Rattle.ilk_motion.proofs.Shape.{ahead-next_to}
use Rattle.ilk_routes.specs.Claims.{required_points}
use Rattle.ilk_routes.specs.Lies.{lie_from_position, is_point_detected_as_listed, is_lie_at_position}
use Rattle.ilk_model.proofs.PointFrames.{IsSettled, IsThrown}
use Rattle.ilk_model.proofs.TrainFrames.{IsEntered, IsHeaded, IsLeft, IsTailed}
use Rattle.ilk_model.specs.Event.{next}
use Rattle.ilk_model.specs.Holding.{is_locked_or_occupied}
use Rattle.ilk_model.specs.declared.event.Event.TheVariants.{Mark, Allocate, Lock, Sense, Release, Finish, Throw, Settle, Enter, Head, Tail, Leave, Cancel}
use Rattle.ilk_plant.proofs.PointNumbers.{number-once}
use Rattle.ilk_plant.proofs.InLists.{section-from}
use Rattle.ilk_strict.proofs.Points.{lie-other, lies-new}
use Rattle.ilk_strict.proofs.Table.{path-locked_for}
use Rattle.ilk_drive.specs.Awakening.{neighbours_of, numbered_route_has_element_on, is_board_on_section}
use Rattle.ilk_drive.proofs.Back.{allocate-back, allocating, finish-back, head-back, in_occupation, leave-back, lock-back, marked, release-back, sense-back, settle-back, tail-back, throw-back}
use Rattle.ilk_drive.proofs.Changes.{apart, clear-back, neither, states-stay, true-false}
use Rattle.ilk_drive.proofs.TrainChanges.{enter-alone, enter-heads, enter-leaves, enter-tails, enter-was, head-alone, head-heads, head-leaves, head-tails, head-was, leave-alone, leave-heads, leave-leaves, leave-tails, leave-was, next-neighbours_of, tail-alone, tail-heads, tail-leaves, tail-tails, tail-was}
use Rattle.ilk_drive.proofs.RouteKeeps.{Keeps}
use Rattle.ilk_drive.proofs.Staying.{asks-not, aspect-alike, aspect-stays, board-headed, conflicts-stay, head-stays, leads-back, leave-stays, lie-stays, lies-back, locks-kept, not-that, not-these, occupied-stays, passes-headed, passes-same, protecting-stays, settle-stays, stands-there, tail-stays, throw-stays, vacant-stays}

point-other : (p : PlantLists) (s t : State) (x n : ℕ) (new : PointState) → point_number p x ≡ Some n → t.points ≡ set s.points n new → (y : ℕ) → (y == x) ≡ false → (m : ℕ) → point_number p y ≡ Some m → slice_get t.points m ≡ slice_get s.points m
point-other p s t x n new number same y out m that =
    ap (λ (l : List PointState). slice_get l m) same ∙ slice_get-set_other s.points n m new (λ e. apart y x out (number-once p y x n (that ∙ ap Some (sym e)) number))

thrown-lies : (p : PlantLists) (s t : State) (x : ℕ) → (it : IsThrown p s t x) → (listed : Listed) → is_point_detected_as_listed p t listed ≡ true → is_point_detected_as_listed p s listed ≡ true
thrown-lies p s t x it listed h = elim (cases_eq listed.point x) [
  | inl here ↦
      (let moves : detected_position_in_state p t listed.point ≡ Some Moving = ap (detected_position_in_state p t) here ∙ lies-new p s t x it.n it.point (record it.point { at = Moving }) it.number it.state it.points in
      let bad : is_lie_at_position Moving listed.at ≡ true = sym (ap (λ (o : Option Lie). is_some_and o (λ lie. is_lie_at_position lie listed.at)) moves) ∙ h in
      no-move listed.at bad)
  | inr other ↦ lies-back p s t listed (lie-other p s t x it.n it.point (record it.point { at = Moving }) it.number it.state it.points listed.point other) h
]
  where
    no-move : {P : Type 0} (at : Position) → is_lie_at_position Moving at ≡ true → P
    no-move Plus h = cc
    no-move Minus h = cc

pub throw-keeps : (p : PlantLists) → IsPlant p → (s t : State) → HasShape p s → (x : ℕ) → IsThrown p s t x → Keeps p s t (Throw x)
throw-keeps p plant s t shape x it (Mark q) own out h = cc
throw-keeps p plant s t shape x it (Allocate q) own out h = allocate-back p s t q
    (states-stay s t it.routes q marked) (λ route known k c at free. conflicts-stay s t it.routes c free)
    (λ route known k w at. clear-back s t w (locks-kept s t it.locks w FreeLock)
    (vacant-stays s t it.trains w)) h
throw-keeps p plant s t shape x it (Lock q) own out h = lock-back p s t q
    (states-stay s t it.routes q allocating) (λ route known k listed at. thrown-lies p s t x it listed)
    (λ route known k m at. aspect-stays s t it.boards m Closed)
    (λ route known. protecting-stays p s t it.routes route.source) h
throw-keeps p plant s t shape x it (Sense q) own out h = sense-back p s t q
    (states-stay s t it.routes q is_locked_or_occupied)
    (λ route now w known at next occupied locked.
    (occupied-stays s t it.trains w occupied, locks-kept s t it.locks w LockedLock locked)) h
throw-keeps p plant s t shape x it (Release q) own out h = release-back p s t q (states-stay s t it.routes q in_occupation) (λ route now w known at first vacant used. (vacant-stays s t it.trains w vacant, locks-kept s t it.locks w UsedLock used)) h
throw-keeps p plant s t shape x it (Finish q) own out h = finish-back p s t q (states-stay s t it.routes q in_occupation) h
throw-keeps p plant s t shape x it (Throw z) own out h = throw-back p s t z (point-other p s t x it.n (record it.point { at = Moving }) it.number it.points z out) h
throw-keeps p plant s t shape x it (Settle z) own out h = settle-back p s t z (λ n point number at moves. (point, sym (point-other p s t x it.n (record it.point { at = Moving }) it.number it.points z out n number) ∙ at, moves)) h
throw-keeps p plant s t shape x it (Enter z) own out h = cc
throw-keeps p plant s t shape x it (Head z) own out h = head-stays p s t z it.trains
    (lie-other p s t x it.n it.point (record it.point { at = Moving }) it.number it.state it.points z
    (apart z x out))
    (λ d. passes-same s t it.boards (board_of p z d)) h
throw-keeps p plant s t shape x it (Tail z) own out h = tail-stays p s t z it.trains h
throw-keeps p plant s t shape x it (Leave z) own out h = leave-stays p s t z it.trains h
throw-keeps p plant s t shape x it (Cancel q) own out h = cc

pub settle-keeps : (p : PlantLists) → IsPlant p → (s t : State) → HasShape p s → (x : ℕ) → IsSettled p s t x → Keeps p s t (Settle x)
settle-keeps p plant s t shape x it (Mark q) own out h = cc
settle-keeps p plant s t shape x it (Allocate q) own out h = allocate-back p s t q
    (states-stay s t it.routes q marked) (λ route known k c at free. conflicts-stay s t it.routes c free)
    (λ route known k w at. clear-back s t w (locks-kept s t it.locks w FreeLock)
    (vacant-stays s t it.trains w)) h
settle-keeps p plant s t shape x it (Lock q) own out h = lock-back p s t q
    (states-stay s t it.routes q allocating)
    (λ route known k listed at. lies-back p s t listed
    (lie-other p s t x it.n it.point (record it.point { at = lie_from_position it.point.to }) it.number it.state
    it.points listed.point
    (apart listed.point x
    (list_any-none (λ one. one.point == x) (required_points route) k listed
    (asks-not p x q route known out).point at))))
    (λ route known k m at. aspect-stays s t it.boards m Closed)
    (λ route known. protecting-stays p s t it.routes route.source) h
settle-keeps p plant s t shape x it (Sense q) own out h = sense-back p s t q
    (states-stay s t it.routes q is_locked_or_occupied)
    (λ route now w known at next occupied locked.
    (occupied-stays s t it.trains w occupied, locks-kept s t it.locks w LockedLock locked)) h
settle-keeps p plant s t shape x it (Release q) own out h = release-back p s t q (states-stay s t it.routes q in_occupation) (λ route now w known at first vacant used. (vacant-stays s t it.trains w vacant, locks-kept s t it.locks w UsedLock used)) h
settle-keeps p plant s t shape x it (Finish q) own out h = finish-back p s t q (states-stay s t it.routes q in_occupation) h
settle-keeps p plant s t shape x it (Throw z) own out h = throw-back p s t z (point-other p s t x it.n (record it.point { at = lie_from_position it.point.to }) it.number it.points z out) h
settle-keeps p plant s t shape x it (Settle z) own out h = settle-back p s t z (λ n point number at moves.
    (point, sym (point-other p s t x it.n (record it.point { at = lie_from_position it.point.to }) it.number it.points z out n number) ∙ at, moves)) h
settle-keeps p plant s t shape x it (Enter z) own out h = cc
settle-keeps p plant s t shape x it (Head z) own out h = head-stays p s t z it.trains
    (lie-other p s t x it.n it.point (record it.point { at = lie_from_position it.point.to }) it.number it.state
    it.points z (apart z x out))
    (λ d. passes-same s t it.boards (board_of p z d)) h
settle-keeps p plant s t shape x it (Tail z) own out h = tail-stays p s t z it.trains h
settle-keeps p plant s t shape x it (Leave z) own out h = leave-stays p s t z it.trains h
settle-keeps p plant s t shape x it (Cancel q) own out h = cc

pub enter-keeps : (p : PlantLists) → IsPlant p → (s t : State) → HasShape p s → (x : ℕ) → IsEntered p s t x → Keeps p s t (Enter x)
enter-keeps p plant s t shape x it (Mark q) own out h = cc
enter-keeps p plant s t shape x it (Allocate q) own out h = allocate-back p s t q
    (states-stay s t it.routes q marked) (λ route known k c at free. conflicts-stay s t it.routes c free)
    (λ route known k w at. clear-back s t w (locks-kept s t it.locks w FreeLock) (enter-leaves p s t x it w))
    h
enter-keeps p plant s t shape x it (Lock q) own out h = lock-back p s t q
    (states-stay s t it.routes q allocating)
    (λ route known k listed at. lies-back p s t listed (lie-stays p s t it.points listed.point))
    (λ route known k m at. aspect-stays s t it.boards m Closed)
    (λ route known. protecting-stays p s t it.routes route.source) h
enter-keeps p plant s t shape x it (Sense q) own out h = sense-back p s t q
    (states-stay s t it.routes q is_locked_or_occupied)
    (λ route now w known at next occupied locked. (
      enter-was p s t x it w
          (not-that (sections_locked_for route) w x (path-locked_for route now.seen w next)
          (asks-not p x q route known out).section) occupied,
      locks-kept s t it.locks w LockedLock locked,
    )) h
enter-keeps p plant s t shape x it (Release q) own out h = release-back p s t q (states-stay s t it.routes q in_occupation) (λ route now w known at first vacant used. (enter-leaves p s t x it w vacant, locks-kept s t it.locks w UsedLock used)) h
enter-keeps p plant s t shape x it (Finish q) own out h = finish-back p s t q (states-stay s t it.routes q in_occupation) h
enter-keeps p plant s t shape x it (Throw z) own out h = throw-stays p s t z it.points h
enter-keeps p plant s t shape x it (Settle z) own out h = settle-stays p s t z it.points h
enter-keeps p plant s t shape x it (Enter z) own out h = cc
enter-keeps p plant s t shape x it (Head z) own out h = head-back p s t z (enter-heads p s t x it z out) (leads-back p s t z (lie-stays p s t it.points z)) (λ d. passes-same s t it.boards (board_of p z d)) h
enter-keeps p plant s t shape x it (Tail z) own out h = tail-back p s t z (enter-tails p s t x it z) h
enter-keeps p plant s t shape x it (Leave z) own out h = leave-back p s t z (enter-alone p s t x it z out) h
enter-keeps p plant s t shape x it (Cancel q) own out h = cc

pub headed-neighbours_of : (p : PlantLists) (s t : State) (x : ℕ) → (it : IsHeaded p s t x) → contains_section it.y (neighbours_of p x) ≡ true
headed-neighbours_of p s t x it = next-neighbours_of p x it.y it.train.dir (ahead-next_to p s x it.y it.train.dir it.leads)

headed-unasked : (p : PlantLists) (s t : State) (x q : ℕ) → (it : IsHeaded p s t x) → list_any (λ y. numbered_route_has_element_on p y q) (neighbours_of p x) ≡ false → numbered_route_has_element_on p it.y q ≡ false
headed-unasked p s t x q it out =
    let found = list_any-at (λ y. y == it.y) (neighbours_of p x) (headed-neighbours_of p s t x it) in
    ap (λ (y : ℕ). numbered_route_has_element_on p y q) (sym (eqb-true found.1 it.y found.3)) ∙ list_any-none (λ y. numbered_route_has_element_on p y q) (neighbours_of p x) found.0 found.1 out found.2

headed-board : (p : PlantLists) → IsPlant p → (s t : State) (x : ℕ) → (it : IsHeaded p s t x) → (m : ℕ) → is_board_on_section p x m ≡ false → slice_get t.boards m ≡ slice_get s.boards m
headed-board p plant s t x it m off =
    board-headed s t (board_of p x it.train.dir) it.boards m (λ e. true-false (is_board_on_section p x m) (stands-there p plant x m it.train.dir e) off)

pub head-keeps : (p : PlantLists) → IsPlant p → (s t : State) → HasShape p s → (x : ℕ) → IsHeaded p s t x → Keeps p s t (Head x)
head-keeps p plant s t shape x it (Mark q) own out h = cc
head-keeps p plant s t shape x it (Allocate q) own out h = allocate-back p s t q
    (states-stay s t it.routes q marked) (λ route known k c at free. conflicts-stay s t it.routes c free)
    (λ route known k w at. clear-back s t w (locks-kept s t it.locks w FreeLock) (head-leaves p s t x it w)) h
head-keeps p plant s t shape x it (Lock q) own out h = lock-back p s t q
    (states-stay s t it.routes q allocating)
    (λ route known k listed at. lies-back p s t listed (lie-stays p s t it.points listed.point))
    (λ route known k m at. aspect-alike s t m Closed
    (headed-board p plant s t x it m
    (list_any-none (is_board_on_section p x) route.protecting_boards k m
    (asks-not p x q route known out).board at)))
    (λ route known. protecting-stays p s t it.routes route.source) h
head-keeps p plant s t shape x it (Sense q) own out h = sense-back p s t q
    (states-stay s t it.routes q is_locked_or_occupied)
    (λ route now w known at next occupied locked. (
      head-was p s t x it w
          (not-that (sections_locked_for route) w it.y (path-locked_for route now.seen w next)
          (asks-not p it.y q route known (headed-unasked p s t x q it out)).section) occupied,
      locks-kept s t it.locks w LockedLock locked,
    )) h
head-keeps p plant s t shape x it (Release q) own out h = release-back p s t q (states-stay s t it.routes q in_occupation) (λ route now w known at first vacant used. (head-leaves p s t x it w vacant, locks-kept s t it.locks w UsedLock used)) h
head-keeps p plant s t shape x it (Finish q) own out h = finish-back p s t q (states-stay s t it.routes q in_occupation) h
head-keeps p plant s t shape x it (Throw z) own out h = throw-stays p s t z it.points h
head-keeps p plant s t shape x it (Settle z) own out h = settle-stays p s t z it.points h
head-keeps p plant s t shape x it (Enter z) own out h = cc
head-keeps p plant s t shape x it (Head z) own out h = head-back p s t z
    (head-heads p s t x it z (neither (z == x) (contains_section z (neighbours_of p x)) out).0
    (not-these (neighbours_of p x) z it.y (neither (z == x) (contains_section z (neighbours_of p x)) out).1
    (headed-neighbours_of p s t x it)))
    (leads-back p s t z (lie-stays p s t it.points z))
    (λ d. passes-headed s t (board_of p x it.train.dir) it.boards (board_of p z d)) h
head-keeps p plant s t shape x it (Tail z) own out h = tail-back p s t z (head-tails p s t x it z out) h
head-keeps p plant s t shape x it (Leave z) own out h = leave-back p s t z (head-alone p s t x it z out) h
head-keeps p plant s t shape x it (Cancel q) own out h = cc

pub tail-keeps : (p : PlantLists) → IsPlant p → (s t : State) → HasShape p s → (x : ℕ) → IsTailed p s t x → Keeps p s t (Tail x)
tail-keeps p plant s t shape x it (Mark q) own out h = cc
tail-keeps p plant s t shape x it (Allocate q) own out h = allocate-back p s t q
    (states-stay s t it.routes q marked) (λ route known k c at free. conflicts-stay s t it.routes c free)
    (λ route known k w at. clear-back s t w (locks-kept s t it.locks w FreeLock)
    (tail-leaves p s t x it w
    (not-that (sections_locked_for route) w x (section-from (sections_locked_for route) k w at)
    (asks-not p x q route known out).section))) h
tail-keeps p plant s t shape x it (Lock q) own out h = lock-back p s t q
    (states-stay s t it.routes q allocating)
    (λ route known k listed at. lies-back p s t listed (lie-stays p s t it.points listed.point))
    (λ route known k m at. aspect-stays s t it.boards m Closed)
    (λ route known. protecting-stays p s t it.routes route.source) h
tail-keeps p plant s t shape x it (Sense q) own out h = sense-back p s t q
    (states-stay s t it.routes q is_locked_or_occupied)
    (λ route now w known at next occupied locked.
    (tail-was p s t x it w occupied, locks-kept s t it.locks w LockedLock locked)) h
tail-keeps p plant s t shape x it (Release q) own out h = release-back p s t q
    (states-stay s t it.routes q in_occupation)
    (λ route now w known at first vacant used. (
      tail-leaves p s t x it w
          (not-that (sections_locked_for route) w x (path-locked_for route now.rel w first)
          (asks-not p x q route known out).section) vacant,
      locks-kept s t it.locks w UsedLock used,
    )) h
tail-keeps p plant s t shape x it (Finish q) own out h = finish-back p s t q (states-stay s t it.routes q in_occupation) h
tail-keeps p plant s t shape x it (Throw z) own out h = throw-stays p s t z it.points h
tail-keeps p plant s t shape x it (Settle z) own out h = settle-stays p s t z it.points h
tail-keeps p plant s t shape x it (Enter z) own out h = cc
tail-keeps p plant s t shape x it (Head z) own out h = head-back p s t z (tail-heads p s t shape x it z) (leads-back p s t z (lie-stays p s t it.points z)) (λ d. passes-same s t it.boards (board_of p z d)) h
tail-keeps p plant s t shape x it (Tail z) own out h = tail-back p s t z (tail-tails p s t shape x it z (neither (z == x) (contains_section z (neighbours_of p x)) out).0 (neither (z == x) (contains_section z (neighbours_of p x)) out).1) h
tail-keeps p plant s t shape x it (Leave z) own out h = leave-back p s t z (tail-alone p s t shape x it z out) h
tail-keeps p plant s t shape x it (Cancel q) own out h = cc

pub leave-keeps : (p : PlantLists) → IsPlant p → (s t : State) → HasShape p s → (x : ℕ) → IsLeft p s t x → Keeps p s t (Leave x)
leave-keeps p plant s t shape x it (Mark q) own out h = cc
leave-keeps p plant s t shape x it (Allocate q) own out h = allocate-back p s t q
    (states-stay s t it.routes q marked) (λ route known k c at free. conflicts-stay s t it.routes c free)
    (λ route known k w at. clear-back s t w (locks-kept s t it.locks w FreeLock)
    (leave-leaves p s t x it w
    (not-that (sections_locked_for route) w x (section-from (sections_locked_for route) k w at)
    (asks-not p x q route known out).section))) h
leave-keeps p plant s t shape x it (Lock q) own out h = lock-back p s t q
    (states-stay s t it.routes q allocating)
    (λ route known k listed at. lies-back p s t listed (lie-stays p s t it.points listed.point))
    (λ route known k m at. aspect-stays s t it.boards m Closed)
    (λ route known. protecting-stays p s t it.routes route.source) h
leave-keeps p plant s t shape x it (Sense q) own out h = sense-back p s t q
    (states-stay s t it.routes q is_locked_or_occupied)
    (λ route now w known at next occupied locked.
    (leave-was p s t x it w occupied, locks-kept s t it.locks w LockedLock locked)) h
leave-keeps p plant s t shape x it (Release q) own out h = release-back p s t q
    (states-stay s t it.routes q in_occupation)
    (λ route now w known at first vacant used. (
      leave-leaves p s t x it w
          (not-that (sections_locked_for route) w x (path-locked_for route now.rel w first)
          (asks-not p x q route known out).section) vacant,
      locks-kept s t it.locks w UsedLock used,
    )) h
leave-keeps p plant s t shape x it (Finish q) own out h = finish-back p s t q (states-stay s t it.routes q in_occupation) h
leave-keeps p plant s t shape x it (Throw z) own out h = throw-stays p s t z it.points h
leave-keeps p plant s t shape x it (Settle z) own out h = settle-stays p s t z it.points h
leave-keeps p plant s t shape x it (Enter z) own out h = cc
leave-keeps p plant s t shape x it (Head z) own out h = head-back p s t z (leave-heads p s t x it z out) (leads-back p s t z (lie-stays p s t it.points z)) (λ d. passes-same s t it.boards (board_of p z d)) h
leave-keeps p plant s t shape x it (Tail z) own out h = tail-back p s t z (leave-tails p s t x it z) h
leave-keeps p plant s t shape x it (Leave z) own out h = leave-back p s t z (leave-alone p s t x it z out) h
leave-keeps p plant s t shape x it (Cancel q) own out h = cc
