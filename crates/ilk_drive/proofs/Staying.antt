-- Routes, points, boards, trains and locks that an event leaves unchanged.
use Rattle.std.proofs.Common.{◌≡◌, ℕ, ◌+◌, Bool, true, false, ◌&&◌, ◌||◌, ◌==◌, Option, Some, None, List, [], ◌∷◌, ◌++◌, length, set, slice_get, is_some, ◌⊎◌, inl, inr, refl, sym, ap, ◌∙◌}
use Rattle.std.specs.Prelude.{if◌then◌else◌}
use Rattle.std.specs.List.{list_any, range_with_len}
use Rattle.std.proofs.lemmas.Bool.{and_parts, cases_Bool, eq-eqb, eqb-true, false_from_ne_true}
use Rattle.std.specs.Cmp.Derive.{both_true}
use Rattle.ilk_base.specs.Option.{◌>>=◌, is_some_and}
use Rattle.ilk_base.proofs.Lists.{slice_get-set_other, slice_get_set}
use Rattle.ilk_base.proofs.Options.{some-and}
use Rattle.ilk_base.proofs.Tested.{list_any-none, none-pass}
use Rattle.ilk_plant.specs.Network.{contains_section}
use Rattle.ilk_plant.specs.Plant.{IsPlant, PlantLists, board_of, point_number}
use Rattle.ilk_plant.specs.State.{has_lock_state, is_occupied, detected_position_in_state}
use Rattle.ilk_plant.specs.TableRules.{protecting_points_of, sections_locked_for, path_and_overlap_of}
use Rattle.ilk_plant.specs.declared.network.Board.{Board}
use Rattle.ilk_plant.specs.declared.network.Dir.{Dir}
use Rattle.ilk_plant.specs.declared.state.Aspect.{Aspect}
use Rattle.ilk_plant.specs.declared.state.Aspect.TheVariants.{Open, Closed}
use Rattle.ilk_plant.specs.declared.state.Hold.{Hold}
use Rattle.ilk_plant.specs.declared.state.Hold.TheVariants.{Free as FreeLock}
use Rattle.ilk_plant.specs.declared.state.Lie.{Lie}
use Rattle.ilk_plant.specs.declared.state.Mode.{Mode}
use Rattle.ilk_plant.specs.declared.state.Mode.TheVariants.{Locked}
use Rattle.ilk_plant.specs.declared.state.PointState.{PointState}
use Rattle.ilk_plant.specs.declared.state.RouteState.{RouteState}
use Rattle.ilk_plant.specs.declared.state.State.{State}
use Rattle.ilk_plant.specs.declared.table.Listed.{Listed}
use Rattle.ilk_plant.specs.declared.table.Route.{Route}
use Rattle.ilk_motion.specs.Body.{has_head_at, has_movable_tail_at, occupies_only}
use Rattle.ilk_motion.specs.Ahead.{ahead, section_led_to}
use Rattle.ilk_motion.specs.Trains.{is_open, may_pass_board, with_board_closed}
use Rattle.ilk_routes.specs.Boards.{has_aspect, is_protecting_locked_route, is_protecting_board, same_aspect}
use Rattle.ilk_routes.specs.Claims.{sections_outside_path, required_points}
use Rattle.ilk_routes.specs.Lies.{is_point_detected_as_listed, is_lie_at_position}
use Rattle.ilk_routes.specs.Modes.{has_mode, is_allocating_or_locked, same_mode}
use Rattle.ilk_model.proofs.RouteFrames.{ChangesRoute}
use Rattle.ilk_model.specs.Event.{next}
use Rattle.ilk_model.specs.declared.event.Event.TheVariants.{Throw, Settle, Head, Tail, Leave}
use Rattle.ilk_plant.proofs.InLists.{section-at}
use Rattle.ilk_strict.proofs.After.{same-occupied}
use Rattle.ilk_drive.specs.Awakening.{route_has_element_on, route_affects_allocation_or_locking, numbered_route_has_element_on, source_is_protecting_board_of, route_may_affect_by_number, routes_lock_common_section, is_board_on_section}
use Rattle.ilk_drive.proofs.Back.{first_dir, head-back, leave-back, settle-back, tail-back, throw-back}
use Rattle.ilk_drive.proofs.Changes.{apart, claimed-alike, lock-same, locks-stay, neither, state-new, true-false}

pub record AreApart (r : ℕ) (route other : Route) : Type 0 where
  pub conflict : list_any (λ c. c == r) other.conflicts ≡ false
  pub sections : routes_lock_common_section route other ≡ false
  pub guarded : source_is_protecting_board_of route other ≡ false
  pub guarding : source_is_protecting_board_of other route ≡ false

pub are-apart : (p : PlantLists) (r q : ℕ) (route other : Route) → slice_get p.routes r ≡ Some route → slice_get p.routes q ≡ Some other → route_may_affect_by_number p r q ≡ false → AreApart r route other
are-apart p r q route other known that out =
    let same : route_may_affect_by_number p r q ≡ route_affects_allocation_or_locking r route other = rw (known, that) refl in
    let one = neither (list_any (λ c. c == r) other.conflicts) (routes_lock_common_section route other || (source_is_protecting_board_of route other || source_is_protecting_board_of other route)) (sym same ∙ out) in
    let two = neither (routes_lock_common_section route other) (source_is_protecting_board_of route other || source_is_protecting_board_of other route) one.1 in
    let three = neither (source_is_protecting_board_of route other) (source_is_protecting_board_of other route) two.1 in
    record { conflict = one.0; sections = two.0; guarded = three.0; guarding = three.1 }

pub not-shared : (a b : Route) → routes_lock_common_section a b ≡ false → (x : ℕ) → contains_section x (sections_locked_for b) ≡ true → contains_section x (sections_locked_for a) ≡ false
not-shared a b out x in_ = false_from_ne_true (contains_section x (sections_locked_for a)) (λ h.
    let found = section-at x (sections_locked_for a) h in
    true-false (contains_section x (sections_locked_for b)) in_ (list_any-none (λ y. contains_section y (sections_locked_for b)) (sections_locked_for a) found.0 x out found.1))

pub record AsksNot (p : PlantLists) (x : ℕ) (route : Route) : Type 0 where
  pub section : contains_section x (sections_locked_for route) ≡ false
  pub point : list_any (λ listed. listed.point == x) (required_points route) ≡ false
  pub board : list_any (is_board_on_section p x) route.protecting_boards ≡ false

pub asks-not : (p : PlantLists) (x q : ℕ) (route : Route) → slice_get p.routes q ≡ Some route → numbered_route_has_element_on p x q ≡ false → AsksNot p x route
asks-not p x q route known out =
    let same : numbered_route_has_element_on p x q ≡ route_has_element_on p x route = rw known refl in
    let one = neither (contains_section x (sections_locked_for route)) (list_any (λ listed. listed.point == x) (required_points route) || list_any (is_board_on_section p x) route.protecting_boards) (sym same ∙ out) in
    let two = neither (list_any (λ listed. listed.point == x) (required_points route)) (list_any (is_board_on_section p x) route.protecting_boards) one.1 in
    record { section = one.0; point = two.0; board = two.1 }

pub not-that : (xs : List ℕ) (x y : ℕ) → contains_section x xs ≡ true → contains_section y xs ≡ false → (x == y) ≡ false
not-that xs x y in_ out = false_from_ne_true (x == y) (λ e. true-false (contains_section y xs) (ap (λ (z : ℕ). contains_section z xs) (sym (eqb-true x y e)) ∙ in_) out)

pub lie-stays : (p : PlantLists) (s t : State) → t.points ≡ s.points → (x : ℕ) → detected_position_in_state p t x ≡ detected_position_in_state p s x
lie-stays p s t same x = ap (λ (points : List PointState). point_number p x >>= (λ n. slice_get points n >>= (λ point. Some point.at))) same

pub leads-back : (p : PlantLists) (s t : State) (x : ℕ) → detected_position_in_state p t x ≡ detected_position_in_state p s x → (d : Dir) (y : ℕ) → ahead p t x d ≡ Some y → is_some (ahead p s x d) ≡ true
leads-back p s t x same d y h =
    let alike : ahead p t x d ≡ ahead p s x d = ap (λ (lie : Option Lie). slice_get p.sections x >>= (λ section. section_led_to section d lie)) same in
    ap is_some (sym alike ∙ h)

pub lies-back : (p : PlantLists) (s t : State) (listed : Listed) → detected_position_in_state p t listed.point ≡ detected_position_in_state p s listed.point → is_point_detected_as_listed p t listed ≡ true → is_point_detected_as_listed p s listed
    ≡ true
lies-back p s t listed same h = ap (λ (o : Option Lie). is_some_and o (λ lie. is_lie_at_position lie listed.at)) (sym same) ∙ h

pub passes-same : (s t : State) → t.boards ≡ s.boards → (board : Option ℕ) → may_pass_board t board ≡ true → may_pass_board s board ≡ true
passes-same s t same None h = refl
passes-same s t same (Some m) h = ap (λ (l : List Aspect). is_some_and (slice_get l m) is_open) (sym same) ∙ h

passes-closed : (s t : State) (c : ℕ) → t.boards ≡ set s.boards c Closed → (board : Option ℕ) → may_pass_board t board ≡ true → may_pass_board s board ≡ true
passes-closed s t c same None h = refl
passes-closed s t c same (Some m) h =
    let found = some-and (slice_get t.boards m) is_open h in
    elim (slice_get_set s.boards c m Closed found.0 (sym (ap (λ (l : List Aspect). slice_get l m) same) ∙ found.1)) [
      | inl it ↦ (let bad : is_open Closed ≡ true = ap is_open it.1 ∙ found.2 in cc)
      | inr it ↦ ap (λ (o : Option Aspect). is_some_and o is_open) it ∙ found.2
    ]

board-other : (s t : State) (c : ℕ) (aspect : Aspect) → t.boards ≡ set s.boards c aspect → (m : ℕ) → (m ≡ c → ⊥) → slice_get t.boards m ≡ slice_get s.boards m
board-other s t c aspect same m out = ap (λ (l : List Aspect). slice_get l m) same ∙ slice_get-set_other s.boards c m aspect (λ e. out (sym e))

pub aspect-alike : (s t : State) (m : ℕ) (aspect : Aspect) → slice_get t.boards m ≡ slice_get s.boards m → has_aspect t m aspect ≡ true → has_aspect s m aspect ≡ true
aspect-alike s t m aspect same h = ap (λ (o : Option Aspect). is_some_and o (λ now. same_aspect now aspect)) (sym same) ∙ h

pub aspect-stays : (s t : State) → t.boards ≡ s.boards → (m : ℕ) (aspect : Aspect) → has_aspect t m aspect ≡ true → has_aspect s m aspect ≡ true
aspect-stays s t same m aspect = aspect-alike s t m aspect (ap (λ (l : List Aspect). slice_get l m) same)

pub aspect-opened : (s t : State) (c : ℕ) → t.boards ≡ set s.boards c Open → (m : ℕ) → has_aspect t m Closed ≡ true → has_aspect s m Closed ≡ true
aspect-opened s t c same m h =
    let found = some-and (slice_get t.boards m) (λ now. same_aspect now Closed) h in
    elim (slice_get_set s.boards c m Open found.0 (sym (ap (λ (l : List Aspect). slice_get l m) same) ∙ found.1)) [
      | inl it ↦ (let bad : same_aspect Open Closed ≡ true = ap (λ (a : Aspect). same_aspect a Closed) it.1 ∙ found.2 in cc)
      | inr it ↦ ap (λ (o : Option Aspect). is_some_and o (λ now. same_aspect now Closed)) it ∙ found.2
    ]

pub protecting-back : (p : PlantLists) (s t : State) (m : ℕ) → ((k : ℕ) → has_mode s k Locked ≡ true → is_protecting_board p k m ≡ true → has_mode t k Locked ≡ true) → is_protecting_locked_route p t m ≡ false →
    is_protecting_locked_route p s m ≡ false
protecting-back p s t m keeps free =
    none-pass (λ k. has_mode s k Locked && is_protecting_board p k m) (range_with_len 0 (length p.routes)) (λ i k at.
    false_from_ne_true (has_mode s k Locked && is_protecting_board p k m) (λ h.
    let parts = and_parts (has_mode s k Locked) (is_protecting_board p k m) h in
    true-false (has_mode t k Locked && is_protecting_board p k m) (both_true (keeps k parts.0 parts.1) parts.1)
    (list_any-none (λ j. has_mode t j Locked && is_protecting_board p j m) (range_with_len 0 (length p.routes)) i k free at)))

pub mode-alike : (s t : State) (k : ℕ) (mode : Mode) → slice_get t.routes k ≡ slice_get s.routes k → has_mode s k mode ≡ true → has_mode t k mode ≡ true
mode-alike s t k mode same h = ap (λ (o : Option RouteState). is_some_and o (λ now. same_mode now.mode mode)) same ∙ h

mode-is : (s : State) (k : ℕ) (now : RouteState) (mode : Mode) → slice_get s.routes k ≡ Some now → has_mode s k mode ≡ same_mode now.mode mode
mode-is s k now mode at = rw at refl

pub conflicts-stay : (s t : State) → t.routes ≡ s.routes → (c : ℕ) → is_allocating_or_locked t c ≡ false → is_allocating_or_locked s c ≡ false
conflicts-stay s t same c free = sym (claimed-alike s t c (ap (λ (l : List RouteState). slice_get l c) same)) ∙ free

pub protecting-stays : (p : PlantLists) (s t : State) → t.routes ≡ s.routes → (m : ℕ) → is_protecting_locked_route p t m ≡ false → is_protecting_locked_route p s m ≡ false
protecting-stays p s t same m = protecting-back p s t m (λ k locked protects. mode-alike s t k Locked (ap (λ (l : List RouteState). slice_get l k) same) locked)

pub vacant-stays : (s t : State) → t.trains ≡ s.trains → (x : ℕ) → is_occupied t x ≡ false → is_occupied s x ≡ false
vacant-stays s t same x h = sym (same-occupied s t same x) ∙ h

pub occupied-stays : (s t : State) → t.trains ≡ s.trains → (x : ℕ) → is_occupied t x ≡ true → is_occupied s x ≡ true
occupied-stays s t same x h = sym (same-occupied s t same x) ∙ h

pub throw-stays : (p : PlantLists) (s t : State) (x : ℕ) → t.points ≡ s.points → is_some (next p t (Throw x)) ≡ true → is_some (next p s (Throw x)) ≡ true
throw-stays p s t x same = throw-back p s t x (λ n number. ap (λ (l : List PointState). slice_get l n) same)

pub settle-stays : (p : PlantLists) (s t : State) (x : ℕ) → t.points ≡ s.points → is_some (next p t (Settle x)) ≡ true → is_some (next p s (Settle x)) ≡ true
settle-stays p s t x same = settle-back p s t x (λ n point number at moves. (point, sym (ap (λ (l : List PointState). slice_get l n) same) ∙ at, moves))

pub head-stays : (p : PlantLists) (s t : State) (x : ℕ) → t.trains ≡ s.trains → detected_position_in_state p t x ≡ detected_position_in_state p s x →
    ((d : Dir) → may_pass_board t (board_of p x d) ≡ true → may_pass_board s (board_of p x d) ≡ true) →
    is_some (next p t (Head x)) ≡ true → is_some (next p s (Head x)) ≡ true
head-stays p s t x same lies passes = head-back p s t x (ap (first_dir (has_head_at x)) same) (leads-back p s t x lies) passes

pub tail-stays : (p : PlantLists) (s t : State) (x : ℕ) → t.trains ≡ s.trains → is_some (next p t (Tail x)) ≡ true → is_some (next p s (Tail x)) ≡ true
tail-stays p s t x same = tail-back p s t x (ap (first_dir (has_movable_tail_at x)) same)

pub leave-stays : (p : PlantLists) (s t : State) (x : ℕ) → t.trains ≡ s.trains → is_some (next p t (Leave x)) ≡ true → is_some (next p s (Leave x)) ≡ true
leave-stays p s t x same = leave-back p s t x (ap (first_dir (occupies_only x)) same)

none-parts : (x : ℕ) (xs ys : List ℕ) → contains_section x (xs ++ ys) ≡ false → (contains_section x xs ≡ false) × (contains_section x ys ≡ false)
none-parts x [] ys h = (refl, h)
none-parts x (u ∷ xs) ys h =
    let first = neither (u == x) (contains_section x (xs ++ ys)) h in
    let rest = none-parts x xs ys first.1 in
    (both-none (u == x) (contains_section x xs) first.0 rest.0, rest.1)
  where
    both-none : (a b : Bool) → a ≡ false → b ≡ false → (a || b) ≡ false
    both-none a b e f = ap (λ (c : Bool). c || b) e ∙ f

none-either_list : (x : ℕ) (xs ys : List ℕ) → contains_section x xs ≡ false → contains_section x ys ≡ false → contains_section x (xs ++ ys) ≡ false
none-either_list x [] ys a b = b
none-either_list x (u ∷ xs) ys a b =
    let first = neither (u == x) (contains_section x xs) a in
    ap (λ (c : Bool). c || contains_section x (xs ++ ys)) first.0 ∙ none-either_list x xs ys first.1 b

pub beside-none : (x : ℕ) (route : Route) → contains_section x (sections_locked_for route) ≡ false → contains_section x (sections_outside_path route) ≡ false
beside-none x route out =
    let outer = none-parts x (path_and_overlap_of route) (protecting_points_of route) out in
    let inner = none-parts x route.path route.overlap outer.0 in
    none-either_list x route.overlap (protecting_points_of route) inner.1 outer.1

pub not-these : (xs : List ℕ) (x y : ℕ) → contains_section x xs ≡ false → contains_section y xs ≡ true → (x == y) ≡ false
not-these xs x y out in_ = false_from_ne_true (x == y) (λ e. true-false (contains_section y xs) in_ (ap (λ (z : ℕ). contains_section z xs) (sym (eqb-true x y e)) ∙ out))

pub board-sensed : (s t : State) (c : ℕ) (b : Bool) → t.boards ≡ (if b then set s.boards c Closed else s.boards) → (m : ℕ) → (m ≡ c → ⊥) → slice_get t.boards m ≡ slice_get s.boards m
board-sensed s t c true same m out = board-other s t c Closed same m out
board-sensed s t c false same m out = ap (λ (l : List Aspect). slice_get l m) same

pub passes-sensed : (s t : State) (c : ℕ) (b : Bool) → t.boards ≡ (if b then set s.boards c Closed else s.boards) → (board : Option ℕ) → may_pass_board t board ≡ true → may_pass_board s board ≡ true
passes-sensed s t c true same = passes-closed s t c same
passes-sensed s t c false same = passes-same s t same

pub board-headed : (s t : State) (board : Option ℕ) → t.boards ≡ (with_board_closed board s).boards → (m : ℕ) → (board ≡ Some m → ⊥) → slice_get t.boards m ≡ slice_get s.boards m
board-headed s t None same m out = ap (λ (l : List Aspect). slice_get l m) same
board-headed s t (Some c) same m out = board-other s t c Closed same m (λ e. out (ap Some (sym e)))

pub passes-headed : (s t : State) (closed : Option ℕ) → t.boards ≡ (with_board_closed closed s).boards → (board : Option ℕ) → may_pass_board t board ≡ true → may_pass_board s board ≡ true
passes-headed s t None same = passes-same s t same
passes-headed s t (Some c) same = passes-closed s t c same

pub stands-there : (p : PlantLists) → IsPlant p → (x m : ℕ) (d : Dir) → board_of p x d ≡ Some m → is_board_on_section p x m ≡ true
stands-there p plant x m d on =
    let board : Board = record { section = x; dir = d } in
    let known : slice_get p.boards m ≡ Some board = (plant.boards_listed x m d).0 on in
    ap (λ (o : Option Board). is_some_and o (λ b. b.section == x)) known ∙ eq-eqb x x refl

pub passes-opened : (p : PlantLists) → IsPlant p → (s t : State) (c x : ℕ) (d : Dir) → t.boards ≡ set s.boards c Open → is_board_on_section p x c ≡ false → may_pass_board t (board_of p x d) ≡ true → may_pass_board s (board_of p x d) ≡ true
passes-opened p plant s t c x d same off h = by_board (board_of p x d) refl h
  where
    by_board : (o : Option ℕ) → board_of p x d ≡ o → may_pass_board t o ≡ true → may_pass_board s o ≡ true
    by_board None e h = refl
    by_board (Some m) e h =
        let other : m ≡ c → ⊥ = λ is. true-false (is_board_on_section p x c) (ap (is_board_on_section p x) (sym is) ∙ stands-there p plant x m d e) off in
        ap (λ (o : Option Aspect). is_some_and o is_open) (sym (board-other s t c Open same m other)) ∙ h

module _ (p : PlantLists) (s t : State) (r : ℕ) (route : Route) (now new : RouteState) (changes : ChangesRoute p s t r route now new) where
  pub stays-other : (k : ℕ) → (k == r) ≡ false → slice_get t.routes k ≡ slice_get s.routes k
  stays-other k out = ap (λ (l : List RouteState). slice_get l k) changes.routes ∙ slice_get-set_other s.routes r k new (λ e. apart k r out (sym e))

  modes-keep : ((same_mode now.mode Locked ≡ false) ⊎ (same_mode new.mode Locked ≡ true)) → (k : ℕ) → has_mode s k Locked ≡ true → has_mode t k Locked ≡ true
  modes-keep how k locked = elim (cases_Bool (k == r)) [
    | inl here ↦ at_own how (eqb-true k r here) locked
    | inr other ↦ mode-alike s t k Locked (stays-other k other) locked
  ]
    where
      at_own : ((same_mode now.mode Locked ≡ false) ⊎ (same_mode new.mode Locked ≡ true)) → k ≡ r → has_mode s k Locked ≡ true → has_mode t k Locked ≡ true
      at_own (inl not_so) e locked = true-false (same_mode now.mode Locked) (sym (mode-is s r now Locked changes.state) ∙ ap (λ (i : ℕ). has_mode s i Locked) (sym e) ∙ locked) not_so
      at_own (inr so) e locked = ap (λ (i : ℕ). has_mode t i Locked) e ∙ mode-is t r new Locked (state-new p s t r route now new changes) ∙ so

  pub protecting-keeps : ((same_mode now.mode Locked ≡ false) ⊎ (same_mode new.mode Locked ≡ true)) → (m : ℕ) → is_protecting_locked_route p t m ≡ false → is_protecting_locked_route p s m ≡ false
  protecting-keeps how m = protecting-back p s t m (λ k locked protects. modes-keep how k locked)

pub locks-kept : (s t : State) → t.locks ≡ s.locks → (x : ℕ) (want : Hold) → has_lock_state t x want ≡ true → has_lock_state s x want ≡ true
locks-kept s t same x want = lock-same s t FreeLock (λ z. false) (locks-stay s t FreeLock same) x want refl
