-- V1 to V4 for each route: their statements, and sufficient conditions for a state to meet them.
use Rattle.std.proofs.Common.{◌≡◌, ℕ, ◌+◌, ◌<◌, ◌≤◌, Bool, true, false, not, ◌==◌, ◌&&◌, ◌||◌, Some, List, inl, inr, ◌⊎◌, length, nat_le, nat_lt, slice_get, refl, sym, ◌∙◌, arith}
use Rattle.std.specs.Prelude.{if◌then◌else◌}
use Rattle.std.specs.List.{list_all}
use Rattle.std.proofs.lemmas.Bool.{and_from, and_parts, both_ways, cases_Bool, eqb-true, eq-eqb, or_left, or_right}
use Rattle.std.proofs.lemmas.Bool.Decides.{nat_tests}
use Rattle.std.proofs.lemmas.Option.{same_Some, slice_get_within}
use Rattle.ilk_base.specs.Each.{is_true_for_all_below}
use Rattle.ilk_base.proofs.Tested.{all-pass, list_all-slice_get}
use Rattle.ilk_base.proofs.Truth.{either, fails, if-passes, passes-if}
use Rattle.ilk_plant.specs.Network.{contains_section}
use Rattle.ilk_plant.specs.Plant.{PlantLists}
use Rattle.ilk_plant.specs.State.{has_lock_state, is_occupied}
use Rattle.ilk_plant.specs.declared.state.Hold.TheVariants.{Free as FreeLock, Locked as LockedLock, Used as UsedLock}
use Rattle.ilk_plant.specs.declared.state.Mode.TheVariants.{Allocating, Locked, Occupied}
use Rattle.ilk_plant.specs.declared.state.RouteState.{RouteState}
use Rattle.ilk_plant.specs.declared.state.State.{State}
use Rattle.ilk_plant.specs.declared.table.Route.{Route}
use Rattle.ilk_plant.proofs.InLists.{section-at, section-from}
use Rattle.ilk_routes.specs.Claims.{sections_outside_path}
use Rattle.ilk_routes.specs.Modes.{same_mode}
use Rattle.ilk_model.specs.Families.{has_required_locks, meets_v1_consistent_counts, meets_v2_sections_held_once, meets_v3_locks_match_routes, meets_v4_allocating_paths_vacant, required_path_section_lock}
use Rattle.ilk_model.specs.Holding.{all_path_indices_pass_test, holds_section, is_holding_state, is_unreleased_on_path, is_locked_or_occupied, is_vacant, route_holds}
use Rattle.ilk_model.proofs.Alike.{one_mode}
use Rattle.ilk_strict.proofs.Reading.{RouteIn, is_true_for_all_below-at, is_true_for_all_below-from, all_path_indices_pass_test-at, all_path_indices_pass_test-from, all_routes_pass_test-at, all_routes_pass_test-from, has_lock_state-at, has_lock_state-from, kept-at, kept-from, passes-at, passes-from}

pub all_vacant-at : (s : State) (xs : List ℕ) → list_all (is_vacant s) xs ≡ true → (i x : ℕ) → slice_get xs i ≡ Some x → is_occupied s x ≡ false
all_vacant-at s xs h i x at = fails (is_occupied s x) (list_all-slice_get (is_vacant s) xs i x h at)

pub all_vacant-from : (s : State) (xs : List ℕ) → ((i x : ℕ) → slice_get xs i ≡ Some x → is_occupied s x ≡ false) → list_all (is_vacant s) xs ≡ true
all_vacant-from s xs each = all-pass (is_vacant s) xs (λ i x at. rw (each i x at) refl)

pub locked-or_occupied : (now : RouteState) → is_locked_or_occupied now ≡ true → (now.mode ≡ Locked) ⊎ (now.mode ≡ Occupied)
locked-or_occupied now h =
    elim (either (same_mode now.mode Locked) (same_mode now.mode Occupied) h) [
      | inl e ↦ inl (one_mode now.mode Locked e)
      | inr e ↦ inr (one_mode now.mode Occupied e)
    ]

pub locked-is : (now : RouteState) → now.mode ≡ Locked → is_locked_or_occupied now ≡ true
locked-is now e = rw e refl

pub occupied-is : (now : RouteState) → now.mode ≡ Occupied → is_locked_or_occupied now ≡ true
occupied-is now e = rw e refl

pub allocating-holds : (now : RouteState) → now.mode ≡ Allocating → is_holding_state now ≡ true
allocating-holds now e = rw e refl

pub locked-holds : (now : RouteState) → is_locked_or_occupied now ≡ true → is_holding_state now ≡ true
locked-holds now h = or_right (same_mode now.mode Allocating) (is_locked_or_occupied now) h

pub holds-path : (route : Route) (now : RouteState) (i x : ℕ) → is_holding_state now ≡ true → now.rel ≤ i → slice_get route.path i ≡ Some x → holds_section x route now ≡ true
holds-path route now i x holds least at =
    and_from (is_holding_state now) (contains_section x (sections_outside_path route) || is_unreleased_on_path route now x) holds
    (or_right (contains_section x (sections_outside_path route)) (is_unreleased_on_path route now x) (kept-from route now i x least at))

pub holds-beside : (route : Route) (now : RouteState) (x : ℕ) → is_holding_state now ≡ true → contains_section x (sections_outside_path route) ≡ true → holds_section x route now ≡ true
holds-beside route now x holds beside =
    and_from (is_holding_state now) (contains_section x (sections_outside_path route) || is_unreleased_on_path route now x) holds (or_left (contains_section x (sections_outside_path route)) (is_unreleased_on_path route now x) beside)

pub holds-cases : (route : Route) (now : RouteState) (x : ℕ) → holds_section x route now ≡ true → (is_holding_state now ≡ true) × ((contains_section x (sections_outside_path route) ≡ true) ⊎ ((i : ℕ) × (now.rel ≤ i) ×
    (slice_get route.path i ≡ Some x)))
holds-cases route now x h =
    let parts = and_parts (is_holding_state now) (contains_section x (sections_outside_path route) || is_unreleased_on_path route now x) h in (
      parts.0,
      elim (either (contains_section x (sections_outside_path route)) (is_unreleased_on_path route now x) parts.1) [
        | inl beside ↦ inl beside
        | inr kept ↦ inr (kept-at route now x kept)
      ],
    )

abbrev pub counts_right : Route → RouteState → Bool
counts_right route now =
    if same_mode now.mode Occupied
    then nat_lt now.rel now.seen && nat_le now.seen (length route.path)
    else now.seen == 0 && now.rel == 0

pub counts-idle : (route : Route) (now : RouteState) → same_mode now.mode Occupied ≡ false → now.seen ≡ 0 → now.rel ≡ 0 → counts_right route now ≡ true
counts-idle route now idle seen rel =
    rw idle (and_from (now.seen == 0) (now.rel == 0) (eq-eqb now.seen 0 seen) (eq-eqb now.rel 0 rel))

pub counts-in_use : (route : Route) (now : RouteState) → same_mode now.mode Occupied ≡ true → now.rel < now.seen → now.seen ≤ length route.path → counts_right route now ≡ true
counts-in_use route now busy behind within =
    let first : nat_lt now.rel now.seen ≡ true = grind (arith, nat_tests) in
    let second : nat_le now.seen (length route.path) ≡ true = grind (arith, nat_tests) in
    rw busy (and_from (nat_lt now.rel now.seen) (nat_le now.seen (length route.path)) first second)

module _ (p : PlantLists) (s : State) where
  pub idle : meets_v1_consistent_counts p s ≡ true → (r : ℕ) (route : Route) (now : RouteState) → RouteIn p s r route now → same_mode now.mode Occupied ≡ false → (now.seen ≡ 0) × (now.rel ≡ 0)
  idle kept r route now it mode =
      let here : (now.seen == 0 && now.rel == 0) ≡ true = rw mode at (all_routes_pass_test-at p s counts_right kept r route now it) in
      let parts = and_parts (now.seen == 0) (now.rel == 0) here in
      (eqb-true now.seen 0 parts.0, eqb-true now.rel 0 parts.1)

  pub in_use : meets_v1_consistent_counts p s ≡ true → (r : ℕ) (route : Route) (now : RouteState) → RouteIn p s r route now → same_mode now.mode Occupied ≡ true → (now.rel < now.seen) × (now.seen ≤ length route.path)
  in_use kept r route now it mode =
      let here : (nat_lt now.rel now.seen && nat_le now.seen (length route.path)) ≡ true = rw mode at (all_routes_pass_test-at p s counts_right kept r route now it) in
      let parts = and_parts (nat_lt now.rel now.seen) (nat_le now.seen (length route.path)) here in
      let first : nat_lt now.rel now.seen ≡ true = parts.0 in
      let second : nat_le now.seen (length route.path) ≡ true = parts.1 in
      (grind (arith, nat_tests), grind (arith, nat_tests))

  pub rel-seen : meets_v1_consistent_counts p s ≡ true → (r : ℕ) (route : Route) (now : RouteState) → RouteIn p s r route now → now.rel ≤ now.seen
  rel-seen kept r route now it = elim (cases_Bool (same_mode now.mode Occupied)) [
    | inl busy ↦ (let counts = in_use kept r route now it busy in let less = counts.0 in omega (arith, less))
    | inr away ↦ (let counts = idle kept r route now it away in let none = counts.1 in omega (arith, none))
  ]

  pub rel-led : meets_v1_consistent_counts p s ≡ true → (r : ℕ) (route : Route) (now : RouteState) → RouteIn p s r route now → (i : ℕ) → now.seen ≤ i + 1 → now.rel ≤ i
  rel-led kept r route now it i few = elim (cases_Bool (same_mode now.mode Occupied)) [
    | inl busy ↦ (let counts = in_use kept r route now it busy in let less = counts.0 in omega (arith, less, few))
    | inr away ↦ (let counts = idle kept r route now it away in let none = counts.1 in omega (arith, none))
  ]

  pub alone : meets_v2_sections_held_once p s ≡ true → (r : ℕ) (route : Route) (now : RouteState) → RouteIn p s r route now →
      (q : ℕ) (other : Route) (its : RouteState) → RouteIn p s q other its → (x : ℕ) → x < length p.sections →
      holds_section x route now ≡ true → holds_section x other its ≡ true → r ≡ q
  alone kept r route now it q other its that x within here there =
      let row = is_true_for_all_below-at (length p.routes) (λ a. is_true_for_all_below (length p.routes) (λ b. a == b || is_true_for_all_below (length p.sections) (λ y. not (route_holds p s a y && route_holds p s b y)))) kept r
      (slice_get_within p.routes r route it.known) in
      let cell = is_true_for_all_below-at (length p.routes) (λ b. r == b || is_true_for_all_below (length p.sections) (λ y. not (route_holds p s r y && route_holds p s b y))) row q (slice_get_within p.routes q other that.known) in
      elim (either (r == q) (is_true_for_all_below (length p.sections) (λ y. not (route_holds p s r y && route_holds p s q y))) cell) [
        | inl same ↦ eqb-true r q same
        | inr apart ↦
            (let none = is_true_for_all_below-at (length p.sections) (λ y. not (route_holds p s r y && route_holds p s q y)) apart x within in
            let both = and_from (route_holds p s r x) (route_holds p s q x) (passes-from p s r (holds_section x) route now it here) (passes-from p s q (holds_section x) other its that there) in
            absurd (both_ways (route_holds p s r x && route_holds p s q x) (fails (route_holds p s r x && route_holds p s q x) none) both))
      ]

  pub alone-from :
      ((r : ℕ) (route : Route) (now : RouteState) → RouteIn p s r route now →
      (q : ℕ) (other : Route) (its : RouteState) → RouteIn p s q other its → (x : ℕ) →
      x < length p.sections → holds_section x route now ≡ true → holds_section x other its ≡ true → r ≡ q)
      →
      meets_v2_sections_held_once p s ≡ true
  alone-from each =
      is_true_for_all_below-from (length p.routes) (λ a. is_true_for_all_below (length p.routes) (λ b. a == b || is_true_for_all_below (length p.sections) (λ y. not (route_holds p s a y && route_holds p s b y)))) (λ r less.
      is_true_for_all_below-from (length p.routes) (λ b. r == b || is_true_for_all_below (length p.sections) (λ y. not (route_holds p s r y && route_holds p s b y))) (λ q fewer. pair r q))
    where
      not_both : (a b : Bool) → (a ≡ true → b ≡ true → ⊥) → not (a && b) ≡ true
      not_both true true apart = absurd (apart refl refl)
      not_both true false apart = refl
      not_both false b apart = refl

      pair : (r q : ℕ) → (r == q || is_true_for_all_below (length p.sections) (λ y. not (route_holds p s r y && route_holds p s q y))) ≡ true
      pair r q = elim (cases_Bool (r == q)) [
        | inl same ↦ or_left (r == q) (is_true_for_all_below (length p.sections) (λ y. not (route_holds p s r y && route_holds p s q y))) same
        | inr differ ↦ or_right (r == q) (is_true_for_all_below (length p.sections) (λ y. not (route_holds p s r y && route_holds p s q y)))
            (is_true_for_all_below-from (length p.sections) (λ y. not (route_holds p s r y && route_holds p s q y)) (λ x within. not_both (route_holds p s r x) (route_holds p s q x) (λ first second.
            let one = passes-at p s r (holds_section x) first in
            let two = passes-at p s q (holds_section x) second in
            let same = each r one.0 one.1 one.2 q two.0 two.1 two.2 x within one.3 two.3 in
            both_ways (r == q) differ (eq-eqb r q same))))
      ]

  pub lock-path : meets_v3_locks_match_routes p s ≡ true → (r : ℕ) (route : Route) (now : RouteState) → RouteIn p s r route now → is_holding_state now ≡ true → (i x : ℕ) → now.rel ≤ i → slice_get route.path i ≡ Some x
      → slice_get s.locks x ≡ Some (required_path_section_lock now i)
  lock-path kept r route now it holds i x least at =
      let locks : has_required_locks s route now
      ≡ true = if-passes (is_holding_state now) (has_required_locks s route now) (all_routes_pass_test-at p s (λ route now. if is_holding_state now then has_required_locks s route now else true) kept r route now it)
      holds in
      let places = (and_parts (all_path_indices_pass_test route (λ i x. not (nat_le now.rel i) || has_lock_state s x (required_path_section_lock now i))) (list_all (λ x. has_lock_state s x LockedLock) (sections_outside_path route)) locks).0 in
      let test : nat_le now.rel i ≡ true = grind (arith, nat_tests) in
      has_lock_state-at s x (required_path_section_lock now i)
      (counted (nat_le now.rel i) (has_lock_state s x (required_path_section_lock now i)) test (all_path_indices_pass_test-at route (λ i x. not (nat_le now.rel i) || has_lock_state s x (required_path_section_lock now i)) places i x at))
    where
      counted : (a b : Bool) → a ≡ true → (not a || b) ≡ true → b ≡ true
      counted a b e h = rw e at h

  pub lock-beside : meets_v3_locks_match_routes p s ≡ true → (r : ℕ) (route : Route) (now : RouteState) → RouteIn p s r route now → is_holding_state now ≡ true → (x : ℕ) → contains_section x (sections_outside_path route) ≡ true →
      slice_get s.locks x ≡ Some LockedLock
  lock-beside kept r route now it holds x beside =
      let locks : has_required_locks s route now
      ≡ true = if-passes (is_holding_state now) (has_required_locks s route now) (all_routes_pass_test-at p s (λ route now. if is_holding_state now then has_required_locks s route now else true) kept r route now it)
      holds in
      let others = (and_parts (all_path_indices_pass_test route (λ i x. not (nat_le now.rel i) || has_lock_state s x (required_path_section_lock now i))) (list_all (λ x. has_lock_state s x LockedLock) (sections_outside_path route)) locks).1 in
      let found = section-at x (sections_outside_path route) beside in
      has_lock_state-at s x LockedLock (list_all-slice_get (λ x. has_lock_state s x LockedLock) (sections_outside_path route) found.0 x others found.1)

  pub locks-from : length s.routes ≡ length p.routes →
      ((r : ℕ) (route : Route) (now : RouteState) → RouteIn p s r route now → is_holding_state now ≡ true →
      ((i x : ℕ) → now.rel ≤ i → slice_get route.path i ≡ Some x →
      slice_get s.locks x ≡ Some (required_path_section_lock now i)) ×
      ((x : ℕ) → contains_section x (sections_outside_path route) ≡ true →
      slice_get s.locks x ≡ Some LockedLock)) →
      meets_v3_locks_match_routes p s ≡ true
  locks-from count each =
      all_routes_pass_test-from p s (λ route now. if is_holding_state now then has_required_locks s route now else true) count (λ r route now it.
      passes-if (is_holding_state now) (has_required_locks s route now) (λ holds.
      let both = each r route now it holds in
      and_from (all_path_indices_pass_test route (λ i x. not (nat_le now.rel i) || has_lock_state s x (required_path_section_lock now i))) (list_all (λ x. has_lock_state s x LockedLock) (sections_outside_path route))
      (all_path_indices_pass_test-from route (λ i x. not (nat_le now.rel i) || has_lock_state s x (required_path_section_lock now i))
      (λ i x at. at_place now.rel i (has_lock_state s x (required_path_section_lock now i)) (λ least. has_lock_state-from s x (required_path_section_lock now i) (both.0 i x least at))))
      (all-pass (λ x. has_lock_state s x LockedLock) (sections_outside_path route) (λ k x at. has_lock_state-from s x LockedLock (both.1 x (section-from (sections_outside_path route) k x at))))))
    where
      at_place : (rel i : ℕ) (b : Bool) → (rel ≤ i → b ≡ true) → (not (nat_le rel i) || b) ≡ true
      at_place rel i b f = elim (cases_Bool (nat_le rel i)) [
        | inl test ↦ (let least : rel ≤ i = grind (arith, nat_tests) in or_right (not (nat_le rel i)) b (f least))
        | inr test ↦ (rw test refl)
      ]

  pub held-not_free : meets_v3_locks_match_routes p s ≡ true → (r : ℕ) (route : Route) (now : RouteState) → RouteIn p s r route now → (x : ℕ) → holds_section x route now ≡ true → slice_get s.locks x ≡ Some FreeLock → ⊥
  held-not_free kept r route now it x held free =
      let cases = holds-cases route now x held in
      elim cases.1 [
        | inl beside ↦ (let lock = lock-beside kept r route now it cases.0 x beside in let same : LockedLock ≡ FreeLock = same_Some LockedLock FreeLock (sym lock ∙ free) in absurd (cc))
        | inr place ↦ used-or_locked (nat_lt place.0 now.seen) (sym (lock-path kept r route now it cases.0 place.0 x place.1 place.2) ∙ free)
      ]
    where
      used-or_locked : (b : Bool) → Some (if b then UsedLock else LockedLock) ≡ Some FreeLock → ⊥
      used-or_locked true e = cc
      used-or_locked false e = cc

  pub vacant-path : meets_v4_allocating_paths_vacant p s ≡ true → (r : ℕ) (route : Route) (now : RouteState) → RouteIn p s r route now → now.mode ≡ Allocating → (i x : ℕ) → slice_get route.path i ≡ Some x → is_occupied s x ≡ false
  vacant-path kept r route now it mode i x at =
      all_vacant-at s route.path
      (if-passes (same_mode now.mode Allocating) (list_all (is_vacant s) route.path)
      (all_routes_pass_test-at p s
      (λ route now. if same_mode now.mode Allocating then list_all (is_vacant s) route.path
      else true) kept r route now it) (rw mode refl)) i x at

  pub vacant-from : length s.routes ≡ length p.routes → ((r : ℕ) (route : Route) (now : RouteState) → RouteIn p s r route now → now.mode ≡ Allocating → (i x : ℕ) → slice_get route.path i ≡ Some x → is_occupied s x ≡ false) →
      meets_v4_allocating_paths_vacant p s ≡ true
  vacant-from count each =
      all_routes_pass_test-from p s (λ route now. if same_mode now.mode Allocating then list_all (is_vacant s) route.path else true) count (λ r route now it.
      passes-if (same_mode now.mode Allocating) (list_all (is_vacant s) route.path) (λ mode. all_vacant-from s route.path (each r route now it (one_mode now.mode Allocating mode))))
