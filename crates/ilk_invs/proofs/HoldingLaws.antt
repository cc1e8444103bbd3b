-- The condition of V3 holds if and only if the state keeps V3.
use Rattle.std.proofs.Common.{◌≡◌, ℕ, zero, suc, ◌+◌, ◌-◌, ◌<◌, ◌≤◌, Bool, true, false, not, ◌&&◌, ◌||◌, cond, Some, List, [], ◌∷◌, drop, filter, length, map, nat_le, nat_lt, slice_get, take, inl, inr, refl, ◌∙◌, ap, arith}
use Rattle.std.proofs.Math.Bool.{and-true}
use Rattle.std.specs.Prelude.{if◌then◌else◌}
use Rattle.std.specs.List.{enumerate_from, flat_map, list_all, range_with_len}
use Rattle.std.proofs.lemmas.Bool.{and_from, cases_Bool}
use Rattle.std.proofs.lemmas.Bool.Decides.{nat_tests}
use Rattle.std.proofs.lemmas.List.Folds.{list_all-append, list_all-map}
use Rattle.std.proofs.lemmas.Option.{same_Some}
use Rattle.ilk_base.proofs.Lists.{get-dropped, item_at, taken-before}
use Rattle.ilk_base.proofs.ListTests.{all-at, list_all-alike, list_all-flat_map}
use Rattle.ilk_base.proofs.Once.{EachOnce}
use Rattle.ilk_base.proofs.Ranges.{passing_within}
use Rattle.ilk_base.proofs.Tested.{all-pass}
use Rattle.ilk_ir.specs.Tree.{Tree, negation, tree_holds}
use Rattle.ilk_plant.specs.Plant.{IsPlant, PlantLists}
use Rattle.ilk_plant.specs.Shape.{HasShape}
use Rattle.ilk_plant.specs.State.{has_lock_state}
use Rattle.ilk_plant.specs.declared.state.Hold.TheVariants.{Locked as LockedLock, Used as UsedLock}
use Rattle.ilk_plant.specs.declared.state.RouteState.{RouteState}
use Rattle.ilk_plant.specs.declared.state.State.{State}
use Rattle.ilk_plant.specs.declared.table.Route.{Route}
use Rattle.ilk_routes.specs.Claims.{sections_outside_path}
use Rattle.ilk_model.specs.Families.{has_required_locks, meets_v3_locks_match_routes, required_path_section_lock}
use Rattle.ilk_model.specs.Holding.{all_path_indices_pass_test, is_holding_state, route_holds}
use Rattle.ilk_layout.specs.Image.{image_of}
use Rattle.ilk_layout.specs.Conditions.{lock_is}
use Rattle.ilk_layout.proofs.ConditionValues.{lock-holds}
use Rattle.ilk_invs.specs.Held.{path_section_held, section_held_by, mode_holds_sections, is_seen_count_below}
use Rattle.ilk_invs.specs.HoldFamilies.{possible_holders, path_lock_matches_seen, held_sections_have_locks, is_possible_holder, none_before_if_holding, none_holding, route_holding, v3_locks_match_routes_tree}
use Rattle.ilk_invs.specs.Parts.{each_of, conditions_of_each_path_index, conditions_of_each_route, implication}
use Rattle.ilk_invs.proofs.HeldLaws.{below-next, path_section_held-holds, section_held_by-holds, mode_holds_sections-holds, is_seen_count_below-holds}
use Rattle.ilk_invs.proofs.PartLaws.{each-place, each-route, each_of-holds, state_of_route, where-holds}
use Rattle.ilk_invs.proofs.Tests.{dropped-at}
use Rattle.ilk_routes.proofs.Shape.{beside-known}

passing-above : (test : ℕ → Bool) (a n i x : ℕ) → slice_get (filter test (range_with_len a n)) i ≡ Some x → a ≤ x
passing-above test a zero i x at = cc
passing-above test a (suc n) i x at = by_test (test a) i at (λ j here. passing-above test (a + 1) n j x here)
  where
    by_test : (b : Bool) (j : ℕ) → slice_get (cond b (a ∷ filter test (range_with_len (a + 1) n)) (filter test (range_with_len (a + 1) n))) j ≡ Some x → ((k : ℕ) → slice_get (filter test (range_with_len (a + 1) n)) k ≡ Some x → a + 1 ≤ x) → a ≤ x
    by_test true zero here later = let same : a ≡ x = same_Some a x here in omega (arith, same)
    by_test true (suc j) here later = let below = later j here in omega (arith, below)
    by_test false j here later = let below = later j here in omega (arith, below)

pub passing-once : (test : ℕ → Bool) (a n : ℕ) → EachOnce (filter test (range_with_len a n))
passing-once test a zero i j x at also = cc
passing-once test a (suc n) i j x at also = by_test (test a) i j at also (λ k l one two. passing-once test (a + 1) n k l x one two)
  where
    by_test : (b : Bool) (i j : ℕ) →
        slice_get
        (cond b (a ∷ filter test (range_with_len (a + 1) n)) (filter test (range_with_len (a + 1) n))) i
        ≡ Some x →
        slice_get
        (cond b (a ∷ filter test (range_with_len (a + 1) n)) (filter test (range_with_len (a + 1) n))) j
        ≡ Some x
        → ((k l : ℕ) → slice_get (filter test (range_with_len (a + 1) n)) k ≡ Some x → slice_get (filter test (range_with_len (a + 1) n)) l ≡ Some x → k ≡ l) → i ≡ j
    by_test true zero zero at also later = refl
    by_test true zero (suc j) at also later =
        let same : a ≡ x = same_Some a x at in
        let above = passing-above test (a + 1) n j x also in
        absurd (omega (arith, same, above))
    by_test true (suc i) zero at also later =
        let same : a ≡ x = same_Some a x also in
        let above = passing-above test (a + 1) n i x at in
        absurd (omega (arith, same, above))
    by_test true (suc i) (suc j) at also later = ap suc (later i j at also)
    by_test false i j at also later = later i j at also

pub filter-place : {X : Type 0} (test : X → Bool) (xs : List X) (k : ℕ) (x : X) → slice_get xs k ≡ Some x → test x ≡ true → (i : ℕ) × (slice_get (filter test xs) i ≡ Some x)
filter-place test [] k x at h = cc
filter-place {X} test (y ∷ xs) zero x at h =
    let same : y ≡ x = same_Some y x at in
    let here : test y ≡ true = ap test same ∙ h in
    (zero, rw here at)
filter-place {X} test (y ∷ xs) (suc k) x at h =
    let later = filter-place test xs k x at h in
    elim (cases_Bool (test y)) [
      | inl here ↦ (suc later.0, rw here later.1)
      | inr away ↦ (later.0, rw away later.1)
    ]

pub before-first : {X : Type 0} (xs : List X) (k : ℕ) (x : X) → slice_get xs (suc k) ≡ Some x → slice_get (drop 1 xs) k ≡ Some x
before-first [] k x at = cc
before-first (y ∷ xs) k x at = at

pub not-both : (a b : Bool) → not (a && b) ≡ true → a ≡ true → not b ≡ true
not-both true b h e = h
not-both false b h e = cc

pub not-true-false : (a : Bool) → not a ≡ true → a ≡ true → ⊥
not-true-false true h e = cc
not-true-false false h e = cc

pub not-where-never : (a : Bool) → (a ≡ true → ⊥) → not a ≡ true
not-where-never true never = absurd (never refl)
not-where-never false never = refl

pub at-dropped : {X : Type 0} (n : ℕ) (xs : List X) (j : ℕ) (x : X) → n ≤ j → slice_get xs j ≡ Some x → slice_get (drop n xs) (j - n) ≡ Some x
at-dropped n xs j x past at =
    let sum : n + (j - n) ≡ j = omega (arith, past) in
    get-dropped xs n (j - n) ∙ ap (slice_get xs) sum ∙ at

module _ (p : PlantLists) (plant : IsPlant p) (s : State) (shape : HasShape p s) where
  lock_place-holds : (r : ℕ) (now : RouteState) (i x : ℕ) → slice_get s.routes r ≡ Some now → x < length p.sections →
      list_all (tree_holds (image_of p s)) (path_lock_matches_seen p r i x) ≡ (not (is_holding_state now && nat_le now.rel i) || has_lock_state s x (required_path_section_lock now i))
  lock_place-holds r now i x at within =
      let held = path_section_held-holds p s shape r now i at in
      let seen : tree_holds (image_of p s) (is_seen_count_below r (i + 1)) ≡ not (nat_lt i now.seen) = is_seen_count_below-holds p s shape r now (i + 1) at ∙ below-next now.seen i ∙ turned now.seen i in
      joined (tree_holds (image_of p s) (path_section_held r i))
      (tree_holds (image_of p s) (is_seen_count_below r (i + 1)))
      (tree_holds (image_of p s) (lock_is p x LockedLock))
      (tree_holds (image_of p s) (lock_is p x UsedLock)) (is_holding_state now && nat_le now.rel i) (nat_lt i now.seen)
      (has_lock_state s x LockedLock) (has_lock_state s x UsedLock) held seen
      (lock-holds p s shape x LockedLock within) (lock-holds p s shape x UsedLock within)
      ∙ ap (λ v. not (is_holding_state now && nat_le now.rel i) || v) (chosen (nat_lt i now.seen) refl)
    where
      turned : (a b : ℕ) → nat_le a b ≡ not (nat_lt b a)
      turned a b = grind (arith, nat_tests)

      chosen : (b : Bool) → nat_lt i now.seen ≡ b → (if b then has_lock_state s x UsedLock else has_lock_state s x LockedLock) ≡ has_lock_state s x (required_path_section_lock now i)
      chosen true e = rw e refl
      chosen false e = rw e refl

      cases : (a b l u : Bool) → ((not a || (not (not b) || (l || false))) && ((not a || (not b || (u || false))) && true)) ≡ (not a || (if b then u else l))
      cases true true l true = refl
      cases true true l false = refl
      cases true false true u = refl
      cases true false false u = refl
      cases false b l u = refl

      joined : (a c l u a2 b l2 u2 : Bool) → a ≡ a2 → c ≡ not b → l ≡ l2 → u ≡ u2 → ((not a || (not c || (l || false))) && ((not a || (c || (u || false))) && true)) ≡ (not a2 || (if b then u2 else l2))
      joined a c l u a2 b l2 u2 one two three four =
          ap (λ v. ((not v || (not c || (l || false))) && ((not v || (c || (u || false))) && true))) one
          ∙ ap (λ v. ((not a2 || (not v || (l || false))) && ((not a2 || (v || (u || false))) && true))) two
          ∙ ap (λ v. ((not a2 || (not (not b) || (v || false))) && ((not a2 || (not b || (u || false))) && true))) three
          ∙ ap (λ v. ((not a2 || (not (not b) || (l2 || false))) && ((not a2 || (not b || (v || false))) && true))) four
          ∙ cases a2 b l2 u2

  held_sections_have_locks-holds : (r : ℕ) (route : Route) (now : RouteState) → slice_get p.routes r ≡ Some route →
      slice_get s.routes r ≡ Some now →
      list_all (tree_holds (image_of p s)) (held_sections_have_locks p r route)
      ≡ (if is_holding_state now then has_required_locks s route now else true)
  held_sections_have_locks-holds r route now known at =
      let of = plant.routes_known r route known in
      let places = each-place (image_of p s) route (path_lock_matches_seen p r)
      (λ i x. not (is_holding_state now && nat_le now.rel i) || has_lock_state s x (required_path_section_lock now i))
      (λ i x found. lock_place-holds r now i x at
      (all-at (λ x. x < length p.sections) route.path i x of.path found)) in
      let beside =
      list_all-map (tree_holds (image_of p s)) locked_if_holding (sections_outside_path route)
      ∙ list_all-alike (λ x. tree_holds (image_of p s) (locked_if_holding x))
      (λ x. if is_holding_state now then has_lock_state s x LockedLock else true) (sections_outside_path route)
      (λ i x found.
      where-holds (image_of p s) (mode_holds_sections r) (lock_is p x LockedLock) (is_holding_state now) (has_lock_state s x LockedLock)
      (mode_holds_sections-holds p s shape r now at) (lock-holds p s shape x LockedLock (beside-known p route of i x found))) in
      list_all-append (tree_holds (image_of p s)) (conditions_of_each_path_index route (path_lock_matches_seen p r)) (map locked_if_holding (sections_outside_path route))
      ∙ ap (λ v. v && list_all (tree_holds (image_of p s)) (map locked_if_holding (sections_outside_path route))) places
      ∙ ap (λ v. all_path_indices_pass_test route (λ i x. not (is_holding_state now && nat_le now.rel i) || has_lock_state s x (required_path_section_lock now i)) && v) beside
      ∙ by_holding (is_holding_state now)
    where
      locked_if_holding : ℕ → Tree
      locked_if_holding x = implication (mode_holds_sections r) (lock_is p x LockedLock)

      by_holding : (b : Bool) →
          (all_path_indices_pass_test route (λ i x. not (b && nat_le now.rel i) || has_lock_state s x (required_path_section_lock now i))
          && list_all (λ x. if b then has_lock_state s x LockedLock else true) (sections_outside_path route))
          ≡ (if b then has_required_locks s route now else true)
      by_holding true = refl
      by_holding false =
          and_from (list_all (λ _. true) (enumerate_from 0 route.path)) (list_all (λ _. true) (sections_outside_path route))
          (all-pass (λ _. true) (enumerate_from 0 route.path) (λ i place found. refl)) (all-pass (λ _. true) (sections_outside_path route) (λ i x found. refl))

  pub v3-law : tree_holds (image_of p s) (v3_locks_match_routes_tree p) ≡ meets_v3_locks_match_routes p s
  v3-law =
      each_of-holds (image_of p s) (conditions_of_each_route p (held_sections_have_locks p))
      ∙ each-route p s shape (image_of p s) (held_sections_have_locks p) (λ route now. if is_holding_state now then has_required_locks s route now else true) held_sections_have_locks-holds

  route_holding-holds : (x r : ℕ) → r < length p.routes → tree_holds (image_of p s) (each_of (route_holding p x r)) ≡ route_holds p s r x
  route_holding-holds x r within =
      let route = item_at p.routes r within in
      let now = state_of_route p s shape r route.0 route.1 in
      rw (route.1, now.1) (and-true (tree_holds (image_of p s) (section_held_by r route.0 x)) ∙ section_held_by-holds p s shape r route.0 now.0 x route.1 now.1)

  not_holding-holds : (x r : ℕ) → r < length p.routes → list_all (λ t. not (tree_holds (image_of p s) t)) (route_holding p x r) ≡ not (route_holds p s r x)
  not_holding-holds x r within =
      let route = item_at p.routes r within in
      let now = state_of_route p s shape r route.0 route.1 in
      rw (route.1, now.1) (and-true (not (tree_holds (image_of p s) (section_held_by r route.0 x))) ∙ ap not (section_held_by-holds p s shape r route.0 now.0 x route.1 now.1))

  pub none_holding-holds : (x : ℕ) (routes : List ℕ) → ((i q : ℕ) → slice_get routes i ≡ Some q → q < length p.routes) → tree_holds (image_of p s) (none_holding p x routes) ≡ list_all (λ q. not (route_holds p s q x)) routes
  none_holding-holds x routes known =
      each_of-holds (image_of p s) (map negation (flat_map (route_holding p x) routes))
      ∙ list_all-map (tree_holds (image_of p s)) negation (flat_map (route_holding p x) routes)
      ∙ list_all-flat_map (λ t. not (tree_holds (image_of p s) t)) (route_holding p x) routes
      ∙ list_all-alike (λ q. list_all (λ t. not (tree_holds (image_of p s) t)) (route_holding p x q)) (λ q. not (route_holds p s q x)) routes (λ i q found. not_holding-holds x q (known i q found))

  pub none_before_if_holding-holds : (x : ℕ) (before : List ℕ) (r : ℕ) → r < length p.routes →
      ((i q : ℕ) → slice_get before i ≡ Some q → q < length p.routes) →
      tree_holds (image_of p s) (none_before_if_holding p x before r)
      ≡ (if route_holds p s r x then list_all (λ q. not (route_holds p s q x)) before else true)
  none_before_if_holding-holds x before r within known =
      where-holds (image_of p s) (each_of (route_holding p x r)) (none_holding p x before) (route_holds p s r x) (list_all (λ q. not (route_holds p s q x)) before) (route_holding-holds x r within) (none_holding-holds x before known)

  pub holder-known : (x i r : ℕ) → slice_get (possible_holders p x) i ≡ Some r → r < length p.routes
  holder-known x i r at = let less = passing_within (is_possible_holder p x) 0 (length p.routes) i r at in omega (arith, less)

  pub taken-known : (routes : List ℕ) (n : ℕ) → ((i q : ℕ) → slice_get routes i ≡ Some q → q < length p.routes) → (i q : ℕ) → slice_get (take n routes) i ≡ Some q → q < length p.routes
  taken-known routes n known i q at = known i q (taken-before n routes i q at).1

  pub dropped-known : (routes : List ℕ) (n : ℕ) → ((i q : ℕ) → slice_get routes i ≡ Some q → q < length p.routes) → (i q : ℕ) → slice_get (drop n routes) i ≡ Some q → q < length p.routes
  dropped-known routes n known i q at = known (n + i) q (dropped-at n routes i q at)
