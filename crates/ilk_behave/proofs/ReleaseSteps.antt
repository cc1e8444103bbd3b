-- The steps of release and finish.
use Rattle.std.proofs.Common.{◌≡◌, ℕ, zero, suc, ◌+◌, ◌-◌, ◌<◌, ◌≤◌, ◌==◌, Bool, true, false, not, ◌&&◌, Option, Some, None, List, [], ◌∷◌, length, map, set, slice_get, take, refl, sym, ◌∙◌, ap, subst, arith, inl, inr, nat_le, length-set}
use Rattle.std.specs.List.{enumerate_from, last_or, range_with_len}
use Rattle.std.proofs.lemmas.Bool.{cases_Bool, eq-eqb, ne_eqb}
use Rattle.std.proofs.lemmas.Bool.Decides.{nat_tests}
use Rattle.std.proofs.lemmas.List.{set-set}
use Rattle.std.proofs.lemmas.Option.{none-some, slice_get_within}
use Rattle.ilk_base.specs.Option.{◌>>=◌, then_some}
use Rattle.ilk_base.proofs.Lists.{item_at, slice_get-set_same}
use Rattle.ilk_base.proofs.Ranges.{below_or_past}
use Rattle.ilk_base.proofs.Tested.{list_any-map}
use Rattle.ilk_ir.specs.Tree.{tree_holds}
use Rattle.ilk_ir.specs.System.{PlainRule, after_settings}
use Rattle.ilk_ir.proofs.Trees.{any_of-holds}
use Rattle.ilk_plant.specs.ColumnRules.{all_but_last}
use Rattle.ilk_plant.specs.Plant.{IsPlant, PlantLists}
use Rattle.ilk_plant.specs.Shape.{HasShape}
use Rattle.ilk_plant.specs.State.{has_lock_state, is_occupied}
use Rattle.ilk_plant.specs.declared.state.Hold.TheVariants.{Free as FreeLock, Used as UsedLock}
use Rattle.ilk_plant.specs.declared.state.Mode.TheVariants.{Free, Occupied}
use Rattle.ilk_plant.specs.declared.state.RouteState.{RouteState}
use Rattle.ilk_plant.specs.declared.state.State.{State}
use Rattle.ilk_plant.specs.declared.table.Route.{Route}
use Rattle.ilk_plant.proofs.Shapes.{seen_and_released_fit_path-counts, seen_and_released_fit_path-from_counts}
use Rattle.ilk_model.specs.Hazard.{hazard}
use Rattle.ilk_routes.specs.Claims.{sections_outside_path}
use Rattle.ilk_routes.specs.Locks.{with_locks}
use Rattle.ilk_routes.specs.Modes.{same_mode}
use Rattle.ilk_routes.specs.Routes.{after_finish, after_release}
use Rattle.ilk_routes.proofs.Locks.{length-with_locks, with_locks-first}
use Rattle.ilk_layout.specs.Image.{image_of, occupancy_values}
use Rattle.ilk_layout.specs.Variables.{mode_var, released_count_var, seen_count_var}
use Rattle.ilk_layout.proofs.Writes.{image_with, lock-written, mode-written, rel-written, seen-written}
use Rattle.ilk_layout.specs.Conditions.{mode_is, is_released_count, is_seen_count}
use Rattle.ilk_behave.specs.RouteRules.{finish_rule, release_rule_at_index, rules_of_finish, rules_of_release, seen_at_least}
use Rattle.ilk_behave.specs.Settings.{set_lock_of_each_section, set_mode, set_released_count, map_or_no_rules, set_seen_count}
use Rattle.ilk_behave.specs.Steps.{RulesMatchEvent, guard_holds_in_image}
use Rattle.ilk_behave.proofs.RouteSteps.{state-of}
use Rattle.ilk_base.proofs.ListTests.{all-at, counted-from, last-at, list_any-alike}
use Rattle.ilk_behave.proofs.Tools.{no_rules, place_steps, rule_step}
use Rattle.ilk_layout.proofs.ConditionValues.{lock-holds, mode-holds, rel-holds, seen-holds, vacant-holds}
use Rattle.ilk_behave.proofs.Writing.{by_image, locks-written, after_settings-append, with_lists, with_route}
use Rattle.ilk_routes.proofs.Shape.{beside-known}

take-get : {X : Type 0} (xs : List X) (i j : ℕ) → i < j → slice_get (take j xs) i ≡ slice_get xs i
take-get [] i zero less = absurd (omega arith)
take-get [] i (suc j) less = refl
take-get (x ∷ xs) i zero less = absurd (omega arith)
take-get (x ∷ xs) zero (suc j) less = refl
take-get (x ∷ xs) (suc i) (suc j) less = take-get xs i j (omega arith)

take-none : {X : Type 0} (xs : List X) (i j : ℕ) → j ≤ i → slice_get (take j xs) i ≡ None
take-none [] i zero less = refl
take-none [] i (suc j) less = refl
take-none (x ∷ xs) i zero less = refl
take-none (x ∷ xs) zero (suc j) less = absurd (omega arith)
take-none (x ∷ xs) (suc i) (suc j) less = take-none xs i j (omega arith)

module _ (p : PlantLists) (plant : IsPlant p) (s : State) (shape : HasShape p s) (calm : hazard p s ≡ None) where
  seen-enough : (r : ℕ) (now : RouteState) (k n : ℕ) → slice_get s.routes r ≡ Some now → now.seen ≤ n → k ≤ n → tree_holds (image_of p s) (seen_at_least r k n) ≡ nat_le k now.seen
  seen-enough r now k n here few less =
      any_of-holds (image_of p s) (map (is_seen_count r) (range_with_len k (n + 1 - k)))
      ∙ list_any-map (tree_holds (image_of p s)) (is_seen_count r) (range_with_len k (n + 1 - k))
      ∙ list_any-alike (λ c. tree_holds (image_of p s) (is_seen_count r c)) (λ c. now.seen == c) (range_with_len k (n + 1 - k)) (λ i c at. seen-holds p s shape r now c here)
      ∙ counted-from k (n + 1 - k) now.seen (omega arith)

  release-guard : (r : ℕ) (route : Route) (now : RouteState) (x : ℕ) → slice_get s.routes r ≡ Some now →
      now.seen ≤ length route.path → now.rel + 2 ≤ length route.path → x < length p.sections →
      guard_holds_in_image p s (release_rule_at_index p r route now.rel x)
      ≡
      (((same_mode now.mode Occupied && nat_le (now.rel + 2) now.seen) && not (is_occupied s x))
      && has_lock_state s x UsedLock)
  release-guard r route now x here few place inside =
      let mode = mode-holds p s shape r now Occupied here in
      let rel : tree_holds (image_of p s) (is_released_count r now.rel) ≡ true = rel-holds p s shape r now now.rel here ∙ eq-eqb now.rel now.rel refl in
      let seen = seen-enough r now (now.rel + 2) (length route.path) here few place in
      let vacant = vacant-holds p s shape calm x inside in
      let lock = lock-holds p s shape x UsedLock inside in
      rw (mode, rel, seen, vacant, lock) (shuffle (same_mode now.mode Occupied) (nat_le (now.rel + 2) now.seen) (not (is_occupied s x)) (has_lock_state s x UsedLock))
    where
      shuffle : (a b c d : Bool) → (a && (true && (b && (c && (d && true))))) ≡ (((a && b) && c) && d)
      shuffle true true true true = refl
      shuffle true true true false = refl
      shuffle true true false d = refl
      shuffle true false c d = refl
      shuffle false b c d = refl

  release-other : (r : ℕ) (route : Route) (now : RouteState) (k x : ℕ) → slice_get s.routes r ≡ Some now → (now.rel ≡ k → ⊥) → guard_holds_in_image p s (release_rule_at_index p r route k x) ≡ false
  release-other r route now k x here apart =
      let rel : tree_holds (image_of p s) (is_released_count r k) ≡ false = rel-holds p s shape r now k here ∙ ne_eqb now.rel k apart in
      rw rel (fails (tree_holds (image_of p s) (mode_is r Occupied)))
    where
      fails : (a : Bool) → (a && false) ≡ false
      fails true = refl
      fails false = refl

  release-sets : (r : ℕ) (route : Route) (now : RouteState) (x : ℕ) → slice_get s.routes r ≡ Some now →
      x < length p.sections →
      after_settings (image_with s (occupancy_values p s)) (release_rule_at_index p r route now.rel x).sets
      ≡ image_with
      (record s {
        routes = set s.routes r (record now { rel = now.rel + 1 });
        locks = set s.locks x FreeLock;
      })
      (occupancy_values p s)
  release-sets r route now x here inside =
      let e = occupancy_values p s in
      let s1 = record s { locks = set s.locks x FreeLock } in
      let shape1 = with_lists p s s.points s.boards (set s.locks x FreeLock) shape refl refl (length-set s.locks x FreeLock) in
      ap (λ values. set values (released_count_var r) (now.rel + 1)) (lock-written p s e shape x FreeLock inside)
      ∙ rel-written p s1 e shape1 r now (now.rel + 1) here

  pub release-steps : (r : ℕ) → RulesMatchEvent p s (after_release p s r) (rules_of_release p r)
  release-steps r = by_route (slice_get p.routes r) refl
    where
      by_route : (o : Option Route) → slice_get p.routes r ≡ o → RulesMatchEvent p s (after_release p s r) (rules_of_release p r)
      by_route None e = rw e (no_rules p s)
      by_route (Some route) e = rw (e, now.1) (subst (λ o. RulesMatchEvent p s o rules) same steps)
        where
          now : (now : RouteState) × (slice_get s.routes r ≡ Some now)
          now = state-of p plant s shape calm r route e

          path : List ℕ
          path = route.path

          rules : List PlainRule
          rules = map (λ place. release_rule_at_index p r route place.0 place.1) (enumerate_from 0 (all_but_last route.path))

          test : ℕ → Bool
          test x = ((same_mode now.0.mode Occupied && nat_le (now.0.rel + 2) now.0.seen) && not (is_occupied s x)) && has_lock_state s x UsedLock

          then : ℕ → State
          then x = record s { routes = set s.routes r (record now.0 { rel = now.0.rel + 1 }); locks = set s.locks x FreeLock }

          counts : (now.0.seen ≤ length route.path) × (now.0.rel ≤ length route.path)
          counts = seen_and_released_fit_path-counts route now.0 (shape.counts r route now.0 e now.1)

          inside : (i x : ℕ) → slice_get route.path i ≡ Some x → x < length p.sections
          inside i x at = all-at (λ x. x < length p.sections) route.path i x (plant.routes_known r route e).path at

          before-last : (i x : ℕ) → slice_get (all_but_last route.path) i ≡ Some x → (i + 2 ≤ length route.path) × (slice_get route.path i ≡ Some x)
          before-last i x at =
              elim (below_or_past i (length route.path - 1)) [
                | inl less ↦ (omega arith, sym (take-get route.path i (length route.path - 1) less) ∙ at)
                | inr past ↦ absurd (none-some x (sym (take-none route.path i (length route.path - 1) past) ∙ at))
              ]

          steps : RulesMatchEvent p s (slice_get (all_but_last route.path) now.0.rel >>= (λ x. then_some (test x) (then x))) rules
          steps =
              place_steps p s (release_rule_at_index p r route) (all_but_last route.path) now.0.rel test then
              (λ k x apart. release-other r route now.0 k x now.1 apart)
              (λ x at. (let it = before-last now.0.rel x at in release-guard r route now.0 x now.1 counts.0 it.0 (inside now.0.rel x it.1)))
              (λ x at. (let it = before-last now.0.rel x at in by_image p s (then x) (release_rule_at_index p r route now.0.rel x).sets (release-sets r route now.0 x now.1 (inside now.0.rel x it.1))))

          none-there : (o : Option ℕ) → length route.path - 1 ≤ now.0.rel → None ≡ (o >>= (λ x. then_some (test x) (then x)))
          none-there None past = refl
          none-there (Some x) past =
              let seen = counts.0 in
              let no : nat_le (now.0.rel + 2) now.0.seen ≡ false = grind (arith, nat_tests) in
              rw no (off (same_mode now.0.mode Occupied) (not (is_occupied s x)) (has_lock_state s x UsedLock) (then x))
            where
              off : (b c d : Bool) (t : State) → None ≡ then_some (((b && false) && c) && d) t
              off true c d t = refl
              off false c d t = refl

          same : (slice_get (all_but_last route.path) now.0.rel >>= (λ x. then_some (test x) (then x))) ≡ (slice_get route.path now.0.rel >>= (λ x. then_some (test x) (then x)))
          same =
              elim (below_or_past now.0.rel (length route.path - 1)) [
                | inl less ↦ ap (λ o. o >>= (λ x. then_some (test x) (then x))) (take-get route.path now.0.rel (length route.path - 1) less)
                | inr past ↦ ap (λ o. o >>= (λ x. then_some (test x) (then x))) (take-none route.path now.0.rel (length route.path - 1) past) ∙ none-there (slice_get route.path now.0.rel) past
              ]

  finish-guard : (r : ℕ) (route : Route) (now : RouteState) (x : ℕ) → slice_get s.routes r ≡ Some now →
      0 < length route.path →
      guard_holds_in_image p s (finish_rule p r route x)
      ≡
      ((same_mode now.mode Occupied && (now.seen == length route.path))
      && (now.rel + 1 == length route.path))
  finish-guard r route now x here some =
      let mode = mode-holds p s shape r now Occupied here in
      let seen = seen-holds p s shape r now (length route.path) here in
      let rel = rel-holds p s shape r now (length route.path - 1) here ∙ one-less now.rel (length route.path) some in
      rw (mode, seen, rel) (shuffle (same_mode now.mode Occupied) (now.seen == length route.path) (now.rel + 1 == length route.path))
    where
      shuffle : (a b c : Bool) → (a && (b && (c && true))) ≡ ((a && b) && c)
      shuffle true true true = refl
      shuffle true true false = refl
      shuffle true false c = refl
      shuffle false b c = refl

      one-less : (k n : ℕ) → 0 < n → (k == n - 1) ≡ (k + 1 == n)
      one-less k n some =
          elim (cases_Bool (k + 1 == n)) [
            | inl aye ↦ (let one : (k == n - 1) ≡ true = grind (arith, nat_tests) in one ∙ sym aye)
            | inr nay ↦ (let one : (k == n - 1) ≡ false = grind (arith, nat_tests) in one ∙ sym nay)
          ]

  finish-sets : (r : ℕ) (route : Route) (now : RouteState) (x : ℕ) → slice_get p.routes r ≡ Some route →
      slice_get s.routes r ≡ Some now → x < length p.sections →
      after_settings (image_with s (occupancy_values p s)) (finish_rule p r route x).sets
      ≡ image_with
      (record s {
        routes = set s.routes r (record { mode = Free; seen = 0; rel = 0 });
        locks = with_locks (set s.locks x FreeLock) (sections_outside_path route) FreeLock;
      })
      (occupancy_values p s)
  finish-sets r route now x known here inside =
      let e = occupancy_values p s in
      let locks = with_locks s.locks (x ∷ sections_outside_path route) FreeLock in
      let s0 = record s { locks = locks } in
      let shape0 = with_lists p s s.points s.boards locks shape refl refl (length-with_locks s.locks (x ∷ sections_outside_path route) FreeLock) in
      let counts = seen_and_released_fit_path-counts route now (shape.counts r route now known here) in
      let count = shape.locks in
      let lock = item_at s.locks x (omega arith) in
      let within = slice_get_within s.routes r now here in
      let now1 = record now { mode = Free } in
      let s1 = record s0 { routes = set s.routes r now1 } in
      let shape1 : HasShape p s1 = with_route p s0 r route now1 shape0 known (seen_and_released_fit_path-from_counts route now1 counts.0 counts.1) in
      let now2 = record now1 { seen = 0 } in
      let s2 = record s0 { routes = set s.routes r now2 } in
      let shape2 : HasShape p s2 = with_route p s0 r route now2 shape0 known (seen_and_released_fit_path-from_counts route now2 (omega arith) counts.1) in
      let now3 = record now2 { rel = 0 } in
      let one = mode-written p s0 e shape0 r now Free here in
      let two = seen-written p s1 e shape1 r now1 0 (slice_get-set_same s.routes r now1 within) ∙ ap (λ routes. image_with (record s0 { routes = routes }) e) (set-set s.routes r now1 now2) in
      let three = rel-written p s2 e shape2 r now2 0 (slice_get-set_same s.routes r now2 within) ∙ ap (λ routes. image_with (record s0 { routes = routes }) e) (set-set s.routes r now2 now3) in
      after_settings-append (image_with s e) (set_lock_of_each_section p (x ∷ sections_outside_path route) FreeLock) (set_mode r Free ∷ set_seen_count r 0 ∷ set_released_count r 0 ∷ [])
      ∙ ap (λ values. set (set (set values (mode_var r) 0) (seen_count_var r) 0) (released_count_var r) 0) (locks-written p s e (x ∷ sections_outside_path route) FreeLock shape (λ i y at. listed i y at))
      ∙ ap (λ values. set (set values (seen_count_var r) 0) (released_count_var r) 0) one
      ∙ ap (λ values. set values (released_count_var r) 0) two
      ∙ three
      ∙ ap (λ locks. image_with (record s { routes = set s.routes r now3; locks = locks }) e) (sym (with_locks-first s.locks x (sections_outside_path route) FreeLock lock.0 lock.1))
    where
      listed : (i y : ℕ) → slice_get (x ∷ sections_outside_path route) i ≡ Some y → y < length p.sections
      listed zero y at = (let same : x ≡ y = cc in omega (arith, inside, same))
      listed (suc i) y at = beside-known p route (plant.routes_known r route known) i y at

  pub finish-steps : (r : ℕ) → RulesMatchEvent p s (after_finish p s r) (rules_of_finish p r)
  finish-steps r = by_route (slice_get p.routes r) refl
    where
      by_route : (o : Option Route) → slice_get p.routes r ≡ o → RulesMatchEvent p s (after_finish p s r) (rules_of_finish p r)
      by_route None e = rw e (no_rules p s)
      by_route (Some route) e =
          rw (e, now.1) (by_last (last_or None route.path) refl)
        where
          now : (now : RouteState) × (slice_get s.routes r ≡ Some now)
          now = state-of p plant s shape calm r route e

          finished : ℕ → State
          finished x = record s { routes = set s.routes r (record { mode = Free; seen = 0; rel = 0 }); locks = with_locks (set s.locks x FreeLock) (sections_outside_path route) FreeLock }

          by_last : (o : Option ℕ) → last_or None route.path ≡ o →
              RulesMatchEvent p s
              (o >>=
              (λ x. then_some
              ((same_mode now.0.mode Occupied && (now.0.seen == length route.path))
              && (now.0.rel + 1 == length route.path))
              (record s {
                routes = set s.routes r (record { mode = Free; seen = 0; rel = 0 });
                locks = with_locks (set s.locks x FreeLock) (sections_outside_path route)
                    FreeLock;
              })))
              (map_or_no_rules o (λ x. finish_rule p r route x ∷ []))
          by_last None at = no_rules p s
          by_last (Some x) at =
              let of = plant.routes_known r route e in
              let inside : x < length p.sections = elim (last-at None route.path x at) [
                | inl none ↦ absurd (none-some x none)
                | inr there ↦ all-at (λ x. x < length p.sections) route.path there.0 x of.path there.1
              ] in
              rule_step p s (finished x)
              ((same_mode now.0.mode Occupied && (now.0.seen == length route.path))
              && (now.0.rel + 1 == length route.path))
              (finish_rule p r route x) (finish-guard r route now.0 x now.1 of.path_begins)
              (λ h. by_image p s (finished x) (finish_rule p r route x).sets
              (finish-sets r route now.0 x e now.1 inside))
