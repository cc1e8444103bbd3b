-- The steps of the events of routes.
use Rattle.std.proofs.Common.{◌≡◌, ℕ, ◌+◌, ◌<◌, ◌==◌, Bool, true, false, not, ◌&&◌, ◌||◌, Option, Some, None, [], ◌∷◌, ◌++◌, length, map, set, slice_get, refl, sym, ◌∙◌, ap, arith, cond, length-set}
use Rattle.std.proofs.lemmas.Bool.{eq-eqb, ne_eqb}
use Rattle.std.proofs.lemmas.List.{set-set}
use Rattle.std.proofs.lemmas.List.Elements.{All-append, All-map}
use Rattle.std.proofs.lemmas.Option.{slice_get_within}
use Rattle.std.proofs.Math.Bool.{and-true}
use Rattle.ilk_base.proofs.Lists.{item_at, slice_get-set_same}
use Rattle.ilk_ir.specs.Tree.{any_of, tree_holds, trees_from_list}
use Rattle.ilk_ir.specs.System.{after_settings}
use Rattle.ilk_plant.specs.Plant.{IsPlant, IsValidRouteOf, PlantLists}
use Rattle.ilk_plant.specs.Shape.{HasShape}
use Rattle.ilk_plant.specs.State.{has_lock_state, is_occupied}
use Rattle.ilk_plant.specs.TableRules.{sections_locked_for}
use Rattle.ilk_plant.specs.declared.state.Aspect.TheVariants.{Closed}
use Rattle.ilk_plant.specs.declared.state.Hold.TheVariants.{Free as FreeLock, Locked as LockedLock, Used as UsedLock}
use Rattle.ilk_plant.specs.declared.state.Mode.{Mode}
use Rattle.ilk_plant.specs.declared.state.Mode.TheVariants.{Free, Marked, Allocating, Locked, Occupied}
use Rattle.ilk_plant.specs.declared.state.RouteState.{RouteState}
use Rattle.ilk_plant.specs.declared.state.State.{State}
use Rattle.ilk_plant.specs.declared.table.Listed.{Listed}
use Rattle.ilk_plant.specs.declared.table.Route.{Route}
use Rattle.ilk_plant.proofs.Shapes.{seen_and_released_fit_path-counts, seen_and_released_fit_path-from_counts}
use Rattle.ilk_model.specs.Hazard.{hazard}
use Rattle.ilk_routes.specs.Locks.{with_locks}
use Rattle.ilk_routes.specs.Modes.{same_mode}
use Rattle.ilk_routes.specs.Routes.{after_cancel, after_mark, after_sense}
use Rattle.ilk_layout.specs.Image.{image_of, occupancy_values}
use Rattle.ilk_layout.proofs.Writes.{board-written, image_with, lock-written, mode-written, seen-written}
use Rattle.ilk_layout.specs.Conditions.{mode_is}
use Rattle.ilk_behave.specs.RouteRules.{rules_of_cancel, rules_of_mark, rules_of_sense, sense_rule_at_index}
use Rattle.ilk_layout.specs.Variables.{mode_var, seen_count_var}
use Rattle.ilk_behave.specs.Settings.{set_board_aspect, set_lock_of_each_section, set_mode, rule}
use Rattle.ilk_behave.specs.Steps.{RulesMatchEvent, guard_holds_in_image}
use Rattle.ilk_base.proofs.ListTests.{all-at}
use Rattle.ilk_behave.proofs.Tools.{no_rules, place_steps, rule_step, two_rules_step}
use Rattle.ilk_layout.proofs.ConditionValues.{lock-holds, mode-holds, seen-holds, vacant-holds}
use Rattle.ilk_behave.proofs.Writing.{by_image, locks-written, with_lists, with_route}

pub locked-known : (p : PlantLists) (route : Route) → IsValidRouteOf p route → (i x : ℕ) → slice_get (sections_locked_for route) i ≡ Some x → x < length p.sections
locked-known p route of i x at =
    all-at (λ x. x < length p.sections) (sections_locked_for route) i x
    (All-append (λ x. x < length p.sections) (route.path ++ route.overlap)
    (map (λ listed. listed.point) route.protecting_points)
    (All-append (λ x. x < length p.sections) route.path route.overlap of.path of.overlap)
    (All-map (λ x. x < length p.sections) (λ (listed : Listed). listed.point)
    route.protecting_points of.protecting_points)) at

module _ (p : PlantLists) (plant : IsPlant p) (s : State) (shape : HasShape p s) (calm : hazard p s ≡ None) where
  pub state-of : (r : ℕ) (route : Route) → slice_get p.routes r ≡ Some route → (now : RouteState) × (slice_get s.routes r ≡ Some now)
  state-of r route known =
      let within = slice_get_within p.routes r route known in
      let count = shape.routes in
      item_at s.routes r (omega arith)

  pub mark-steps : (r : ℕ) → RulesMatchEvent p s (after_mark p s r) (rules_of_mark p r)
  mark-steps r = by_route (slice_get p.routes r) refl
    where
      by_route : (o : Option Route) → slice_get p.routes r ≡ o → RulesMatchEvent p s (after_mark p s r) (rules_of_mark p r)
      by_route None e = rw e (no_rules p s)
      by_route (Some route) e =
          let now = state-of r route e in
          let marked = record s { routes = set s.routes r (record now.0 { mode = Marked }) } in
          rw (e, now.1) (rule_step p s marked (same_mode now.0.mode Free) (rule (mode_is r Free ∷ []) (set_mode r Marked ∷ []))
          (and-true (tree_holds (image_of p s) (mode_is r Free)) ∙ mode-holds p s shape r now.0 Free now.1)
          (λ h. by_image p s marked (set_mode r Marked ∷ []) (mode-written p s (occupancy_values p s) shape r now.0 Marked now.1)))

  pub cancel-steps : (r : ℕ) → RulesMatchEvent p s (after_cancel p s r) (rules_of_cancel p r)
  cancel-steps r = by_route (slice_get p.routes r) refl
    where
      not-both : (m : Mode) → same_mode m Marked ≡ true → same_mode m Allocating ≡ false
      not-both Free h = refl
      not-both Marked h = refl
      not-both Allocating h = cc
      not-both Locked h = refl
      not-both Occupied h = refl

      by_route : (o : Option Route) → slice_get p.routes r ≡ o → RulesMatchEvent p s (after_cancel p s r) (rules_of_cancel p r)
      by_route None e = rw e (no_rules p s)
      by_route (Some route) e =
          let now = state-of r route e in
          let freed = record s { routes = set s.routes r (record now.0 { mode = Free }) } in
          let fits = shape.counts r route now.0 e now.1 in
          let shaped : HasShape p freed = with_route p s r route (record now.0 { mode = Free }) shape e
          (seen_and_released_fit_path-from_counts route (record now.0 { mode = Free }) (seen_and_released_fit_path-counts route now.0 fits).0 (seen_and_released_fit_path-counts route now.0 fits).1) in
          let moded = mode-written p s (occupancy_values p s) shape r now.0 Free now.1 in
          let unlocked = locks-written p freed (occupancy_values p s) (sections_locked_for route) FreeLock shaped (locked-known p route (plant.routes_known r route e)) in
          let unlocked_all = record freed { locks = with_locks s.locks (sections_locked_for route) FreeLock } in
          rw (e, now.1) (two_rules_step p s
          (record freed {
            locks = cond (same_mode now.0.mode Allocating)
                (with_locks s.locks (sections_locked_for route) FreeLock) s.locks;
          })
          (same_mode now.0.mode Marked) (same_mode now.0.mode Allocating)
          (same_mode now.0.mode Marked || same_mode now.0.mode Allocating)
          (rule (mode_is r Marked ∷ []) (set_mode r Free ∷ [])) (rule (mode_is r Allocating ∷ []) (set_mode r Free ∷ set_lock_of_each_section p (sections_locked_for route) FreeLock))
          (and-true (tree_holds (image_of p s) (mode_is r Marked)) ∙ mode-holds p s shape r now.0 Marked now.1)
          (and-true (tree_holds (image_of p s) (mode_is r Allocating)) ∙ mode-holds p s shape r now.0 Allocating now.1)
          refl
          (λ h. by_image p s freed (set_mode r Free ∷ []) moded ∙ ap (λ b. image_of p (record freed { locks = cond b (with_locks s.locks (sections_locked_for route) FreeLock) s.locks })) (sym (not-both now.0.mode h)))
          (λ h.
          by_image p s unlocked_all
          (set_mode r Free ∷ set_lock_of_each_section p (sections_locked_for route) FreeLock)
          (ap (λ values. after_settings values (set_lock_of_each_section p (sections_locked_for route) FreeLock))
          moded ∙ unlocked)
          ∙ ap
          (λ b. image_of p
          (record freed {
            locks = cond b (with_locks s.locks (sections_locked_for route) FreeLock)
                s.locks;
          })) (sym h)))

  sense-guard : (r : ℕ) (route : Route) (now : RouteState) (k x : ℕ) → slice_get s.routes r ≡ Some now →
      x < length p.sections →
      guard_holds_in_image p s (sense_rule_at_index p r route k x)
      ≡
      ((now.seen == k)
      &&
      (((same_mode now.mode Locked || same_mode now.mode Occupied) && is_occupied s x)
      && has_lock_state s x LockedLock))
  sense-guard r route now k x here inside =
      let locked = mode-holds p s shape r now Locked here in
      let occupied = mode-holds p s shape r now Occupied here in
      let seen = seen-holds p s shape r now k here in
      let vacant = vacant-holds p s shape calm x inside in
      let lock = lock-holds p s shape x LockedLock inside in
      rw (locked, occupied, seen, vacant, lock) (shuffle (same_mode now.mode Locked) (same_mode now.mode Occupied) (now.seen == k) (is_occupied s x) (has_lock_state s x LockedLock))
    where
      shuffle : (a b c d e : Bool) → ((a || (b || false)) && (c && (not (not d) && (e && true)))) ≡ (c && (((a || b) && d) && e))
      shuffle true b true true true = refl
      shuffle true b true true false = refl
      shuffle true b true false e = refl
      shuffle true b false d e = refl
      shuffle false true true true true = refl
      shuffle false true true true false = refl
      shuffle false true true false e = refl
      shuffle false true false d e = refl
      shuffle false false true d e = refl
      shuffle false false false d e = refl

  sense-other : (r : ℕ) (route : Route) (now : RouteState) (k x : ℕ) → slice_get s.routes r ≡ Some now → (now.seen ≡ k → ⊥) → guard_holds_in_image p s (sense_rule_at_index p r route k x) ≡ false
  sense-other r route now k x here apart =
      let seen = seen-holds p s shape r now k here in
      let nay : (now.seen == k) ≡ false = ne_eqb now.seen k apart in
      rw (seen, nay) (fails (tree_holds (image_of p s) (any_of (trees_from_list (mode_is r Locked ∷ mode_is r Occupied ∷ [])))))
    where
      fails : (a : Bool) → (a && false) ≡ false
      fails true = refl
      fails false = refl

  sense-sets : (r : ℕ) (route : Route) (now : RouteState) (x : ℕ) → slice_get p.routes r ≡ Some route →
      slice_get s.routes r ≡ Some now → slice_get route.path now.seen ≡ Some x → x < length p.sections →
      after_settings (image_with s (occupancy_values p s)) (sense_rule_at_index p r route now.seen x).sets
      ≡ image_with
      (record s {
        routes = set s.routes r (record now { mode = Occupied; seen = now.seen + 1 });
        locks = set s.locks x UsedLock;
        boards = (cond (now.seen == 0) (set s.boards route.source Closed) s.boards);
      })
      (occupancy_values p s)
  sense-sets r route now x known here at inside =
      let e = occupancy_values p s in
      let fits = seen_and_released_fit_path-counts route now (shape.counts r route now known here) in
      let less = slice_get_within route.path now.seen x at in
      let count = shape.routes in
      let within = slice_get_within s.routes r now here in
      let s1 = record s { locks = set s.locks x UsedLock } in
      let shape1 = with_lists p s s.points s.boards (set s.locks x UsedLock) shape refl refl (length-set s.locks x UsedLock) in
      let now2 = record now { seen = now.seen + 1 } in
      let s2 = record s1 { routes = set s.routes r now2 } in
      let shape2 : HasShape p s2 = with_route p s1 r route now2 shape1 known (seen_and_released_fit_path-from_counts route now2 (omega arith) fits.1) in
      let now3 = record now2 { mode = Occupied } in
      let s3 = record s1 { routes = set s.routes r now3 } in
      let shape3 : HasShape p s3 = with_route p s1 r route now3 shape1 known (seen_and_released_fit_path-from_counts route now3 (omega arith) fits.1) in
      let one = lock-written p s e shape x UsedLock inside in
      let two = seen-written p s1 e shape1 r now (now.seen + 1) here in
      let three = mode-written p s2 e shape2 r now2 Occupied (slice_get-set_same s.routes r now2 within) ∙ ap (λ routes. image_with (record s1 { routes = routes }) e) (set-set s.routes r now2 now3) in
      let rest = cond (now.seen == 0) (set_board_aspect p route.source Closed ∷ []) [] in
      ap (λ values. after_settings (set (set values (seen_count_var r) (now.seen + 1)) (mode_var r) 4) rest) one
      ∙ ap (λ values. after_settings (set values (mode_var r) 4) rest) two
      ∙ ap (λ values. after_settings values rest) three
      ∙ last s3 shape3 (now.seen == 0)
    where
      last : (s3 : State) → HasShape p s3 → (b : Bool) →
          after_settings (image_with s3 (occupancy_values p s))
          (cond b (set_board_aspect p route.source Closed ∷ []) [])
          ≡ image_with (record s3 { boards = cond b (set s3.boards route.source Closed) s3.boards })
          (occupancy_values p s)
      last s3 shape3 true = board-written p s3 (occupancy_values p s) shape3 route.source Closed (plant.routes_known r route known).source
      last s3 shape3 false = refl

  pub sense-steps : (r : ℕ) → RulesMatchEvent p s (after_sense p s r) (rules_of_sense p r)
  sense-steps r = by_route (slice_get p.routes r) refl
    where
      by_route : (o : Option Route) → slice_get p.routes r ≡ o → RulesMatchEvent p s (after_sense p s r) (rules_of_sense p r)
      by_route None e = rw e (no_rules p s)
      by_route (Some route) e =
          let now = state-of r route e in
          rw (e, now.1) (place_steps p s (sense_rule_at_index p r route) route.path now.0.seen
          (λ x. ((same_mode now.0.mode Locked || same_mode now.0.mode Occupied) && is_occupied s x) && has_lock_state s x LockedLock)
          (sensed now.0)
          (λ k x apart. sense-other r route now.0 k x now.1 apart)
          (λ x at. sense-guard r route now.0 now.0.seen x now.1 (inside now.0.seen x at)
          ∙ ap
          (λ b. b
          &&
          (((same_mode now.0.mode Locked || same_mode now.0.mode Occupied)
          && is_occupied s x)
          && has_lock_state s x LockedLock))
          (eq-eqb now.0.seen now.0.seen refl))
          (λ x at. by_image p s (sensed now.0 x) (sense_rule_at_index p r route now.0.seen x).sets (sense-sets r route now.0 x e now.1 at (inside now.0.seen x at))))
        where
          sensed : RouteState → ℕ → State
          sensed now x = record s { routes = set s.routes r (record now { mode = Occupied; seen = now.seen + 1 }); locks = set s.locks x UsedLock; boards = (cond (now.seen == 0) (set s.boards route.source Closed) s.boards) }

          inside : (i x : ℕ) → slice_get route.path i ≡ Some x → x < length p.sections
          inside i x at = all-at (λ x. x < length p.sections) route.path i x (plant.routes_known r route e).path at
