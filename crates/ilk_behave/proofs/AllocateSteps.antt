-- The steps of allocate and lock.
use Rattle.std.proofs.Common.{◌≡◌, ℕ, ◌<◌, Bool, true, false, not, ◌&&◌, ◌||◌, Option, Some, None, List, [], ◌∷◌, ◌++◌, length, map, set, slice_get, refl, sym, ◌∙◌, ap, arith}
use Rattle.std.specs.List.{flat_map, list_all, list_any, range_with_len}
use Rattle.std.proofs.lemmas.List.Folds.{list_all-append, list_all-map}
use Rattle.std.proofs.Math.Bool.{and-true}
use Rattle.ilk_base.specs.Option.{is_some_and}
use Rattle.ilk_base.proofs.Lists.{item_at}
use Rattle.ilk_base.proofs.Ranges.{passing_within}
use Rattle.ilk_ir.specs.Tree.{Tree, negation, tree_holds}
use Rattle.ilk_ir.specs.System.{after_settings}
use Rattle.ilk_ir.specs.declared.system.Setting.{Setting}
use Rattle.ilk_ir.proofs.Trees.{all_of-holds}
use Rattle.ilk_plant.specs.Plant.{IsPlant, PlantLists, point_number}
use Rattle.ilk_plant.specs.Shape.{HasShape}
use Rattle.ilk_plant.specs.State.{has_lock_state, is_unlocked_and_vacant, is_occupied, detected_position_in_state}
use Rattle.ilk_plant.specs.TableRules.{sections_locked_for}
use Rattle.ilk_plant.specs.declared.network.Position.{Position}
use Rattle.ilk_plant.specs.declared.state.Aspect.TheVariants.{Closed, Open}
use Rattle.ilk_plant.specs.declared.state.Hold.TheVariants.{Free as FreeLock, Locked as LockedLock}
use Rattle.ilk_plant.specs.declared.state.Mode.TheVariants.{Marked, Allocating, Locked}
use Rattle.ilk_plant.specs.declared.state.RouteState.{RouteState}
use Rattle.ilk_plant.specs.declared.state.State.{State}
use Rattle.ilk_plant.specs.declared.table.Route.{Route}
use Rattle.ilk_plant.proofs.PointNumbers.{point_number-below}
use Rattle.ilk_plant.proofs.Shapes.{seen_and_released_fit_path-counts, seen_and_released_fit_path-from_counts}
use Rattle.ilk_model.specs.Hazard.{hazard}
use Rattle.ilk_routes.specs.Boards.{has_aspect, is_protecting_locked_route, is_protecting_board}
use Rattle.ilk_routes.specs.Claims.{required_points}
use Rattle.ilk_routes.specs.Lies.{lie_from_position, is_point_detected_as_listed, is_lie_at_position, with_commands}
use Rattle.ilk_routes.specs.Locks.{with_locks}
use Rattle.ilk_routes.specs.Modes.{has_mode, is_allocating_or_locked, same_mode}
use Rattle.ilk_routes.specs.Routes.{after_allocate, after_lock, can_allocate_if_marked, can_lock_if_allocating}
use Rattle.ilk_routes.proofs.Locks.{length-with_locks}
use Rattle.ilk_layout.specs.Image.{image_of, occupancy_values}
use Rattle.ilk_layout.specs.Variables.{board_var}
use Rattle.ilk_layout.proofs.Writes.{board-written, image_with, mode-written}
use Rattle.ilk_layout.specs.Conditions.{is_board_aspect, section_point_is_detected, is_listed_point_detected, mode_is}
use Rattle.ilk_behave.specs.Guards.{free_and_vacant_at, neither_allocating_nor_locked}
use Rattle.ilk_behave.specs.RouteRules.{routes_protected_by, rules_of_allocate, rules_of_lock}
use Rattle.ilk_behave.specs.Settings.{set_board_aspect, command_listed_point, set_lock_of_each_section, set_mode, rule}
use Rattle.ilk_behave.specs.Steps.{RulesMatchEvent}
use Rattle.ilk_behave.proofs.RouteSteps.{locked-known, state-of}
use Rattle.ilk_base.proofs.ListTests.{all-at, filtered-none, list_all-alike, list_all-flat_map, list_all-not}
use Rattle.ilk_behave.proofs.Tools.{no_rules, rule_step}
use Rattle.ilk_layout.proofs.ConditionValues.{at-holds, board-holds, has_mode-holds, lies-test, lock-holds, mode-holds, vacant-holds}
use Rattle.ilk_behave.proofs.Writing.{by_image, command_listed_point-lies, commands-written, locks-written, same-occupancies, after_settings-append, with_lists, with_route}

module _ (p : PlantLists) (plant : IsPlant p) (s : State) (shape : HasShape p s) (calm : hazard p s ≡ None) where
  pub lie-holds : (x : ℕ) (at : Position) → tree_holds (image_of p s) (section_point_is_detected p x (lie_from_position at)) ≡ is_some_and (detected_position_in_state p s x) (λ lie. is_lie_at_position lie at)
  lie-holds x at = by_number (point_number p x) refl
    where
      by_number : (o : Option ℕ) → point_number p x ≡ o → tree_holds (image_of p s) (section_point_is_detected p x (lie_from_position at)) ≡ is_some_and (detected_position_in_state p s x) (λ lie. is_lie_at_position lie at)
      by_number None e = rw e refl
      by_number (Some n) e =
          let below : n < length s.points = (let known = point_number-below p x in let less = rw e at known in let count = shape.points in omega (arith, less)) in
          let point = item_at s.points n below in
          rw (e, point.1) (at-holds p s shape n point.0 (lie_from_position at) point.1 ∙ lies-test point.0.at at)

  claimed : (q : ℕ) → q < length p.routes → list_all (tree_holds (image_of p s)) (neither_allocating_nor_locked q) ≡ not (is_allocating_or_locked s q)
  claimed q within =
      let allocating = has_mode-holds p s shape q Allocating within in
      let locked = has_mode-holds p s shape q Locked within in
      rw (allocating, locked) (neither (has_mode s q Allocating) (has_mode s q Locked))
    where
      neither : (a b : Bool) → (not a && (not b && true)) ≡ not (a || b)
      neither true b = refl
      neither false true = refl
      neither false false = refl

  cleared : (x : ℕ) → x < length p.sections → list_all (tree_holds (image_of p s)) (free_and_vacant_at p x) ≡ is_unlocked_and_vacant s x
  cleared x within =
      let lock = lock-holds p s shape x FreeLock within in
      let vacant = vacant-holds p s shape calm x within in
      rw (lock, vacant) (ap (λ b. has_lock_state s x FreeLock && b) (and-true (not (is_occupied s x))))

  allocate-guard : (r : ℕ) (route : Route) (now : RouteState) → slice_get p.routes r ≡ Some route →
      slice_get s.routes r ≡ Some now →
      list_all (tree_holds (image_of p s))
      (mode_is r Marked ∷ flat_map neither_allocating_nor_locked route.conflicts
      ++ flat_map (free_and_vacant_at p) (sections_locked_for route))
      ≡ (same_mode now.mode Marked && can_allocate_if_marked s route)
  allocate-guard r route now known here =
      let of = plant.routes_known r route known in
      let conflicts : list_all (tree_holds (image_of p s)) (flat_map neither_allocating_nor_locked route.conflicts) ≡ not (list_any (is_allocating_or_locked s) route.conflicts) =
      list_all-flat_map (tree_holds (image_of p s)) neither_allocating_nor_locked route.conflicts
      ∙ list_all-alike (λ q. list_all (tree_holds (image_of p s)) (neither_allocating_nor_locked q)) (λ q. not (is_allocating_or_locked s q)) route.conflicts
      (λ i q at. claimed q (all-at (λ q. q < length p.routes) route.conflicts i q of.conflicts at))
      ∙ list_all-not (is_allocating_or_locked s) route.conflicts in
      let sections : list_all (tree_holds (image_of p s)) (flat_map (free_and_vacant_at p) (sections_locked_for route)) ≡ list_all (is_unlocked_and_vacant s) (sections_locked_for route) =
      list_all-flat_map (tree_holds (image_of p s)) (free_and_vacant_at p) (sections_locked_for route)
      ∙ list_all-alike (λ x. list_all (tree_holds (image_of p s)) (free_and_vacant_at p x)) (is_unlocked_and_vacant s) (sections_locked_for route) (λ i x at. cleared x (locked-known p route of i x at)) in
      ap (λ b. b && list_all (tree_holds (image_of p s)) (flat_map neither_allocating_nor_locked route.conflicts ++ flat_map (free_and_vacant_at p) (sections_locked_for route))) (mode-holds p s shape r now Marked here)
      ∙ ap (λ b. same_mode now.mode Marked && b) (list_all-append (tree_holds (image_of p s)) (flat_map neither_allocating_nor_locked route.conflicts) (flat_map (free_and_vacant_at p) (sections_locked_for route)))
      ∙ ap (λ b. same_mode now.mode Marked && (b && list_all (tree_holds (image_of p s)) (flat_map (free_and_vacant_at p) (sections_locked_for route)))) conflicts
      ∙ ap (λ b. same_mode now.mode Marked && (not (list_any (is_allocating_or_locked s) route.conflicts) && b)) sections

  allocate-sets : (r : ℕ) (route : Route) (now : RouteState) → slice_get p.routes r ≡ Some route →
      slice_get s.routes r ≡ Some now →
      after_settings (image_with s (occupancy_values p s))
      (set_mode r Allocating ∷ set_lock_of_each_section p (sections_locked_for route) LockedLock
      ++ flat_map (command_listed_point p) (required_points route))
      ≡ image_with
      (record s {
        routes = set s.routes r (record now { mode = Allocating });
        locks = with_locks s.locks (sections_locked_for route) LockedLock;
        points = with_commands p s.points (required_points route);
      })
      (occupancy_values p
      (record s {
        routes = set s.routes r (record now { mode = Allocating });
        locks = with_locks s.locks (sections_locked_for route) LockedLock;
        points = with_commands p s.points (required_points route);
      }))
  allocate-sets r route now known here =
      let e = occupancy_values p s in
      let of = plant.routes_known r route known in
      let counts = seen_and_released_fit_path-counts route now (shape.counts r route now known here) in
      let now1 = record now { mode = Allocating } in
      let s1 = record s { routes = set s.routes r now1 } in
      let shape1 : HasShape p s1 = with_route p s r route now1 shape known (seen_and_released_fit_path-from_counts route now1 counts.0 counts.1) in
      let locks = with_locks s.locks (sections_locked_for route) LockedLock in
      let s2 = record s1 { locks = locks } in
      let shape2 : HasShape p s2 = with_lists p s1 s.points s.boards locks shape1 refl refl (length-with_locks s.locks (sections_locked_for route) LockedLock) in
      let points = with_commands p s.points (required_points route) in
      after_settings-append (image_with s e) (set_mode r Allocating ∷ set_lock_of_each_section p (sections_locked_for route) LockedLock) (flat_map (command_listed_point p) (required_points route))
      ∙ ap (λ values. after_settings (after_settings values (set_lock_of_each_section p (sections_locked_for route) LockedLock)) (flat_map (command_listed_point p) (required_points route))) (mode-written p s e shape r now Allocating here)
      ∙ ap (λ values. after_settings values (flat_map (command_listed_point p) (required_points route))) (locks-written p s1 e (sections_locked_for route) LockedLock shape1 (locked-known p route of))
      ∙ commands-written p s2 e (required_points route) shape2
      ∙ ap (image_with (record s2 { points = points })) (sym (same-occupancies p s (set s.routes r now1) points s.boards locks (command_listed_point-lies p s (required_points route))))

  pub allocate-steps : (r : ℕ) → RulesMatchEvent p s (after_allocate p s r) (rules_of_allocate p r)
  allocate-steps r = by_route (slice_get p.routes r) refl
    where
      by_route : (o : Option Route) → slice_get p.routes r ≡ o → RulesMatchEvent p s (after_allocate p s r) (rules_of_allocate p r)
      by_route None e = rw e (no_rules p s)
      by_route (Some route) e =
          let now = state-of p plant s shape calm r route e in
          let allocated = record s { routes = set s.routes r (record now.0 { mode = Allocating }); locks = with_locks s.locks (sections_locked_for route) LockedLock; points = with_commands p s.points (required_points route) } in
          let conditions : List Tree = mode_is r Marked ∷ flat_map neither_allocating_nor_locked route.conflicts ++ flat_map (free_and_vacant_at p) (sections_locked_for route) in
          let sets : List Setting = set_mode r Allocating ∷ set_lock_of_each_section p (sections_locked_for route) LockedLock ++ flat_map (command_listed_point p) (required_points route) in
          rw (e, now.1) (rule_step p s allocated (same_mode now.0.mode Marked && can_allocate_if_marked s route) (rule conditions sets)
          (all_of-holds (image_of p s) conditions ∙ allocate-guard r route now.0 e now.1)
          (λ h. by_image p s allocated sets (allocate-sets r route now.0 e now.1)))

  lock-guard : (r : ℕ) (route : Route) (now : RouteState) → slice_get p.routes r ≡ Some route →
      slice_get s.routes r ≡ Some now →
      list_all (tree_holds (image_of p s))
      (mode_is r Allocating
      ∷
      ((map (is_listed_point_detected p) (required_points route)
      ++ map (λ m. is_board_aspect p m Closed) route.protecting_boards)
      ++ map (λ q. negation (mode_is q Locked)) (routes_protected_by p route.source)))
      ≡ (same_mode now.mode Allocating && can_lock_if_allocating p s route)
  lock-guard r route now known here =
      let of = plant.routes_known r route known in
      let holds = tree_holds (image_of p s) in
      let lies : list_all holds (map (is_listed_point_detected p) (required_points route)) ≡ list_all (is_point_detected_as_listed p s) (required_points route) =
      list_all-map holds (is_listed_point_detected p) (required_points route) ∙ list_all-alike (λ listed. holds (is_listed_point_detected p listed)) (is_point_detected_as_listed p s) (required_points route) (λ i listed at. lie-holds listed.point
      listed.at) in
      let boards : list_all holds (map (λ m. is_board_aspect p m Closed) route.protecting_boards) ≡ list_all (λ m. has_aspect s m Closed) route.protecting_boards =
      list_all-map holds (λ m. is_board_aspect p m Closed) route.protecting_boards
      ∙ list_all-alike (λ m. holds (is_board_aspect p m Closed)) (λ m. has_aspect s m Closed)
      route.protecting_boards
      (λ i m at. board-holds p s shape m Closed
      (all-at (λ m. m < length p.boards) route.protecting_boards i m of.protecting_boards at)) in
      let free : list_all holds (map (λ q. negation (mode_is q Locked)) (routes_protected_by p route.source)) ≡ not (is_protecting_locked_route p s route.source) =
      list_all-map holds (λ q. negation (mode_is q Locked)) (routes_protected_by p route.source)
      ∙ list_all-alike (λ q. not (holds (mode_is q Locked))) (λ q. not (has_mode s q Locked))
      (routes_protected_by p route.source)
      (λ i q at. ap not
      (has_mode-holds p s shape q Locked
      (let less = passing_within (λ q. is_protecting_board p q route.source) 0 (length p.routes) i q at
      in
      omega (arith, less))))
      ∙ filtered-none (λ q. has_mode s q Locked) (λ q. is_protecting_board p q route.source) (range_with_len 0 (length p.routes)) in
      let first =
      list_all-append holds (map (is_listed_point_detected p) (required_points route))
      (map (λ m. is_board_aspect p m Closed) route.protecting_boards)
      ∙ ap (λ b. b && list_all holds (map (λ m. is_board_aspect p m Closed) route.protecting_boards)) lies
      ∙ ap (λ b. list_all (is_point_detected_as_listed p s) (required_points route) && b) boards in
      let parts = list_all-append holds (map (is_listed_point_detected p) (required_points route) ++ map (λ m. is_board_aspect p m Closed) route.protecting_boards) (map (λ q. negation (mode_is q Locked)) (routes_protected_by p route.source)) in
      ap
      (λ b. b
      && list_all holds
      ((map (is_listed_point_detected p) (required_points route)
      ++ map (λ m. is_board_aspect p m Closed) route.protecting_boards)
      ++ map (λ q. negation (mode_is q Locked)) (routes_protected_by p route.source)))
      (mode-holds p s shape r now Allocating here)
      ∙ ap (λ b. same_mode now.mode Allocating && b)
      (parts
      ∙ ap
      (λ b. b
      && list_all holds (map (λ q. negation (mode_is q Locked)) (routes_protected_by p route.source)))
      first
      ∙ ap
      (λ b.
      (list_all (is_point_detected_as_listed p s) (required_points route)
      && list_all (λ m. has_aspect s m Closed) route.protecting_boards) && b) free)

  lock-sets : (r : ℕ) (route : Route) (now : RouteState) → slice_get p.routes r ≡ Some route →
      slice_get s.routes r ≡ Some now →
      after_settings (image_with s (occupancy_values p s))
      (set_mode r Locked ∷ set_board_aspect p route.source Open ∷ [])
      ≡ image_with
      (record s {
        routes = set s.routes r (record now { mode = Locked });
        boards = set s.boards route.source Open;
      })
      (occupancy_values p s)
  lock-sets r route now known here =
      let e = occupancy_values p s in
      let counts = seen_and_released_fit_path-counts route now (shape.counts r route now known here) in
      let now1 = record now { mode = Locked } in
      let s1 = record s { routes = set s.routes r now1 } in
      let shape1 : HasShape p s1 = with_route p s r route now1 shape known (seen_and_released_fit_path-from_counts route now1 counts.0 counts.1) in
      ap (λ values. set values (board_var p route.source) 0) (mode-written p s e shape r now Locked here)
      ∙ board-written p s1 e shape1 route.source Open (plant.routes_known r route known).source

  pub lock-steps : (r : ℕ) → RulesMatchEvent p s (after_lock p s r) (rules_of_lock p r)
  lock-steps r = by_route (slice_get p.routes r) refl
    where
      by_route : (o : Option Route) → slice_get p.routes r ≡ o → RulesMatchEvent p s (after_lock p s r) (rules_of_lock p r)
      by_route None e = rw e (no_rules p s)
      by_route (Some route) e =
          let now = state-of p plant s shape calm r route e in
          let locked = record s { routes = set s.routes r (record now.0 { mode = Locked }); boards = set s.boards route.source Open } in
          let conditions : List Tree = mode_is r Allocating ∷
          ((map (is_listed_point_detected p) (required_points route) ++ map (λ m. is_board_aspect p m Closed) route.protecting_boards) ++ map (λ q. negation (mode_is q Locked)) (routes_protected_by p route.source)) in
          let sets : List Setting = set_mode r Locked ∷ set_board_aspect p route.source Open ∷ [] in
          rw (e, now.1) (rule_step p s locked (same_mode now.0.mode Allocating && can_lock_if_allocating p s route) (rule conditions sets)
          (all_of-holds (image_of p s) conditions ∙ lock-guard r route now.0 e now.1)
          (λ h. by_image p s locked sets (lock-sets r route now.0 e now.1)))
