-- The rules of the events of routes are valid over the ranges of the plant.
use Rattle.std.proofs.Common.{◌≡◌, ℕ, zero, suc, ◌<◌, true, Option, Some, None, List, [], ◌∷◌, ◌++◌, length, map, slice_get, refl, ap, arith}
use Rattle.std.specs.List.{flat_map, list_all}
use Rattle.std.proofs.lemmas.Option.{same_Some, slice_get_within}
use Rattle.ilk_base.proofs.ListTests.{all-at}
use Rattle.ilk_base.proofs.Lists.{map-at}
use Rattle.ilk_base.proofs.Ranges.{passing_within}
use Rattle.ilk_ir.specs.Tree.{Tree, negation}
use Rattle.ilk_ir.specs.declared.system.Setting.{Setting}
use Rattle.ilk_plant.specs.Plant.{IsPlant, PlantLists}
use Rattle.ilk_plant.specs.TableRules.{sections_locked_for}
use Rattle.ilk_plant.specs.declared.state.Aspect.TheVariants.{Closed, Open}
use Rattle.ilk_plant.specs.declared.state.Hold.TheVariants.{Free as FreeLock, Locked as LockedLock}
use Rattle.ilk_plant.specs.declared.state.Mode.TheVariants.{Free, Marked, Allocating, Locked}
use Rattle.ilk_plant.specs.declared.table.Route.{Route}
use Rattle.ilk_routes.specs.Boards.{is_protecting_board}
use Rattle.ilk_routes.specs.Claims.{required_points}
use Rattle.ilk_layout.specs.Variables.{lock_var, mode_var}
use Rattle.ilk_layout.specs.Conditions.{is_board_aspect, is_listed_point_detected, lock_is, mode_is, no_train_at}
use Rattle.ilk_layout.proofs.Valid.{is_board_aspect-valid, is_listed_point_detected-valid, lock_is-valid, mode_is-valid, no_train_at-valid}
use Rattle.ilk_behave.specs.Guards.{free_and_vacant_at, neither_allocating_nor_locked}
use Rattle.ilk_behave.specs.RouteRules.{routes_protected_by, rules_of_allocate, rules_of_cancel, rules_of_lock, rules_of_mark}
use Rattle.ilk_behave.specs.Settings.{set_board_aspect, command_listed_point, set_section_lock, set_lock_of_each_section, set_mode, rule}
use Rattle.ilk_behave.proofs.LocksOnce.{all_locks-once, commands-elsewhere, commands-fit, locks-elsewhere, locks-fit, wanted-once}
use Rattle.ilk_behave.proofs.RouteSteps.{locked-known}
use Rattle.ilk_behave.proofs.RulesValid.{all-append, all-cons, all-flat_map, all-map, fits, is_valid, is_valid_rule, one_rule-valid, rule-valid, two_rules-valid}
use Rattle.ilk_behave.proofs.SetOnce.{SetElsewhere, once-append}

module _ (p : PlantLists) (plant : IsPlant p) where
  pub mark-valid : (r : ℕ) → list_all (is_valid_rule p) (rules_of_mark p r) ≡ true
  mark-valid r = by_route (slice_get p.routes r) refl
    where
      by_route : (o : Option Route) → slice_get p.routes r ≡ o → list_all (is_valid_rule p) (rules_of_mark p r) ≡ true
      by_route None e = rw e refl
      by_route (Some route) e =
          let within = slice_get_within p.routes r route e in
          let conditions : List Tree = mode_is r Free ∷ [] in
          let sets : List Setting = set_mode r Marked ∷ [] in
          rw e (one_rule-valid p (rule conditions sets) (rule-valid p conditions sets
          (all-cons (is_valid p) (mode_is r Free) [] (mode_is-valid p r Free within) refl)
          (all-cons (fits p) (set_mode r Marked) [] (mode_is-valid p r Marked within) refl)
          (tt, tt)))

  freed-fit : (r : ℕ) (route : Route) → slice_get p.routes r ≡ Some route → list_all (fits p) (set_mode r Free ∷ set_lock_of_each_section p (sections_locked_for route) FreeLock) ≡ true
  freed-fit r route e =
      all-cons (fits p) (set_mode r Free) (set_lock_of_each_section p (sections_locked_for route) FreeLock)
      (mode_is-valid p r Free (slice_get_within p.routes r route e))
      (locks-fit p (sections_locked_for route) FreeLock
      (locked-known p route (plant.routes_known r route e)))

  pub cancel-valid : (r : ℕ) → list_all (is_valid_rule p) (rules_of_cancel p r) ≡ true
  cancel-valid r = by_route (slice_get p.routes r) refl
    where
      by_route : (o : Option Route) → slice_get p.routes r ≡ o → list_all (is_valid_rule p) (rules_of_cancel p r) ≡ true
      by_route None e = rw e refl
      by_route (Some route) e =
          let within = slice_get_within p.routes r route e in
          let of = plant.routes_known r route e in
          let marked : List Tree = mode_is r Marked ∷ [] in
          let allocating : List Tree = mode_is r Allocating ∷ [] in
          let first : List Setting = set_mode r Free ∷ [] in
          let second : List Setting = set_mode r Free ∷ set_lock_of_each_section p (sections_locked_for route) FreeLock in
          rw e (two_rules-valid p (rule marked first) (rule allocating second)
          (rule-valid p marked first
          (all-cons (is_valid p) (mode_is r Marked) [] (mode_is-valid p r Marked within) refl)
          (all-cons (fits p) (set_mode r Free) [] (mode_is-valid p r Free within) refl)
          (tt, tt))
          (rule-valid p allocating second
          (all-cons (is_valid p) (mode_is r Allocating) [] (mode_is-valid p r Allocating within) refl)
          (freed-fit r route e)
          (locks-elsewhere p (mode_var r) (sections_locked_for route) FreeLock (λ i x at same. omega (arith, within, same)), all_locks-once p route of FreeLock)))

  pub allocate-valid : (r : ℕ) → list_all (is_valid_rule p) (rules_of_allocate p r) ≡ true
  allocate-valid r = by_route (slice_get p.routes r) refl
    where
      by_route : (o : Option Route) → slice_get p.routes r ≡ o → list_all (is_valid_rule p) (rules_of_allocate p r) ≡ true
      by_route None e = rw e refl
      by_route (Some route) e =
          let within = slice_get_within p.routes r route e in
          let of = plant.routes_known r route e in
          let known = locked-known p route of in
          let locks : List Setting = set_lock_of_each_section p (sections_locked_for route) LockedLock in
          let commands : List Setting = flat_map (command_listed_point p) (required_points route) in
          let conditions : List Tree = mode_is r Marked ∷ flat_map neither_allocating_nor_locked route.conflicts ++ flat_map (free_and_vacant_at p) (sections_locked_for route) in
          let sets : List Setting = set_mode r Allocating ∷ set_lock_of_each_section p (sections_locked_for route) LockedLock ++ flat_map (command_listed_point p) (required_points route) in
          rw e (one_rule-valid p (rule conditions sets) (rule-valid p conditions sets
          (all-append (is_valid p) (mode_is r Marked ∷ flat_map neither_allocating_nor_locked route.conflicts) (flat_map (free_and_vacant_at p) (sections_locked_for route))
          (all-cons (is_valid p) (mode_is r Marked) (flat_map neither_allocating_nor_locked route.conflicts) (mode_is-valid p r Marked within)
          (all-flat_map (is_valid p) neither_allocating_nor_locked route.conflicts (λ i q at. unclaimed-valid q (all-at (λ q. q < length p.routes) route.conflicts i q of.conflicts at))))
          (all-flat_map (is_valid p) (free_and_vacant_at p) (sections_locked_for route) (λ i x at. clear-valid x (known i x at))))
          (all-append (fits p) (set_mode r Allocating ∷ locks) commands
          (all-cons (fits p) (set_mode r Allocating) locks (mode_is-valid p r Allocating within) (locks-fit p (sections_locked_for route) LockedLock known))
          (commands-fit p (required_points route)))
          (once-append (set_mode r Allocating ∷ locks) commands
          (locks-elsewhere p (mode_var r) (sections_locked_for route) LockedLock (λ i x at same. omega (arith, within, same)), all_locks-once p route of LockedLock)
          (wanted-once p route of)
          (cross within route))))
        where
          unclaimed-valid : (q : ℕ) → q < length p.routes → list_all (is_valid p) (neither_allocating_nor_locked q) ≡ true
          unclaimed-valid q within =
              all-cons (is_valid p) (negation (mode_is q Allocating)) (negation (mode_is q Locked) ∷ []) (mode_is-valid p q Allocating within) (all-cons (is_valid p) (negation (mode_is q Locked)) [] (mode_is-valid p q Locked within) refl)

          clear-valid : (x : ℕ) → x < length p.sections → list_all (is_valid p) (free_and_vacant_at p x) ≡ true
          clear-valid x inside =
              all-cons (is_valid p) (lock_is p x FreeLock) (no_train_at p x ∷ []) (lock_is-valid p x FreeLock inside) (all-cons (is_valid p) (no_train_at p x) [] (no_train_at-valid p x inside) refl)

          cross : r < length p.routes → (route : Route) → (i : ℕ) (s : Setting) →
              slice_get (set_mode r Allocating ∷ set_lock_of_each_section p (sections_locked_for route) LockedLock) i
              ≡ Some s →
              SetElsewhere s.var (flat_map (command_listed_point p) (required_points route))
          cross within route zero s at =
              commands-elsewhere p s.var (required_points route) (λ n less same. (let var : mode_var r ≡ s.var = ap (λ (z : Setting). z.var) (same_Some (set_mode r Allocating) s at) in omega (arith, within, less, same, var)))
          cross within route (suc i) s at =
              commands-elsewhere p s.var (required_points route) (λ n less same. (
              let made = map-at (λ x. set_section_lock p x LockedLock) (sections_locked_for route) i s at in
              let var : lock_var p made.0 ≡ s.var = ap (λ (z : Setting). z.var) made.2 in
              omega (arith, less, same, var)))

  pub lock-valid : (r : ℕ) → list_all (is_valid_rule p) (rules_of_lock p r) ≡ true
  lock-valid r = by_route (slice_get p.routes r) refl
    where
      by_route : (o : Option Route) → slice_get p.routes r ≡ o → list_all (is_valid_rule p) (rules_of_lock p r) ≡ true
      by_route None e = rw e refl
      by_route (Some route) e =
          let within = slice_get_within p.routes r route e in
          let of = plant.routes_known r route e in
          let lies : List Tree = map (is_listed_point_detected p) (required_points route) in
          let boards : List Tree = map (λ m. is_board_aspect p m Closed) route.protecting_boards in
          let free : List Tree = map (λ q. negation (mode_is q Locked)) (routes_protected_by p route.source) in
          let conditions : List Tree = mode_is r Allocating ∷ ((lies ++ boards) ++ free) in
          let sets : List Setting = set_mode r Locked ∷ set_board_aspect p route.source Open ∷ [] in
          rw e (one_rule-valid p (rule conditions sets) (rule-valid p conditions sets
          (all-cons (is_valid p) (mode_is r Allocating) ((lies ++ boards) ++ free) (mode_is-valid p r Allocating within)
          (all-append (is_valid p) (lies ++ boards) free
          (all-append (is_valid p) lies boards
          (all-map (is_valid p) (is_listed_point_detected p) (required_points route) (λ i listed at. is_listed_point_detected-valid p listed))
          (all-map (is_valid p) (λ m. is_board_aspect p m Closed) route.protecting_boards (λ i m at. is_board_aspect-valid p m Closed (all-at (λ m. m < length p.boards) route.protecting_boards i m of.protecting_boards at))))
          (all-map (is_valid p) (λ q. negation (mode_is q Locked)) (routes_protected_by p route.source)
          (λ i q at. mode_is-valid p q Locked (let less = passing_within (λ q. is_protecting_board p q route.source) 0 (length p.routes) i q at in omega (arith, less))))))
          (all-cons (fits p) (set_mode r Locked) (set_board_aspect p route.source Open ∷ []) (mode_is-valid p r Locked within)
          (all-cons (fits p) (set_board_aspect p route.source Open) [] (is_board_aspect-valid p route.source Open of.source) refl))
          (((λ same. omega (arith, within, same)), tt), (tt, tt))))
