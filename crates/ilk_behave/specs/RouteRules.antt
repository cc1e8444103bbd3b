-- The rules of the seven events of routes.
use Rattle.std.specs.Prelude.{ℕ, ◌+◌, ◌-◌, List, [], ◌∷◌, ◌++◌, ◌==◌, length, map, filter, flat_map, slice_get, if◌then◌else◌}
use Rattle.std.specs.List.{enumerate_from, range_with_len}
use Rattle.ilk_ir.specs.System.{PlainRule}
use Rattle.ilk_ir.specs.Tree.{Tree, any_of, negation, trees_from_list}
use Rattle.ilk_plant.specs.ColumnRules.{all_but_last}
use Rattle.ilk_plant.specs.Plant.{PlantLists}
use Rattle.ilk_plant.specs.TableRules.{sections_locked_for}
use Rattle.ilk_plant.specs.declared.state.Aspect.TheVariants.{Closed, Open}
use Rattle.ilk_plant.specs.declared.state.Hold.TheVariants.{Free as FreeLock, Locked as LockedLock, Used as UsedLock}
use Rattle.ilk_plant.specs.declared.state.Mode.TheVariants.{Free, Marked, Allocating, Locked, Occupied}
use Rattle.ilk_plant.specs.declared.table.Route.{Route}
use Rattle.ilk_routes.specs.Boards.{is_protecting_board}
use Rattle.ilk_routes.specs.Claims.{sections_outside_path, required_points}
use Rattle.ilk_layout.specs.Conditions.{is_board_aspect, is_listed_point_detected, lock_is, mode_is, train_at, is_released_count, is_seen_count, no_train_at}
use Rattle.ilk_behave.specs.Guards.{free_and_vacant_at, neither_allocating_nor_locked}
use Rattle.ilk_behave.specs.Settings.{set_board_aspect, command_listed_point, set_section_lock, set_lock_of_each_section, set_mode, set_released_count, rule, map_or_no_rules, set_seen_count}
use Rattle.ilk_plant.specs.Network.{last_of}

-- The rule of `mark r`: if route `r` is Free, it becomes Marked.
abbrev pub rules_of_mark : PlantLists → ℕ → List PlainRule
rules_of_mark p r = map_or_no_rules (slice_get p.routes r) (λ route. rule (mode_is r Free ∷ []) (set_mode r Marked ∷ []) ∷ [])

-- The rule of `allocate r`. It requires that route `r` is Marked and no conflicting route is
-- Allocating or Locked. Each section of path, overlap and protecting points must have lock Free and
-- be vacant. Then `r` becomes Allocating, those locks become Locked, and the listed and protecting
-- points are commanded.
abbrev pub rules_of_allocate : PlantLists → ℕ → List PlainRule
rules_of_allocate p r =
    map_or_no_rules (slice_get p.routes r) (λ route.
    rule (mode_is r Marked ∷ flat_map neither_allocating_nor_locked route.conflicts ++ flat_map (free_and_vacant_at p) (sections_locked_for route))
    (set_mode r Allocating
    ∷ set_lock_of_each_section p (sections_locked_for route) LockedLock
    ++ flat_map (command_listed_point p) (required_points route))
    ∷ [])

-- The numbers of the routes that list board `m` as a protecting board.
abbrev pub routes_protected_by : PlantLists → ℕ → List ℕ
routes_protected_by p m = filter (λ q. is_protecting_board p q m) (range_with_len 0 (length p.routes))

-- The rule of `lock r`. It requires that route `r` is Allocating, its points are in position, and
-- its protecting boards are Closed. No Locked route may have its source as a protecting board. Then
-- `r` becomes Locked and its source board Open.
abbrev pub rules_of_lock : PlantLists → ℕ → List PlainRule
rules_of_lock p r =
    map_or_no_rules (slice_get p.routes r) (λ route.
    rule (mode_is r Allocating
    ∷ map (is_listed_point_detected p) (required_points route)
    ++ map (λ m. is_board_aspect p m Closed) route.protecting_boards
    ++ map (λ q. negation (mode_is q Locked)) (routes_protected_by p route.source))
    (set_mode r Locked ∷ set_board_aspect p route.source Open ∷ [])
    ∷ [])

-- The rule of `sense r` for the case that trains have entered `k` path sections and the next one is
-- `x`. It requires that route `r` is Locked or Occupied, and that `x` is occupied and has lock
-- Locked. Then this lock becomes Used, the count `k + 1`, and `r` Occupied. With the first section,
-- the source board closes.
abbrev pub sense_rule_at_index : PlantLists → ℕ → Route → ℕ → ℕ → PlainRule
sense_rule_at_index p r route k x =
    rule (any_of (trees_from_list (mode_is r Locked ∷ mode_is r Occupied ∷ []))
    ∷ is_seen_count r k
    ∷ train_at p x
    ∷ lock_is p x LockedLock
    ∷ [])
    (set_section_lock p x UsedLock
    ∷ set_seen_count r (k + 1)
    ∷ set_mode r Occupied
    ∷ (if k == 0 then set_board_aspect p route.source Closed ∷ [] else []))

-- The rules of `sense r`: one for each section of the path.
abbrev pub rules_of_sense : PlantLists → ℕ → List PlainRule
rules_of_sense p r =
    map_or_no_rules (slice_get p.routes r) (λ route. map (λ place. sense_rule_at_index p r route place.0 place.1) (enumerate_from 0 route.path))

-- The condition that trains have entered at least `k` of the `n` path sections of route `r`.
abbrev pub seen_at_least : ℕ → ℕ → ℕ → Tree
seen_at_least r k n = any_of (trees_from_list (map (is_seen_count r) (range_with_len k (n + 1 - k))))

-- The rule of `release r` for the case that `k` path sections are released and the next one is `x`.
-- It requires that route `r` is Occupied, trains have entered at least `k + 2` path sections, and
-- `x` is vacant and has lock Used. Then this lock becomes Free and `k + 1` sections are released.
abbrev pub release_rule_at_index : PlantLists → ℕ → Route → ℕ → ℕ → PlainRule
release_rule_at_index p r route k x =
    rule (mode_is r Occupied
    ∷ is_released_count r k
    ∷ seen_at_least r (k + 2) (length route.path)
    ∷ no_train_at p x
    ∷ lock_is p x UsedLock
    ∷ [])
    (set_section_lock p x FreeLock ∷ set_released_count r (k + 1) ∷ [])

-- The rules of `release r`: one for each section of the path except the last.
abbrev pub rules_of_release : PlantLists → ℕ → List PlainRule
rules_of_release p r =
    map_or_no_rules (slice_get p.routes r) (λ route.
    map (λ place. release_rule_at_index p r route place.0 place.1) (enumerate_from 0 (all_but_last route.path)))

-- The rule of `finish r`, if `x` is the last path section. It requires that route `r` is Occupied,
-- trains have entered the whole path, and all of it except `x` is released. Then the locks of `x`,
-- the overlap and the protecting points become Free, both counts 0, and `r` Free.
abbrev pub finish_rule : PlantLists → ℕ → Route → ℕ → PlainRule
finish_rule p r route x =
    rule (mode_is r Occupied ∷ is_seen_count r (length route.path) ∷ is_released_count r (length route.path - 1) ∷ [])
    (set_lock_of_each_section p (x ∷ sections_outside_path route) FreeLock
    ++ set_mode r Free
    ∷ set_seen_count r 0
    ∷ set_released_count r 0
    ∷ [])

abbrev pub rules_of_finish : PlantLists → ℕ → List PlainRule
rules_of_finish p r =
    map_or_no_rules (slice_get p.routes r) (λ route. map_or_no_rules (last_of route.path) (λ x. finish_rule p r route x ∷ []))

-- The rules of `cancel r`: a Marked route becomes Free. An Allocating route also becomes Free, and
-- so do the locks of its path, overlap and protecting points.
abbrev pub rules_of_cancel : PlantLists → ℕ → List PlainRule
rules_of_cancel p r =
    map_or_no_rules (slice_get p.routes r) (λ route.
    rule (mode_is r Marked ∷ []) (set_mode r Free ∷ [])
    ∷ rule (mode_is r Allocating ∷ []) (set_mode r Free ∷ set_lock_of_each_section p (sections_locked_for route) FreeLock)
    ∷ [])
