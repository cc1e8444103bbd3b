-- Families V2 and V3, about held sections and their locks, as conditions on the values of a plant's
-- variables.
use Rattle.std.specs.Prelude.{ℕ, zero, suc, ◌+◌, ◌/◌, Bool, List, [], ◌∷◌, ◌++◌, drop, filter, flat_map, if◌then◌else◌, length, map, nat_le, slice_get, take}
use Rattle.std.specs.List.{enumerate_from, range_with_len}
use Rattle.ilk_base.specs.Option.{is_some_and}
use Rattle.ilk_ir.specs.Tree.{Tree, negation}
use Rattle.ilk_plant.specs.Network.{contains_section}
use Rattle.ilk_plant.specs.Plant.{PlantLists}
use Rattle.ilk_plant.specs.TableRules.{sections_locked_for}
use Rattle.ilk_plant.specs.declared.state.Hold.TheVariants.{Locked as LockedLock, Used as UsedLock}
use Rattle.ilk_plant.specs.declared.table.Route.{Route}
use Rattle.ilk_routes.specs.Claims.{sections_outside_path}
use Rattle.ilk_layout.specs.Conditions.{lock_is}
use Rattle.ilk_invs.specs.declared.hold_family.TheConstants.{MAX_ORDERED_HOLDERS}
use Rattle.ilk_invs.specs.Held.{path_section_held, section_held_by, mode_holds_sections, is_seen_count_below}
use Rattle.ilk_invs.specs.Parts.{conditions_for_optional_value, each_of, conditions_of_each_path_index, conditions_of_each_route, some_of, implication}

-- Returns whether route `r` may hold section `x`: `x` is in its path, overlap or protecting points.
abbrev pub is_possible_holder : PlantLists → ℕ → ℕ → Bool
is_possible_holder p x r = is_some_and (slice_get p.routes r) (λ route. contains_section x (sections_locked_for route))

-- The numbers of the routes that may hold section `x`, in order.
abbrev pub possible_holders : PlantLists → ℕ → List ℕ
possible_holders p x = filter (is_possible_holder p x) (range_with_len 0 (length p.routes))

-- The condition that route `r` holds section `x`, or none if there is no route `r`.
abbrev pub route_holding : PlantLists → ℕ → ℕ → List Tree
route_holding p x r = conditions_for_optional_value (slice_get p.routes r) (λ route. section_held_by r route x ∷ [])

-- The condition that none of these routes holds section `x`.
abbrev pub none_holding : PlantLists → ℕ → List ℕ → Tree
none_holding p x routes = each_of (map negation (flat_map (route_holding p x) routes))

-- The condition that none of the routes `before` holds section `x` if route `r` does.
abbrev pub none_before_if_holding : PlantLists → ℕ → List ℕ → ℕ → Tree
none_before_if_holding p x before r = implication (each_of (route_holding p x r)) (none_holding p x before)

-- For each of these routes from the second on, the condition that none of those before it holds
-- section `x` if it does.
abbrev pub at_most_one_in_order : PlantLists → ℕ → List ℕ → List Tree
at_most_one_in_order p x routes =
    map (λ place. none_before_if_holding p x (take place.0 routes) place.1) (enumerate_from 1 (drop 1 routes))

-- The condition that section `x` is not held both by one of `these` routes and by one of `those`.
abbrev pub not_held_by_both_groups : PlantLists → ℕ → List ℕ → List ℕ → Tree
not_held_by_both_groups p x these those = some_of (none_holding p x these ∷ none_holding p x those ∷ [])

-- The conditions that no two of these routes hold section `x`. Long lists are halved, up to `n`
-- times: then `x` is not held by one route of each half, nor by two of the same half.
abbrev pub at_most_one_by_halves : ℕ → PlantLists → ℕ → List ℕ → List Tree
at_most_one_by_halves zero p x routes = at_most_one_in_order p x routes
at_most_one_by_halves (suc n) p x routes =
    if nat_le (length routes) MAX_ORDERED_HOLDERS then at_most_one_in_order p x routes
    else
    not_held_by_both_groups p x (take (length routes / 2) routes) (drop (length routes / 2) routes)
    ∷ at_most_one_by_halves n p x (take (length routes / 2) routes) ++ at_most_one_by_halves n p x (drop (length routes / 2) routes)

-- Family V2 for section `x`: no two of the routes that may hold it do.
abbrev pub at_most_one_holder : PlantLists → ℕ → List Tree
at_most_one_holder p x = at_most_one_by_halves (length (possible_holders p x)) p x (possible_holders p x)

-- Family V2: no two routes hold the same section.
abbrev pub v2_sections_held_once_tree : PlantLists → Tree
v2_sections_held_once_tree p = each_of (flat_map (at_most_one_holder p) (range_with_len 0 (length p.sections)))

-- The conditions on section `x`, path[`i`] of route `r`, if the route holds it: its lock is Locked
-- if at most `i` sections are seen, otherwise Used.
abbrev pub path_lock_matches_seen : PlantLists → ℕ → ℕ → ℕ → List Tree
path_lock_matches_seen p r i x =
    some_of (negation (path_section_held r i) ∷ negation (is_seen_count_below r (i + 1)) ∷ lock_is p x LockedLock ∷ [])
    ∷ some_of (negation (path_section_held r i) ∷ is_seen_count_below r (i + 1) ∷ lock_is p x UsedLock ∷ [])
    ∷ []

-- Family V3 for route `r`: the sections of its path satisfy `path_lock_matches_seen`. Those in its
-- overlap and protecting points have lock Locked if it holds sections.
abbrev pub held_sections_have_locks : PlantLists → ℕ → Route → List Tree
held_sections_have_locks p r route =
    conditions_of_each_path_index route (path_lock_matches_seen p r)
    ++ map (λ x. implication (mode_holds_sections r) (lock_is p x LockedLock)) (sections_outside_path route)

-- Family V3: a section that a route holds on its path has lock Used if the route has seen it. Every
-- other section that it holds has lock Locked.
abbrev pub v3_locks_match_routes_tree : PlantLists → Tree
v3_locks_match_routes_tree p = each_of (conditions_of_each_route p (held_sections_have_locks p))
