-- The rules C1 to C8 of the columns of the interlocking table. A route has the direction of its
-- source board, on its overlap too.
use Rattle.std.specs.Prelude.{ℕ, Bool, true, false, not, Option, Some, None, List, [], ◌∷◌, ◌&&◌, ◌||◌, ◌==◌, ◌-◌, nat_lt, is_none, length, take, slice_get, flat_map}
use Rattle.std.specs.List.{list_any, list_all}
use Rattle.ilk_base.specs.Option.{is_some_and}
use Rattle.ilk_base.specs.Numbers.{has_number}
use Rattle.ilk_plant.specs.Broken.{broken_below, broken_at_pairs, place_kind_of}
use Rattle.ilk_plant.specs.Network.{contains_section, last_of}
use Rattle.ilk_plant.specs.Plant.{PlantLists, next_to, board_of, inward_direction_if_border, is_point_section}
use Rattle.ilk_plant.specs.Shape.{is_connected_chain}
use Rattle.ilk_plant.specs.TableRules.{place_count_in_plant, nonprotecting_points_of, route_fails, sections_locked_for}
use Rattle.ilk_plant.specs.declared.broken.Broken.{Broken}
use Rattle.ilk_plant.specs.declared.broken.PlaceKind.{PlaceKind}
use Rattle.ilk_plant.specs.declared.broken.PlaceKind.TheVariants.{RoutePairs}
use Rattle.ilk_plant.specs.declared.broken.Rule.{Rule}
use Rattle.ilk_plant.specs.declared.broken.Rule.TheVariants.{C1, C2, C3, C4, C5, C6, C7, C8}
use Rattle.ilk_plant.specs.declared.network.Board.{Board}
use Rattle.ilk_plant.specs.declared.network.Dir.{Dir}
use Rattle.ilk_plant.specs.declared.network.Position.{Position}
use Rattle.ilk_plant.specs.declared.network.Position.TheVariants.{Plus, Minus}
use Rattle.ilk_plant.specs.declared.network.Section.{Section}
use Rattle.ilk_plant.specs.declared.network.Section.TheVariants.{Linear, Point}
use Rattle.ilk_plant.specs.declared.table.Listed.{Listed}
use Rattle.ilk_plant.specs.declared.table.Route.{Route}

-- Returns whether the source board of `route` passes `test`.
abbrev pub source_satisfies : PlantLists → Route → (Board → Bool) → Bool
source_satisfies p route test = is_some_and (slice_get p.boards route.source) test

-- The sections of a path except the last.
abbrev pub all_but_last : List ℕ → List ℕ
all_but_last path = take (length path - 1) path

-- Returns whether a route keeps C1: its path leads on from the source's section, from neighbour to
-- neighbour in the route's direction.
abbrev pub is_path_connected_from_source : PlantLists → Route → Bool
is_path_connected_from_source p route = source_satisfies p route (λ source. is_connected_chain p source.dir source.section route.path)

-- Returns whether a path in direction `d` may end at section `x`. If there is a destination `m`, it
-- is the board of `x` for direction `d`; otherwise `x` has no neighbour in that direction.
abbrev pub ends_at_destination_or_border : PlantLists → Dir → Option ℕ → ℕ → Bool
ends_at_destination_or_border p d (Some m) x = is_some_and (board_of p x d) (λ n. n == m)
ends_at_destination_or_border p d None x = length (next_to p x d) == 0

-- Returns whether section `x` has no board for trains in direction `d`.
abbrev pub has_no_board : PlantLists → Dir → ℕ → Bool
has_no_board p d x = is_none (board_of p x d)

-- Returns whether a path in direction `d` has no board before its last section, and that section
-- has the board `destination`. If there is no destination, that section has no neighbour ahead.
abbrev pub destination_is_first_board : PlantLists → Dir → Option ℕ → List ℕ → Bool
destination_is_first_board p d destination path =
    list_all (has_no_board p d) (all_but_last path) && is_some_and (last_of path) (ends_at_destination_or_border p d destination)

-- Returns whether a route keeps C2: before its last section the path has no board in the route's
-- direction, and there it has the destination. If there is no destination, no section follows the
-- path.
abbrev pub path_destination_is_first_board : PlantLists → Route → Bool
path_destination_is_first_board p route = source_satisfies p route (λ source. destination_is_first_board p source.dir route.destination route.path)

-- Returns whether a section is a point that leads to section `y` in position `at`.
abbrev pub is_leg_at_position : Position → ℕ → Section → Bool
is_leg_at_position at y (Linear down up board_down board_up) = false
is_leg_at_position Plus y (Point stem plus minus faces) = plus == y
is_leg_at_position Minus y (Point stem plus minus faces) = minus == y

-- Returns whether `points` lists section `x` in a position in which its point leads to one of
-- `sections`.
abbrev pub is_listed_towards_any_section : PlantLists → List Listed → List ℕ → ℕ → Bool
is_listed_towards_any_section p points sections x =
    list_any (λ listed. (listed.point == x) && list_any (λ y. is_some_and (slice_get p.sections x) (is_leg_at_position listed.at y)) sections) points

-- Returns whether each point on a path is listed in a position that leads to the section before or
-- after it. Section `before` comes before the path.
abbrev pub points_listed_along_sections : PlantLists → List Listed → ℕ → List ℕ → Bool
points_listed_along_sections p points before [] = true
points_listed_along_sections p points before (x ∷ rest) =
    (not (is_point_section p x) || is_listed_towards_any_section p points (before ∷ take 1 rest) x) && points_listed_along_sections p points x rest

-- Returns whether a route keeps C3. Each point on its path is listed in a position that leads to
-- the section before or after it. Each point on its overlap is listed.
abbrev pub path_and_overlap_points_listed : PlantLists → Route → Bool
path_and_overlap_points_listed p route =
    source_satisfies p route (λ source. points_listed_along_sections p route.points source.section route.path)
    && list_all (λ x. not (is_point_section p x) || contains_section x (nonprotecting_points_of route)) route.overlap

-- Returns whether a route keeps C4: its overlap leads on from the last path section, from neighbour
-- to neighbour in the route's direction.
abbrev pub overlap_is_connected : PlantLists → Route → Bool
overlap_is_connected p route =
    source_satisfies p route (λ source. is_some_and (last_of route.path) (λ x. is_connected_chain p source.dir x route.overlap))

-- Returns whether route `i` lists route `j` as a conflict.
abbrev pub lists_as_conflict : PlantLists → ℕ → ℕ → Bool
lists_as_conflict p i j = is_some_and (slice_get p.routes i) (λ route. has_number j route.conflicts)

-- Returns whether routes `i` and `j` violate C5: `i` lists `j` as a conflict, and `j` doesn't list
-- `i`.
abbrev pub lists_conflict_one_way : PlantLists → ℕ → ℕ → Bool
lists_conflict_one_way p i j = lists_as_conflict p i j && not (lists_as_conflict p j i)

-- Returns whether one of `sections` is in the path, overlap or protecting points of route `i`.
abbrev pub locks_one_of : PlantLists → List ℕ → ℕ → Bool
locks_one_of p sections i =
    is_some_and (slice_get p.routes i) (λ route. list_any (λ x. contains_section x (sections_locked_for route)) sections)

-- Returns whether a section is in the path, overlap or protecting points of both routes `i` and
-- `j`.
abbrev pub share_locked_section : PlantLists → ℕ → ℕ → Bool
share_locked_section p i j = is_some_and (slice_get p.routes j) (λ route. locks_one_of p (sections_locked_for route) i)

-- Returns whether routes `i` and `j`, with `i` below `j`, violate C6: they lock the same section,
-- and `i` doesn't list `j` as a conflict.
abbrev pub shares_without_conflict : PlantLists → ℕ → ℕ → Bool
shares_without_conflict p i j = nat_lt i j && share_locked_section p i j && not (lists_as_conflict p i j)

-- Returns whether section `x` violates C7: it is a border without a board for trains that enter.
abbrev pub is_border_without_board : PlantLists → ℕ → Bool
is_border_without_board p x = is_some_and (inward_direction_if_border p x) (λ inward. has_no_board p inward x)

-- Returns whether the source of route `j` is a protecting board of route `i`.
abbrev pub closes_source_of : PlantLists → ℕ → ℕ → Bool
closes_source_of p i j =
    is_some_and (slice_get p.routes i) (λ route. is_some_and (slice_get p.routes j) (λ other. has_number other.source route.protecting_boards))

-- Returns whether routes `i` and `j` violate C8: the source of `j` is a protecting board of `i`,
-- and `i` doesn't list `j` as a conflict.
abbrev pub protects_without_conflict : PlantLists → ℕ → ℕ → Bool
protects_without_conflict p i j = closes_source_of p i j && not (lists_as_conflict p i j)

abbrev pub all_column_rules : List Rule
all_column_rules = C1 ∷ C2 ∷ C3 ∷ C4 ∷ C5 ∷ C6 ∷ C7 ∷ C8 ∷ []

-- Returns whether column rule C1, C2, C3, C4 or C7 is violated at location `i`: a section for C7,
-- otherwise a route. Other rules are violated at none.
abbrev pub breaks_column_rule_at : PlantLists → Rule → ℕ → Bool
breaks_column_rule_at p C1 = route_fails p (is_path_connected_from_source p)
breaks_column_rule_at p C2 = route_fails p (path_destination_is_first_board p)
breaks_column_rule_at p C3 = route_fails p (path_and_overlap_points_listed p)
breaks_column_rule_at p C4 = route_fails p (overlap_is_connected p)
breaks_column_rule_at p C7 = is_border_without_board p
breaks_column_rule_at p _ = λ i. false

-- Returns whether column rule C5, C6 or C8 is violated at the routes `i` and `j`, in this order.
-- Other rules are violated at none.
abbrev pub breaks_column_rule_at_pair : PlantLists → Rule → ℕ → ℕ → Bool
breaks_column_rule_at_pair p C5 = lists_conflict_one_way p
breaks_column_rule_at_pair p C6 = shares_without_conflict p
breaks_column_rule_at_pair p C8 = protects_without_conflict p
breaks_column_rule_at_pair p _ = λ i j. false

-- The violations of one column rule, at each of its locations.
abbrev pub broken_for_column_rule : PlantLists → Rule → List Broken
broken_for_column_rule p rule = at_places (place_kind_of rule)
  where
    at_places : PlaceKind → List Broken
    at_places RoutePairs = broken_at_pairs rule (place_count_in_plant p RoutePairs) (breaks_column_rule_at_pair p rule)
    at_places places = broken_below rule (place_count_in_plant p places) (breaks_column_rule_at p rule)

-- All violations of the column rules, rule by rule.
abbrev pub column_rules_broken : PlantLists → List Broken
column_rules_broken p = flat_map (broken_for_column_rule p) all_column_rules
