-- The rules R1 to R8 of the interlocking table, over numbered drafts. An unknown name has as its
-- number the count of names, which is not the number of an item.
use Rattle.std.specs.Prelude.{ℕ, Bool, true, false, not, Option, Some, None, List, [], ◌∷◌, ◌++◌, ◌&&◌, ◌==◌, nat_lt, length, map, slice_get}
use Rattle.std.specs.List.{list_all}
use Rattle.ilk_plant.specs.Broken.{broken_for_rules}
use Rattle.ilk_base.specs.Option.{is_some_and}
use Rattle.ilk_plant.specs.Draft.{repeats_earlier_name, plant_from_drafts}
use Rattle.ilk_plant.specs.Network.{contains_section}
use Rattle.ilk_plant.specs.Once.{numbers_differ}
use Rattle.ilk_plant.specs.Plant.{PlantLists, is_point_section}
use Rattle.ilk_plant.specs.declared.broken.Broken.{Broken}
use Rattle.ilk_plant.specs.declared.broken.PlaceKind.{PlaceKind}
use Rattle.ilk_plant.specs.declared.broken.PlaceKind.TheVariants.{Sections, Boards, Routes, RoutePairs}
use Rattle.ilk_plant.specs.declared.broken.Rule.{Rule}
use Rattle.ilk_plant.specs.declared.broken.Rule.TheVariants.{R1, R2, R3, R4, R5, R6, R7, R8}
use Rattle.ilk_plant.specs.declared.draft.NetDraft.{NetDraft}
use Rattle.ilk_plant.specs.declared.draft.TableDraft.{TableDraft}
use Rattle.ilk_plant.specs.declared.table.Route.{Route}

abbrev pub is_board : PlantLists → ℕ → Bool
is_board p m = nat_lt m (length p.boards)

abbrev pub is_section : PlantLists → ℕ → Bool
is_section p x = nat_lt x (length p.sections)

-- Returns whether `r` is the number of a route other than route `i`.
abbrev pub is_other_route : PlantLists → ℕ → ℕ → Bool
is_other_route p i r = nat_lt r (length p.routes) && not (r == i)

-- The sections of a route's path and overlap.
abbrev pub path_and_overlap_of : Route → List ℕ
path_and_overlap_of route = route.path ++ route.overlap

abbrev pub nonprotecting_points_of : Route → List ℕ
nonprotecting_points_of route = map (λ listed. listed.point) route.points

abbrev pub protecting_points_of : Route → List ℕ
protecting_points_of route = map (λ listed. listed.point) route.protecting_points

-- The sections that are locked for a route: path, overlap and the sections of protecting points.
abbrev pub sections_locked_for : Route → List ℕ
sections_locked_for route = path_and_overlap_of route ++ protecting_points_of route

-- Returns whether a route keeps R2: its source is a board.
abbrev pub source_is_board : PlantLists → Route → Bool
source_is_board p route = is_board p route.source

-- Returns whether a route keeps R3: path and overlap together consist of sections, each only once.
abbrev pub has_sections_once : PlantLists → Route → Bool
has_sections_once p route = list_all (is_section p) (path_and_overlap_of route) && numbers_differ (path_and_overlap_of route)

-- Returns whether a route keeps R4: each listed point is a point section of its path or overlap,
-- and none is listed twice.
abbrev pub has_only_passed_points_once : PlantLists → Route → Bool
has_only_passed_points_once p route =
    list_all (λ x. is_point_section p x && contains_section x (path_and_overlap_of route)) (nonprotecting_points_of route) && numbers_differ (nonprotecting_points_of route)

-- Returns whether a route keeps R5: its destination is null or a board.
abbrev pub destination_is_board_or_none : PlantLists → Option ℕ → Bool
destination_is_board_or_none p None = true
destination_is_board_or_none p (Some m) = is_board p m

-- Returns whether route `i` keeps R6: each listed conflict is another route, and none is listed
-- twice.
abbrev pub conflicts_are_other_routes_once : PlantLists → ℕ → Route → Bool
conflicts_are_other_routes_once p i route = list_all (is_other_route p i) route.conflicts && numbers_differ route.conflicts

-- Returns whether a route keeps R7: each protecting point is a point section outside its path and
-- overlap, and none is listed twice.
abbrev pub has_outside_protecting_points_once : PlantLists → Route → Bool
has_outside_protecting_points_once p route =
    list_all (λ x. is_point_section p x && not (contains_section x (path_and_overlap_of route))) (protecting_points_of route) && numbers_differ (protecting_points_of route)

-- Returns whether a route keeps R8: each protecting board is a board other than its source, and
-- none is listed twice.
abbrev pub has_nonsource_protecting_boards_once : PlantLists → Route → Bool
has_nonsource_protecting_boards_once p route =
    list_all (λ m. is_board p m && not (m == route.source)) route.protecting_boards && numbers_differ route.protecting_boards

abbrev pub route_fails : PlantLists → (Route → Bool) → ℕ → Bool
route_fails p test i = is_some_and (slice_get p.routes i) (λ route. not (test route))

-- The number of locations of a kind in a plant. For pairs of routes it is the number of routes.
abbrev pub place_count_in_plant : PlantLists → PlaceKind → ℕ
place_count_in_plant p Sections = length p.sections
place_count_in_plant p Boards = length p.boards
place_count_in_plant p Routes = length p.routes
place_count_in_plant p RoutePairs = length p.routes

abbrev pub all_table_rules : List Rule
all_table_rules = R1 ∷ R2 ∷ R3 ∷ R4 ∷ R5 ∷ R6 ∷ R7 ∷ R8 ∷ []

-- Returns whether route `i` violates the given rule of the table.
abbrev pub breaks_table_rule_at : PlantLists → Rule → ℕ → Bool
breaks_table_rule_at p R1 = repeats_earlier_name p.route_names
breaks_table_rule_at p R2 = route_fails p (source_is_board p)
breaks_table_rule_at p R3 = route_fails p (has_sections_once p)
breaks_table_rule_at p R4 = route_fails p (has_only_passed_points_once p)
breaks_table_rule_at p R5 = route_fails p (λ route. destination_is_board_or_none p route.destination)
breaks_table_rule_at p R6 = λ i. route_fails p (conflicts_are_other_routes_once p i) i
breaks_table_rule_at p R7 = route_fails p (has_outside_protecting_points_once p)
breaks_table_rule_at p R8 = route_fails p (has_nonsource_protecting_boards_once p)
breaks_table_rule_at p _ = λ i. false

-- All violations of the rules of the table by a numbered network and table, rule by rule.
abbrev pub plant_table_rules_broken : PlantLists → List Broken
plant_table_rules_broken p = broken_for_rules all_table_rules (place_count_in_plant p) (breaks_table_rule_at p)

-- All violations of the rules of the table by a network and its table, rule by rule.
abbrev pub table_rules_broken : NetDraft → TableDraft → List Broken
table_rules_broken net table = plant_table_rules_broken (plant_from_drafts net table)
