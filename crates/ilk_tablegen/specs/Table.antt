-- The generated table of a network, with names, and the cases in which there is none.
use Rattle.std.specs.Prelude.{ℕ, Option, Some, None, List, [], ◌++◌, codes, decimal, if◌then◌else◌, length, map, nat_lt, option_map, slice_index_or}
use Rattle.std.specs.List.{enumerate_from}
use Rattle.ilk_plant.specs.Name.{Name}
use Rattle.ilk_plant.specs.Plant.{PlantLists}
use Rattle.ilk_plant.specs.declared.draft.ListedDraft.{ListedDraft}
use Rattle.ilk_plant.specs.declared.draft.RouteDraft.{RouteDraft}
use Rattle.ilk_plant.specs.declared.draft.TableDraft.{TableDraft}
use Rattle.ilk_plant.specs.declared.limits.TheConstants.{MAX_ROUTES}
use Rattle.ilk_plant.specs.declared.table.Listed.{Listed}
use Rattle.ilk_plant.specs.declared.table.Route.{Route}
use Rattle.ilk_tablegen.specs.Routes.{network_routes}
use Rattle.ilk_tablegen.specs.Ways.{all_ways, first_board_with_overlong_way}
use Rattle.ilk_tablegen.specs.declared.walks.Walks.{Walks}
use Rattle.ilk_tablegen.specs.declared.walks.Walks.TheVariants.{Routes, TooLong, TooMany}

-- The name with number `i`, or the empty name if there is none.
abbrev pub nth_name_or_empty : List Name → ℕ → Name
nth_name_or_empty names i = slice_index_or names i []

-- The name of route n: the letter g and the number in decimal.
abbrev pub route_name : ℕ → Name
route_name n = codes "g" ++ decimal n

-- The draft of a listed point: the name of its section, and its position.
abbrev pub listed_point_draft : PlantLists → Listed → ListedDraft
listed_point_draft p listed = record { point = nth_name_or_empty p.section_names listed.point; at = listed.at }

-- The draft of route number `n`, with names in place of numbers.
abbrev pub route_draft : PlantLists → ℕ → Route → RouteDraft
route_draft p n route = record {
  name = route_name n;
  source = nth_name_or_empty p.board_names route.source;
  destination = option_map (nth_name_or_empty p.board_names) route.destination;
  path = map (nth_name_or_empty p.section_names) route.path;
  overlap = map (nth_name_or_empty p.section_names) route.overlap;
  points = map (listed_point_draft p) route.points;
  conflicts = map route_name route.conflicts;
  protecting_points = map (listed_point_draft p) route.protecting_points;
  protecting_boards = map (nth_name_or_empty p.board_names) route.protecting_boards;
}

-- The interlocking table of these routes, as a draft.
abbrev pub table_draft : PlantLists → List Route → TableDraft
table_draft p routes = record { routes = map (λ numbered. route_draft p numbered.0 numbered.1) (enumerate_from 0 routes) }

-- The interlocking table generated for a network, as a draft.
abbrev pub network_table : PlantLists → TableDraft
network_table p = table_draft p (network_routes p)

-- The result of generating a table for a network. If some way does not end within MAX_PATH
-- sections, it is the first board of such a way. Otherwise it is the table, or `TooMany` if there
-- are more than MAX_ROUTES ways.
abbrev pub generation_result : PlantLists → Walks
generation_result p = unless_endless (first_board_with_overlong_way p)
  where
    unless_endless : Option ℕ → Walks
    unless_endless (Some m) = TooLong m
    unless_endless None = if nat_lt MAX_ROUTES (length (all_ways p)) then TooMany else Routes (network_table p)
