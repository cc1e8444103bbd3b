-- The interlocking table of a line of generated stations. Each station has eight routes: into it
-- and out of it, in either direction, by either track. Line j is the single line above station j
-- (`Stations`).
use Rattle.std.specs.Prelude.{ℕ, ◌-◌, Bool, not, ◌&&◌, Option, Some, List, [], ◌∷◌, ◌++◌, bytes_eq, codes, decimal, filter, flat_map, map}
use Rattle.std.specs.List.{list_any, range_with_len}
use Rattle.ilk_plant.specs.Draft.{names_of_routes}
use Rattle.ilk_plant.specs.Name.{Name}
use Rattle.ilk_plant.specs.declared.draft.RouteDraft.{RouteDraft}
use Rattle.ilk_plant.specs.declared.draft.TableDraft.{TableDraft}
use Rattle.ilk_plant.specs.declared.network.Position.{Position}
use Rattle.ilk_plant.specs.declared.network.Position.TheVariants.{Plus, Minus}
use Rattle.ilk_gen.specs.Stations.{down_board_name_of_section, down_end_point_name, line, line_down_board, line_up_board, track_name, up_board_name_of_section, up_end_point_name}

-- The name of route `k` of station `j`: for example `s1r2`.
abbrev pub route_name : ℕ → ℕ → Name
route_name j k = codes "s" ++ decimal j ++ codes "r" ++ decimal k

-- The draft of a route over a point in a position and the section after it, without overlap. Its
-- conflicts are still empty.
abbrev pub route_over_point : Name → Name → Option Name → Name → Position → Name → RouteDraft
route_over_point name source destination point at behind = record {
  name = name;
  source = source;
  destination = destination;
  path = point ∷ behind ∷ [];
  overlap = [];
  points = record { point = point; at = at } ∷ [];
  conflicts = [];
  protecting_points = [];
  protecting_boards = [];
}

-- Route `k` of station `j`, up into the station from the line below it, by the track at position
-- `at`.
abbrev pub up_route_into : ℕ → ℕ → Position → RouteDraft
up_route_into j k at = route_over_point (route_name j k) (up_board_name_of_section (line (j - 1))) (Some (up_board_name_of_section (track_name j at))) (down_end_point_name j) at (track_name j at)

-- Route `k` of station `j` of `n`, up out of the station to the line above it, from the track at
-- position `at`. At the last station it has no destination board.
abbrev pub up_route_out_of : ℕ → ℕ → ℕ → Position → RouteDraft
up_route_out_of n j k at = route_over_point (route_name j k) (up_board_name_of_section (track_name j at)) (line_up_board n j) (up_end_point_name j) at (line j)

-- Route `k` of station `j`, down into the station from the line above it, by the track at position
-- `at`.
abbrev pub down_route_into : ℕ → ℕ → Position → RouteDraft
down_route_into j k at = route_over_point (route_name j k) (down_board_name_of_section (line j)) (Some (down_board_name_of_section (track_name j at))) (up_end_point_name j) at (track_name j at)

-- Route `k` of station `j`, down out of the station to the line below it, from the track at
-- position `at`. At station 1 it has no destination board.
abbrev pub down_route_out_of : ℕ → ℕ → Position → RouteDraft
down_route_out_of j k at = route_over_point (route_name j k) (down_board_name_of_section (track_name j at)) (line_down_board (j - 1)) (down_end_point_name j) at (line (j - 1))

-- The eight routes of station `j` of `n`, without conflicts.
abbrev pub station_routes : ℕ → ℕ → List RouteDraft
station_routes n j =
    up_route_into j 1 Plus
    ∷ up_route_into j 2 Minus
    ∷ up_route_out_of n j 3 Plus
    ∷ up_route_out_of n j 4 Minus
    ∷ down_route_into j 5 Plus
    ∷ down_route_into j 6 Minus
    ∷ down_route_out_of j 7 Plus
    ∷ down_route_out_of j 8 Minus
    ∷ []

-- Returns whether the paths of two routes have a section in common.
abbrev pub share_path_section : RouteDraft → RouteDraft → Bool
share_path_section route other = list_any (λ x. list_any (bytes_eq x) other.path) route.path

-- Returns whether `other` is a different route whose path has a section in common with that of
-- `route`.
abbrev pub is_in_conflict : RouteDraft → RouteDraft → Bool
is_in_conflict route other = not (bytes_eq route.name other.name) && share_path_section route other

-- The route with its conflicts filled in: the names of all others of `routes` that share a path
-- section with it, in order.
abbrev pub route_with_computed_conflicts : List RouteDraft → RouteDraft → RouteDraft
route_with_computed_conflicts routes route = record route { conflicts = names_of_routes (filter (is_in_conflict route) routes) }

-- The routes of stations 1 to `n`, without conflicts.
abbrev pub all_station_routes : ℕ → List RouteDraft
all_station_routes n = flat_map (station_routes n) (range_with_len 1 n)

-- The interlocking table of `n` stations: all routes, with their conflicts.
abbrev pub stations_table : ℕ → TableDraft
stations_table n = record { routes = map (route_with_computed_conflicts (all_station_routes n)) (all_station_routes n) }
