-- Rounds over all sections that find ways without end, and rounds that extend all ways by one
-- section. Used only by private contracts.
use Rattle.std.specs.Prelude.{ℕ, Bool, false, not, Option, None, Some, List, [], ◌∷◌, ◌++◌, ◌&&◌, ◌==◌, if◌then◌else◌, length, map, nat_lt, slice_index_or, unwrap_or}
use Rattle.std.specs.List.{enumerate_from, list_any, range_with_len}
use Rattle.ilk_plant.specs.Plant.{PlantLists, next_to}
use Rattle.ilk_plant.specs.declared.limits.TheConstants.{MAX_ROUTES}
use Rattle.ilk_plant.specs.declared.network.Dir.{Dir}
use Rattle.ilk_tablegen.specs.Ways.{all_ways, way_ends_at_section, has_unended_path_from}
use Rattle.ilk_tablegen.specs.declared.ways.WayFromBoard.{WayFromBoard}
use Rattle.ilk_plant.specs.Network.{last_of}

-- For each section, whether a path of `n` sections leads from it in direction `d` on which no way
-- ends.
abbrev pub has_unended_path_from_each : PlantLists → Dir → ℕ → List Bool
has_unended_path_from_each p d n = map (has_unended_path_from p d n) (range_with_len 0 (length p.sections))

-- Returns whether section `x` has a neighbour on side `d` whose flag is set and at which no way
-- ends.
abbrev pub has_flagged_unended_neighbour : PlantLists → Dir → List Bool → ℕ → Bool
has_flagged_unended_neighbour p d flags x = list_any (λ y. not (way_ends_at_section p d y) && slice_index_or flags y false) (next_to p x d)

-- The last section of a way so far; the section of its board if it has none yet.
abbrev pub last_section_or_start : WayFromBoard → ℕ
last_section_or_start way = unwrap_or (last_of way.path) way.from.section

-- Returns whether a way has reached its end: a board for its direction, or the end of the track.
abbrev pub is_finished_way : PlantLists → WayFromBoard → Bool
is_finished_way p way = not (length way.path == 0) && way_ends_at_section p way.from.dir (last_section_or_start way)

-- The way with section `y` added.
abbrev pub extended_way : WayFromBoard → ℕ → WayFromBoard
extended_way way y = record { source = way.source; from = way.from; path = way.path ++ y ∷ [] }

-- The way itself if it has ended, otherwise its extensions by one section, one for each neighbour
-- ahead.
abbrev pub extensions_of_way_or_itself : PlantLists → WayFromBoard → List WayFromBoard
extensions_of_way_or_itself p way = if is_finished_way p way then way ∷ [] else map (extended_way way) (next_to p (last_section_or_start way) way.from.dir)

-- For each board, the way from it that has no section yet.
abbrev pub empty_way_per_board : PlantLists → List WayFromBoard
empty_way_per_board p = map (λ numbered. record { source = numbered.0; from = numbered.1; path = [] }) (enumerate_from 0 p.boards)

-- All ways of the network, or `None` if there are more than MAX_ROUTES.
abbrev pub all_ways_within_route_limit : PlantLists → Option (List WayFromBoard)
all_ways_within_route_limit p = if nat_lt MAX_ROUTES (length (all_ways p)) then None else Some (all_ways p)
