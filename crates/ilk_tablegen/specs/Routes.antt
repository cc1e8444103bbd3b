-- The routes of a network, by number: one for each way (candidate route path), in the order of the
-- ways.
use Rattle.std.specs.Prelude.{ℕ, Bool, not, Option, List, [], ◌∷◌, ◌++◌, ◌&&◌, ◌==◌, filter, find, length, map, option_map, option_to_list, slice_get, slice_index_or, take}
use Rattle.std.specs.List.{enumerate_from, list_any, range_with_len}
use Rattle.ilk_base.specs.Option.{◌>>=◌, is_some_and}
use Rattle.ilk_plant.specs.ColumnRules.{is_leg_at_position}
use Rattle.ilk_plant.specs.Network.{contains_section, last_of}
use Rattle.ilk_plant.specs.Plant.{PlantLists, board_of}
use Rattle.ilk_plant.specs.declared.network.Position.{Position}
use Rattle.ilk_plant.specs.declared.network.Position.TheVariants.{Plus, Minus}
use Rattle.ilk_plant.specs.declared.table.Listed.{Listed}
use Rattle.ilk_plant.specs.declared.table.Route.{Route}
use Rattle.ilk_tablegen.specs.Ways.{all_ways}
use Rattle.ilk_tablegen.specs.declared.ways.WayFromBoard.{WayFromBoard}

-- The position in which point `x` leads to one of these sections, or `None` if none of them is on a
-- leg of `x`.
abbrev pub position_towards_one_of_sections : PlantLists → List ℕ → ℕ → Option Position
position_towards_one_of_sections p sections x =
    find (λ at. list_any (λ y. is_some_and (slice_get p.sections x) (is_leg_at_position at y)) sections) (Plus ∷ Minus ∷ [])

-- Section `x` with its position, if it is a point: the position that joins section `before` and the
-- first section of `after`. Otherwise nothing.
abbrev pub point_listed_between : PlantLists → ℕ → ℕ → List ℕ → List Listed
point_listed_between p before x after =
    option_to_list (option_map (λ at. record { point = x; at = at }) (position_towards_one_of_sections p (before ∷ take 1 after) x))

-- Each point of a path that comes after section `before`, in order, with its position: that of the
-- leg which is the section before it or the one after it.
abbrev pub points_along : PlantLists → ℕ → List ℕ → List Listed
points_along p before [] = []
points_along p before (x ∷ rest) = point_listed_between p before x rest ++ points_along p x rest

-- The board for the way's direction at its last section, or `None` if the way leads to the end of
-- the track.
abbrev pub destination_of : PlantLists → WayFromBoard → Option ℕ
destination_of p way = do
  x ← last_of way.path
  board_of p x way.from.dir

-- Returns whether two paths have a section in common.
abbrev pub paths_share_section : List ℕ → List ℕ → Bool
paths_share_section path other = list_any (λ x. contains_section x other) path

-- The numbers of the other paths that have a section in common with `path`, which is number `n`.
abbrev pub conflicts_of : List (List ℕ) → ℕ → List ℕ → List ℕ
conflicts_of paths n path =
    filter (λ k. not (k == n) && paths_share_section path (slice_index_or paths k [])) (range_with_len 0 (length paths))

-- The route of way number `n`, with its conflicts among the paths of all ways. It has no overlap
-- and no protection.
abbrev pub route_of_way : PlantLists → List (List ℕ) → ℕ → WayFromBoard → Route
route_of_way p paths n way = record {
  source = way.source;
  destination = destination_of p way;
  path = way.path;
  overlap = [];
  points = points_along p way.from.section way.path;
  conflicts = conflicts_of paths n way.path;
  protecting_points = [];
  protecting_boards = [];
}

-- The routes of these ways, one each, in order.
abbrev pub routes_of_ways : PlantLists → List WayFromBoard → List Route
routes_of_ways p found =
    map (λ numbered. route_of_way p (map (λ (way : WayFromBoard). way.path) found) numbered.0 numbered.1) (enumerate_from 0 found)

-- The routes of all ways of the network.
abbrev pub network_routes : PlantLists → List Route
network_routes p = routes_of_ways p (all_ways p)
