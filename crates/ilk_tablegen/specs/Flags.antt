-- The sections of each path as flags (one truth value for each section), and the conflicts by these
-- flags. Used only by private contracts.
use Rattle.std.specs.Prelude.{ℕ, Bool, false, not, List, [], ◌&&◌, ◌==◌, filter, length, map, slice_index_or}
use Rattle.std.specs.List.{list_any, range_with_len}
use Rattle.ilk_plant.specs.Network.{contains_section}
use Rattle.ilk_plant.specs.Plant.{PlantLists}
use Rattle.ilk_plant.specs.declared.table.Route.{Route}
use Rattle.ilk_tablegen.specs.Routes.{destination_of, points_along}
use Rattle.ilk_tablegen.specs.declared.ways.WayFromBoard.{WayFromBoard}

-- The paths of these ways, in order.
abbrev pub paths_of_ways : List WayFromBoard → List (List ℕ)
paths_of_ways found = map (λ (way : WayFromBoard). way.path) found

-- For each number below `count`, whether it is a section of `path`.
abbrev pub path_membership_flags : ℕ → List ℕ → List Bool
path_membership_flags count path = map (λ x. contains_section x path) (range_with_len 0 count)

-- Returns whether the flag of one of these sections is set.
abbrev pub any_section_flagged : List Bool → List ℕ → Bool
any_section_flagged flags sections = list_any (λ x. slice_index_or flags x false) sections

-- The numbers of the other paths whose flags are set for a section of `path`, which is number `n`.
abbrev pub conflicts_by_flags : List (List Bool) → ℕ → List ℕ → List ℕ
conflicts_by_flags flags n path =
    filter (λ k. not (k == n) && any_section_flagged (slice_index_or flags k []) path) (range_with_len 0 (length flags))

-- The route of way number `n`, with its conflicts from the flags of all ways.
abbrev pub route_by_flags : PlantLists → List (List Bool) → ℕ → WayFromBoard → Route
route_by_flags p flags n way = record {
  source = way.source;
  destination = destination_of p way;
  path = way.path;
  overlap = [];
  points = points_along p way.from.section way.path;
  conflicts = conflicts_by_flags flags n way.path;
  protecting_points = [];
  protecting_boards = [];
}
