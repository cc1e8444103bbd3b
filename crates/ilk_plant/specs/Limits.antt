-- The limits of a configuration: counts of sections and routes, lists of a route, and names.
use Rattle.std.specs.Prelude.{ℕ, ◌≤◌, ◌&&◌, Bool, IsTrue, length, nat_le}
use Rattle.std.specs.List.{list_all}
use Rattle.ilk_plant.specs.Name.{is_name, is_name_if_given, is_between}
use Rattle.ilk_plant.specs.declared.limits.TheConstants.{MAX_ROUTE_CONFLICTS, MAX_OVERLAP, MAX_PATH, MAX_ROUTE_POINTS, MAX_PROTECTING_BOARDS, MAX_PROTECTING_POINTS, MAX_ROUTES, MAX_SECTIONS}
use Rattle.ilk_plant.specs.declared.draft.KindDraft.{KindDraft}
use Rattle.ilk_plant.specs.declared.draft.KindDraft.TheVariants.{Linear, Point}
use Rattle.ilk_plant.specs.declared.draft.NetDraft.{NetDraft}
use Rattle.ilk_plant.specs.declared.draft.RouteDraft.{RouteDraft}
use Rattle.ilk_plant.specs.declared.draft.SectionDraft.{SectionDraft}
use Rattle.ilk_plant.specs.declared.draft.TableDraft.{TableDraft}

-- Returns whether the names of a section's neighbours and boards are allowed.
abbrev pub neighbour_and_board_names_valid : KindDraft → Bool
neighbour_and_board_names_valid (Linear down up board_down board_up) =
    is_name_if_given down && is_name_if_given up && is_name_if_given board_down && is_name_if_given board_up
neighbour_and_board_names_valid (Point stem plus minus faces) = is_name stem && is_name plus && is_name minus

-- Returns whether all names of a section are allowed.
abbrev pub are_names_in_section_valid : SectionDraft → Bool
are_names_in_section_valid section = is_name section.name && neighbour_and_board_names_valid section.kind

-- Returns whether all names of a route are allowed.
abbrev pub are_names_in_route_valid : RouteDraft → Bool
are_names_in_route_valid route =
    is_name route.name
    && is_name route.source
    && is_name_if_given route.destination
    && list_all is_name route.path
    && list_all is_name route.overlap
    && list_all (λ listed. is_name listed.point) route.points
    && list_all is_name route.conflicts
    && list_all (λ listed. is_name listed.point) route.protecting_points
    && list_all is_name route.protecting_boards

-- Returns whether a route's path is not empty, and its path and lists are within their limits.
abbrev pub route_within_limits : RouteDraft → Bool
route_within_limits route =
    is_between 1 MAX_PATH (length route.path)
    && nat_le (length route.overlap) MAX_OVERLAP
    && nat_le (length route.points) MAX_ROUTE_POINTS
    && nat_le (length route.conflicts) MAX_ROUTE_CONFLICTS
    && nat_le (length route.protecting_points) MAX_PROTECTING_POINTS
    && nat_le (length route.protecting_boards) MAX_PROTECTING_BOARDS

-- Returns whether a configuration may have this number of sections (1 to `MAX_SECTIONS`) and of
-- routes.
abbrev pub section_and_route_counts_allowed : ℕ → ℕ → Bool
section_and_route_counts_allowed sections routes = is_between 1 MAX_SECTIONS sections && nat_le routes MAX_ROUTES

-- Holds if a network has 1 to `MAX_SECTIONS` sections, and all its names are allowed.
pub record NetworkWithinLimits (net : NetDraft) : Type 0 where
  pub some : 1 ≤ length net.sections
  pub few : length net.sections ≤ MAX_SECTIONS
  pub named : IsTrue (list_all are_names_in_section_valid net.sections)

-- Holds if a table has at most `MAX_ROUTES` routes, the lists of each are within their limits, and
-- all names are allowed.
pub record TableWithinLimits (table : TableDraft) : Type 0 where
  pub few : length table.routes ≤ MAX_ROUTES
  pub each : IsTrue (list_all route_within_limits table.routes)
  pub named : IsTrue (list_all are_names_in_route_valid table.routes)

-- Holds if a network and its table are within the limits for counts, lists and names.
pub record WithinLimits (net : NetDraft) (table : TableDraft) : Type 0 where
  pub of_network : NetworkWithinLimits net
  pub of_table : TableWithinLimits table
