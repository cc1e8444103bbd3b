-- The terms of the families of the invariant: sections that a route holds, and sections that a
-- train may leave without passing a board. Tests take a route with its state.
use Rattle.std.specs.Prelude.{ℕ, Bool, ◌==◌, ◌&&◌, ◌||◌, not, length, nat_le, nat_lt, slice_get}
use Rattle.std.specs.List.{enumerate_from, list_any, list_all}
use Rattle.ilk_base.specs.Each.{is_true_for_all_below, is_true_for_any_below}
use Rattle.ilk_base.specs.Option.{is_some_and}
use Rattle.ilk_plant.specs.ColumnRules.{has_no_board, source_satisfies}
use Rattle.ilk_plant.specs.Network.{contains_section, same_direction}
use Rattle.ilk_plant.specs.Plant.{PlantLists, next_to}
use Rattle.ilk_plant.specs.State.{is_occupied}
use Rattle.ilk_plant.specs.declared.network.Dir.{Dir}
use Rattle.ilk_plant.specs.declared.state.Mode.TheVariants.{Allocating, Locked, Occupied}
use Rattle.ilk_plant.specs.declared.state.RouteState.{RouteState}
use Rattle.ilk_plant.specs.declared.state.State.{State}
use Rattle.ilk_plant.specs.declared.table.Route.{Route}
use Rattle.ilk_routes.specs.Claims.{sections_outside_path}
use Rattle.ilk_routes.specs.Modes.{same_mode}

-- Returns whether route r and its state pass a test.
abbrev pub route_passes_test : PlantLists → State → ℕ → (Route → RouteState → Bool) → Bool
route_passes_test p s r test = is_some_and (slice_get p.routes r) (λ route. is_some_and (slice_get s.routes r) (test route))

-- Returns whether each route and its state pass a test.
abbrev pub all_routes_pass_test : PlantLists → State → (Route → RouteState → Bool) → Bool
all_routes_pass_test p s test = is_true_for_all_below (length p.routes) (λ r. route_passes_test p s r test)

-- Returns whether some route and its state pass a test.
abbrev pub any_route_passes_test : PlantLists → State → (Route → RouteState → Bool) → Bool
any_route_passes_test p s test = is_true_for_any_below (length p.routes) (λ r. route_passes_test p s r test)

-- Returns whether each index i of a route's path, with its section x, passes a test.
abbrev pub all_path_indices_pass_test : Route → (ℕ → ℕ → Bool) → Bool
all_path_indices_pass_test route test = list_all (λ place. test place.0 place.1) (enumerate_from 0 route.path)

-- Returns whether some index i of a route's path, with its section x, passes a test.
abbrev pub any_path_index_passes_test : Route → (ℕ → ℕ → Bool) → Bool
any_path_index_passes_test route test = list_any (λ place. test place.0 place.1) (enumerate_from 0 route.path)

-- Returns whether a route in this state is Locked or Occupied.
abbrev pub is_locked_or_occupied : RouteState → Bool
is_locked_or_occupied now = same_mode now.mode Locked || same_mode now.mode Occupied

-- Returns whether x is on the route's path and not released: path[i], with i at least `rel`.
abbrev pub is_unreleased_on_path : Route → RouteState → ℕ → Bool
is_unreleased_on_path route now x = any_path_index_passes_test route (λ i y. nat_le now.rel i && (y == x))

-- Returns whether a route in this state holds sections: it is Allocating, Locked or Occupied.
abbrev pub is_holding_state : RouteState → Bool
is_holding_state now = same_mode now.mode Allocating || is_locked_or_occupied now

-- Returns whether a route in this state holds x. It holds sections, and x is in its overlap, or is
-- the section of one of its protecting points, or is path[i] with i at least `rel`.
abbrev pub holds_section : ℕ → Route → RouteState → Bool
holds_section x route now =
    is_holding_state now && (contains_section x (sections_outside_path route) || is_unreleased_on_path route now x)

-- Returns whether route r holds section x in state s.
abbrev pub route_holds : PlantLists → State → ℕ → ℕ → Bool
route_holds p s r x = route_passes_test p s r (holds_section x)

-- Returns whether the route, and so its source, has direction d.
abbrev pub route_runs_in_direction : PlantLists → Dir → Route → Bool
route_runs_in_direction p d route = source_satisfies p route (λ source. same_direction source.dir d)

-- Returns whether section x has a neighbour in direction d, but no board for d.
abbrev pub continues_without_board : PlantLists → Dir → ℕ → Bool
continues_without_board p d x = has_no_board p d x && nat_lt 0 (length (next_to p x d))

-- Returns whether no train has section x in its body.
abbrev pub is_vacant : State → ℕ → Bool
is_vacant s x = not (is_occupied s x)
