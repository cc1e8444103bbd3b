-- The nine families of the invariant, V1 to V9: common properties of states that keep trains apart.
-- Each is a test of a well-formed state.
use Rattle.std.specs.Prelude.{ℕ, ◌+◌, Bool, true, ◌==◌, ◌&&◌, ◌||◌, not, if◌then◌else◌, length, drop, nat_le, nat_lt}
use Rattle.std.specs.List.{list_all}
use Rattle.ilk_base.specs.Each.{is_true_for_all_below}
use Rattle.ilk_base.specs.Option.{is_some_and}
use Rattle.ilk_plant.specs.Network.{contains_section, last_of}
use Rattle.ilk_plant.specs.Plant.{PlantLists}
use Rattle.ilk_plant.specs.State.{has_lock_state}
use Rattle.ilk_plant.specs.declared.network.Dir.{Dir}
use Rattle.ilk_plant.specs.declared.state.Aspect.TheVariants.{Open, Closed}
use Rattle.ilk_plant.specs.declared.state.Hold.{Hold}
use Rattle.ilk_plant.specs.declared.state.Hold.TheVariants.{Locked as LockedLock, Used as UsedLock}
use Rattle.ilk_plant.specs.declared.state.Mode.TheVariants.{Allocating, Locked, Occupied}
use Rattle.ilk_plant.specs.declared.state.RouteState.{RouteState}
use Rattle.ilk_plant.specs.declared.state.State.{State}
use Rattle.ilk_plant.specs.declared.table.Listed.{Listed}
use Rattle.ilk_plant.specs.declared.table.Route.{Route}
use Rattle.ilk_routes.specs.Boards.{has_aspect}
use Rattle.ilk_routes.specs.Claims.{sections_outside_path}
use Rattle.ilk_routes.specs.Lies.{is_point_detected_as_listed}
use Rattle.ilk_routes.specs.Modes.{same_mode}
use Rattle.ilk_model.specs.Commanded.{is_point_commanded_as_listed}
use Rattle.ilk_model.specs.Holding.{all_path_indices_pass_test, all_routes_pass_test, is_holding_state, is_unreleased_on_path, is_locked_or_occupied, continues_without_board, is_vacant, route_holds, route_runs_in_direction, any_path_index_passes_test, any_route_passes_test}

-- V1: An Occupied route has `rel` below `seen`, and `seen` is at most the path's length. Any other
-- route has `seen` = `rel` = 0.
abbrev pub meets_v1_consistent_counts : PlantLists → State → Bool
meets_v1_consistent_counts p s = all_routes_pass_test p s (λ route now.
    if same_mode now.mode Occupied
    then nat_lt now.rel now.seen && nat_le now.seen (length route.path)
    else now.seen == 0 && now.rel == 0)

-- V2: No two routes hold the same section.
abbrev pub meets_v2_sections_held_once : PlantLists → State → Bool
meets_v2_sections_held_once p s = is_true_for_all_below (length p.routes) (λ r. is_true_for_all_below (length p.routes) (λ q.
    r == q || is_true_for_all_below (length p.sections) (λ x. not (route_holds p s r x && route_holds p s q x))))

-- The required lock of a section that a route in state `now` holds as path[i]: Used if i is below
-- `seen`, otherwise Locked.
abbrev pub required_path_section_lock : RouteState → ℕ → Hold
required_path_section_lock now i = if nat_lt i now.seen then UsedLock else LockedLock

-- Returns whether the sections of a route that holds sections have the locks that V3 requires.
abbrev pub has_required_locks : State → Route → RouteState → Bool
has_required_locks s route now =
    all_path_indices_pass_test route (λ i x. not (nat_le now.rel i) || has_lock_state s x (required_path_section_lock now i))
    && list_all (λ x. has_lock_state s x LockedLock) (sections_outside_path route)

-- V3: A section that a route holds as path[i] has lock Used if i is below `seen`. Every other
-- section that it holds has lock Locked.
abbrev pub meets_v3_locks_match_routes : PlantLists → State → Bool
meets_v3_locks_match_routes p s = all_routes_pass_test p s (λ route now. if is_holding_state now then has_required_locks s route now else true)

-- V4: Every path section of an Allocating route is vacant.
abbrev pub meets_v4_allocating_paths_vacant : PlantLists → State → Bool
meets_v4_allocating_paths_vacant p s = all_routes_pass_test p s (λ route now.
    if same_mode now.mode Allocating then list_all (is_vacant s) route.path else true)

-- V5: Each Open board is the source of a Locked route whose path is vacant.
abbrev pub meets_v5_open_needs_locked : PlantLists → State → Bool
meets_v5_open_needs_locked p s = is_true_for_all_below (length p.boards) (λ m.
    if has_aspect s m Open
    then any_route_passes_test p s (λ route now. (route.source == m) && same_mode now.mode Locked && list_all (is_vacant s) route.path)
    else true)

-- Returns whether a point that a route lists is commanded to its listed position. Also true if the
-- route isn't Allocating, or the point isn't on its path.
abbrev pub is_point_commanded_if_allocating : PlantLists → State → Route → RouteState → Listed → Bool
is_point_commanded_if_allocating p s route now listed =
    if same_mode now.mode Allocating && contains_section listed.point route.path
    then is_point_commanded_as_listed p s listed
    else true

-- Returns whether a point that a route lists is commanded to its listed position and detected in
-- it. Also true unless the route is Locked or Occupied and holds the point on its path.
abbrev pub is_point_set_if_locked_or_occupied : PlantLists → State → Route → RouteState → Listed → Bool
is_point_set_if_locked_or_occupied p s route now listed =
    if is_locked_or_occupied now && is_unreleased_on_path route now listed.point
    then is_point_commanded_as_listed p s listed && is_point_detected_as_listed p s listed
    else true

-- V6: A listed point on the path of an Allocating route is commanded to its listed position. A
-- listed point that a Locked or Occupied route holds on its path is commanded to that position and
-- detected in it.
abbrev pub meets_v6_points_match_modes : PlantLists → State → Bool
meets_v6_points_match_modes p s = all_routes_pass_test p s (λ route now.
    list_all (λ listed. is_point_commanded_if_allocating p s route now listed && is_point_set_if_locked_or_occupied p s route now listed) route.points)

-- Returns whether some route leads a train's head at x in direction d. Section x is path[i] of a
-- route in that direction, which is Occupied, or Locked with its source Closed. Its `seen` is at
-- most i + 1, and each later path section is vacant.
abbrev pub head_is_led_by_route : PlantLists → State → Dir → ℕ → Bool
head_is_led_by_route p s d x = any_route_passes_test p s (λ route now. any_path_index_passes_test route (λ i y.
    (y == x)
    && route_runs_in_direction p d route
    && (same_mode now.mode Occupied || (same_mode now.mode Locked && has_aspect s route.source Closed))
    && nat_le now.seen (i + 1)
    && list_all (is_vacant s) (drop (i + 1) route.path)))

-- V7: If a train's head is at a section with a neighbour ahead but no board, some route leads it
-- (`head_is_led_by_route`).
abbrev pub meets_v7_heads_have_routes : PlantLists → State → Bool
meets_v7_heads_have_routes p s = list_all (λ train. is_some_and (last_of train.body) (λ x.
    if continues_without_board p train.dir x then head_is_led_by_route p s train.dir x else true)) s.trains

-- Returns whether some Locked or Occupied route in direction d has x on its path and not released:
-- x is path[i], with i at least `rel`.
abbrev pub is_unreleased_on_some_route : PlantLists → State → Dir → ℕ → Bool
is_unreleased_on_some_route p s d x = any_route_passes_test p s (λ route now.
    route_runs_in_direction p d route && is_locked_or_occupied now && is_unreleased_on_path route now x)

-- V8: If a section of a train's body has a neighbour ahead but no board, some Locked or Occupied
-- route in the train's direction has it on its path, not released.
abbrev pub meets_v8_bodies_have_routes : PlantLists → State → Bool
meets_v8_bodies_have_routes p s = list_all (λ train. list_all (λ x.
    if continues_without_board p train.dir x then is_unreleased_on_some_route p s train.dir x else true) train.body) s.trains

-- V9: Each protecting board of a Locked route is Closed.
abbrev pub meets_v9_protecting_boards_closed : PlantLists → State → Bool
meets_v9_protecting_boards_closed p s = all_routes_pass_test p s (λ route now.
    if same_mode now.mode Locked then list_all (λ m. has_aspect s m Closed) route.protecting_boards else true)
