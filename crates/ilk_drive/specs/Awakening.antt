-- The automatic events that another event may enable, so that only these have to be tried after it.
-- They include all that it does enable, and some that it doesn't. Used only in private contracts.
use Rattle.std.specs.Prelude.{ℕ, Bool, false, List, ◌==◌, ◌||◌, ◌++◌, slice_get}
use Rattle.std.specs.List.{list_any}
use Rattle.ilk_base.specs.Option.{is_some_and}
use Rattle.ilk_base.specs.Numbers.{has_number}
use Rattle.ilk_plant.specs.Network.{contains_section}
use Rattle.ilk_plant.specs.Plant.{PlantLists, next_to}
use Rattle.ilk_plant.specs.TableRules.{sections_locked_for}
use Rattle.ilk_plant.specs.declared.network.Dir.TheVariants.{Up, Down}
use Rattle.ilk_plant.specs.declared.table.Route.{Route}
use Rattle.ilk_routes.specs.Claims.{required_points}
use Rattle.ilk_model.specs.declared.event.Event.{Event}
use Rattle.ilk_model.specs.declared.event.Event.TheVariants.{Mark, Allocate, Lock, Sense, Release, Finish, Throw, Settle, Enter, Head, Tail, Leave, Cancel}

-- Returns whether some section is locked for both routes.
abbrev pub routes_lock_common_section : Route → Route → Bool
routes_lock_common_section a b = list_any (λ x. contains_section x (sections_locked_for b)) (sections_locked_for a)

-- Returns whether the source of the first route is a protecting board of the second.
abbrev pub source_is_protecting_board_of : Route → Route → Bool
source_is_protecting_board_of a b = has_number a.source b.protecting_boards

-- Returns whether the state of `route`, which has number `r`, may affect the allocation or locking
-- of `other`. This needs `other` to list `r` as a conflict, a section locked for both, or a source
-- of one that is a protecting board of the other.
abbrev pub route_affects_allocation_or_locking : ℕ → Route → Route → Bool
route_affects_allocation_or_locking r route other =
    has_number r other.conflicts || (routes_lock_common_section route other || (source_is_protecting_board_of route other || source_is_protecting_board_of other route))

-- Returns whether the state of route number `r` may affect the allocation or locking of route
-- number `q`.
abbrev pub route_may_affect_by_number : PlantLists → ℕ → ℕ → Bool
route_may_affect_by_number p r q = is_some_and (slice_get p.routes r) (λ route. is_some_and (slice_get p.routes q) (λ other. route_affects_allocation_or_locking r route other))

-- Returns whether board `m` is on section `x`.
abbrev pub is_board_on_section : PlantLists → ℕ → ℕ → Bool
is_board_on_section p x m = is_some_and (slice_get p.boards m) (λ board. board.section == x)

-- Returns whether section `x` has an element of the route: it is locked for the route, or has a
-- point that the route requires or one of its protecting boards.
abbrev pub route_has_element_on : PlantLists → ℕ → Route → Bool
route_has_element_on p x route =
    contains_section x (sections_locked_for route) || (list_any (λ listed. listed.point == x) (required_points route) || list_any (is_board_on_section p x) route.protecting_boards)

-- Returns whether section `x` has an element of route number `q`.
abbrev pub numbered_route_has_element_on : PlantLists → ℕ → ℕ → Bool
numbered_route_has_element_on p x q = is_some_and (slice_get p.routes q) (route_has_element_on p x)

-- Returns whether route `r` requires a position of the point on section `x`.
abbrev pub requires_point : PlantLists → ℕ → ℕ → Bool
requires_point p r x = is_some_and (slice_get p.routes r) (λ route. list_any (λ listed. listed.point == x) (required_points route))

-- Returns whether the source board of route `r` is on section `x`.
abbrev pub is_source_board_on_section : PlantLists → ℕ → ℕ → Bool
is_source_board_on_section p r x = is_some_and (slice_get p.routes r) (λ route. is_board_on_section p x route.source)

-- Returns the sections next to section `x`, in both directions.
abbrev pub neighbours_of : PlantLists → ℕ → List ℕ
neighbours_of p x = next_to p x Down ++ next_to p x Up

-- Returns whether the first event may enable the second, an automatic event.
abbrev pub may_enable_automatic : PlantLists → Event → Event → Bool
may_enable_automatic p (Mark r) (Allocate q) = q == r
may_enable_automatic p (Allocate r) (Lock q) = q == r
may_enable_automatic p (Allocate r) (Throw x) = requires_point p r x
may_enable_automatic p (Lock r) (Sense q) = q == r
may_enable_automatic p (Lock r) (Head x) = is_source_board_on_section p r x
may_enable_automatic p (Sense r) (Allocate q) = route_may_affect_by_number p r q
may_enable_automatic p (Sense r) (Lock q) = route_may_affect_by_number p r q
may_enable_automatic p (Sense r) (Sense q) = q == r
may_enable_automatic p (Sense r) (Release q) = q == r
may_enable_automatic p (Sense r) (Finish q) = q == r
may_enable_automatic p (Release r) (Allocate q) = route_may_affect_by_number p r q
may_enable_automatic p (Release r) (Sense q) = q == r
may_enable_automatic p (Release r) (Release q) = q == r
may_enable_automatic p (Release r) (Finish q) = q == r
may_enable_automatic p (Finish r) (Allocate q) = route_may_affect_by_number p r q
may_enable_automatic p (Cancel r) (Allocate q) = route_may_affect_by_number p r q
may_enable_automatic p (Throw x) (Throw y) = y == x
may_enable_automatic p (Throw x) (Settle y) = y == x
may_enable_automatic p (Throw x) (Head y) = y == x
may_enable_automatic p (Settle x) (Lock q) = numbered_route_has_element_on p x q
may_enable_automatic p (Settle x) (Throw y) = y == x
may_enable_automatic p (Settle x) (Settle y) = y == x
may_enable_automatic p (Settle x) (Head y) = y == x
may_enable_automatic p (Enter x) (Sense q) = numbered_route_has_element_on p x q
may_enable_automatic p (Enter x) (Head y) = y == x
may_enable_automatic p (Enter x) (Leave y) = y == x
may_enable_automatic p (Head x) (Lock q) = numbered_route_has_element_on p x q
may_enable_automatic p (Head x) (Sense q) = list_any (λ y. numbered_route_has_element_on p y q) (neighbours_of p x)
may_enable_automatic p (Head x) (Head y) = y == x || contains_section y (neighbours_of p x)
may_enable_automatic p (Head x) (Tail y) = y == x
may_enable_automatic p (Head x) (Leave y) = y == x
may_enable_automatic p (Tail x) (Allocate q) = numbered_route_has_element_on p x q
may_enable_automatic p (Tail x) (Release q) = numbered_route_has_element_on p x q
may_enable_automatic p (Tail x) (Tail y) = y == x || contains_section y (neighbours_of p x)
may_enable_automatic p (Tail x) (Leave y) = contains_section y (neighbours_of p x)
may_enable_automatic p (Leave x) (Allocate q) = numbered_route_has_element_on p x q
may_enable_automatic p (Leave x) (Release q) = numbered_route_has_element_on p x q
may_enable_automatic p (Leave x) (Head y) = y == x
may_enable_automatic p (Leave x) (Leave y) = y == x
may_enable_automatic p event other = false
