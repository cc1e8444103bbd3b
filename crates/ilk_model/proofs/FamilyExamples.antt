-- Examples of the families of the invariant. For each family there are states that satisfy it, and
-- a violation of each of its conditions. The result always covers all nine families.
use Rattle.std.proofs.Common.{◌≡◌, ℕ, not, Some, None, List, [], ◌∷◌, ◌++◌, set, refl}
use Rattle.std.specs.List.{filter}
use Rattle.ilk_plant.specs.Plant.{PlantLists}
use Rattle.ilk_plant.proofs.Shapes.{shape-true, start-shape}
use Rattle.ilk_plant.specs.Start.{start}
use Rattle.ilk_plant.specs.declared.network.Board.{Board}
use Rattle.ilk_plant.specs.declared.network.Dir.{Dir}
use Rattle.ilk_plant.specs.declared.network.Dir.TheVariants.{Up, Down}
use Rattle.ilk_plant.specs.declared.network.Position.{Position}
use Rattle.ilk_plant.specs.declared.network.Position.TheVariants.{Plus, Minus}
use Rattle.ilk_plant.specs.declared.network.Section.TheVariants.{Linear, Point}
use Rattle.ilk_plant.specs.declared.state.Aspect.TheVariants.{Open}
use Rattle.ilk_plant.specs.declared.state.Hold.TheVariants.{Locked as LockedLock, Used as UsedLock}
use Rattle.ilk_plant.specs.declared.state.Lie.{Lie}
use Rattle.ilk_plant.specs.declared.state.Lie.TheVariants.{Plus as LiesPlus, Minus as LiesMinus, Moving}
use Rattle.ilk_plant.specs.declared.state.Mode.{Mode}
use Rattle.ilk_plant.specs.declared.state.Mode.TheVariants.{Free, Marked, Allocating, Locked, Occupied}
use Rattle.ilk_plant.specs.declared.state.State.{State}
use Rattle.ilk_plant.specs.declared.table.Listed.{Listed}
use Rattle.ilk_plant.specs.declared.table.Route.{Route}
use Rattle.ilk_routes.specs.Locks.{with_locks}
use Rattle.ilk_model.specs.Meets.{Meets, meets_family}

abbrev board : ℕ → Dir → Board
board x d = record { section = x; dir = d }

abbrev at_position : ℕ → Position → Listed
at_position x position = record { point = x; at = position }

-- A station: border 0, point 1 facing up, tracks 2 and 3, point 4 facing down, border 5. Up from
-- board 0: route 0 to track 2, route 1 to track 3 with overlap 4, route 3 to track 2 with
-- protecting point 4. Up from board 2: route 2 from track 2 out of the network, with protecting
-- board 0. Down from board 1: route 4 from track 2 out of the network.
abbrev station : PlantLists
station = record {
  sections =
      Linear None (Some 1) None (Some 0)
      ∷ Point 0 2 3 Up
      ∷ Linear (Some 1) (Some 4) (Some 1) (Some 2)
      ∷ Linear (Some 1) (Some 4) (Some 3) (Some 4)
      ∷ Point 5 2 3 Down
      ∷ Linear (Some 4) None (Some 5) None
      ∷ [];
  boards = board 0 Up ∷ board 2 Down ∷ board 2 Up ∷ board 3 Down ∷ board 3 Up ∷ board 5 Down ∷ [];
  routes = to_track_2 ∷ to_track_3 ∷ out_at_5 ∷ protected_to_track_2 ∷ out_at_0 ∷ [];
  section_names = [];
  board_names = [];
  route_names = [];
}
  where
    to_track_2 : Route
    to_track_2 = record { source = 0; destination = Some 2; path = 1 ∷ 2 ∷ []; overlap = []; points = at_position 1 Plus ∷ []; conflicts = []; protecting_points = []; protecting_boards = [] }

    to_track_3 : Route
    to_track_3 = record { source = 0; destination = Some 4; path = 1 ∷ 3 ∷ []; overlap = 4 ∷ []; points = at_position 1 Minus ∷ at_position 4 Minus ∷ []; conflicts = []; protecting_points = []; protecting_boards = [] }

    out_at_5 : Route
    out_at_5 = record { source = 2; destination = None; path = 4 ∷ 5 ∷ []; overlap = []; points = at_position 4 Plus ∷ []; conflicts = []; protecting_points = []; protecting_boards = 0 ∷ [] }

    protected_to_track_2 : Route
    protected_to_track_2 = record { source = 0; destination = Some 2; path = 1 ∷ 2 ∷ []; overlap = []; points = at_position 1 Plus ∷ []; conflicts = []; protecting_points = at_position 4 Minus ∷ []; protecting_boards = [] }

    out_at_0 : Route
    out_at_0 = record { source = 1; destination = None; path = 1 ∷ 0 ∷ []; overlap = []; points = at_position 1 Plus ∷ []; conflicts = []; protecting_points = []; protecting_boards = [] }

-- The initial state, and changes to it.
abbrev at_rest : State
at_rest = start station

abbrev with_route : ℕ → Mode → ℕ → ℕ → State → State
with_route r mode seen rel s = record s { routes = set s.routes r (record { mode = mode; seen = seen; rel = rel }) }

abbrev with_point : ℕ → Lie → Position → State → State
with_point n at to s = record s { points = set s.points n (record { at = at; to = to }) }

abbrev with_open : ℕ → State → State
with_open m s = record s { boards = set s.boards m Open }

abbrev locked : List ℕ → State → State
locked sections s = record s { locks = with_locks s.locks sections LockedLock }

abbrev used : List ℕ → State → State
used sections s = record s { locks = with_locks s.locks sections UsedLock }

abbrev with_train : Dir → List ℕ → State → State
with_train d body s = record s { trains = s.trains ++ record { dir = d; body = body } ∷ [] }

-- The numbers of the violated families.
abbrev broken : State → List ℕ
broken s = filter (λ j. not (meets_family station s j)) (1 ∷ 2 ∷ 3 ∷ 4 ∷ 5 ∷ 6 ∷ 7 ∷ 8 ∷ 9 ∷ [])

nothing_breaks : broken at_rest ≡ []
nothing_breaks = refl

start_meets : Meets station at_rest
start_meets = record { shape = start-shape station; no_hazard = refl; families_kept = refl }

-- A train has passed the source of route 0, and is sensed in its first section.
abbrev on_its_way : State
on_its_way = with_route 0 Occupied 1 0 (locked (2 ∷ []) (used (1 ∷ []) (with_train Up (0 ∷ 1 ∷ []) at_rest)))

on_its_way_meets : Meets station on_its_way
on_its_way_meets = record {
  shape = shape-true station on_its_way (record { routes = refl; points = refl; boards = refl; locks = refl }) refl refl;
  no_hazard = refl;
  families_kept = refl;
}

-- V1.
a_free_route_has_seen : broken (with_route 0 Free 1 0 at_rest) ≡ 1 ∷ []
a_free_route_has_seen = refl

a_free_route_has_released : broken (with_route 0 Free 0 1 at_rest) ≡ 1 ∷ []
a_free_route_has_released = refl

all_seen_are_released : broken (with_route 0 Occupied 1 1 (locked (2 ∷ []) at_rest)) ≡ 1 ∷ []
all_seen_are_released = refl

more_are_seen_than_there_are : broken (with_route 0 Occupied 3 0 (used (1 ∷ 2 ∷ []) at_rest)) ≡ 1 ∷ []
more_are_seen_than_there_are = refl

-- Seen is one more than released, and is the whole path.
one_is_seen : broken (with_route 0 Occupied 2 1 (used (2 ∷ []) at_rest)) ≡ []
one_is_seen = refl

-- V2.
both_have_it_in_their_paths : broken (with_route 4 Allocating 0 0 (with_route 0 Allocating 0 0 (locked (0 ∷ 1 ∷ 2 ∷ []) at_rest))) ≡ 2 ∷ []
both_have_it_in_their_paths = refl

one_has_it_in_its_overlap : broken (with_route 2 Allocating 0 0 (with_route 1 Allocating 0 0 (with_point 0 LiesPlus Minus (locked (1 ∷ 3 ∷ 4 ∷ 5 ∷ []) at_rest)))) ≡ 2 ∷ []
one_has_it_in_its_overlap = refl

one_is_protected_by_its_point : broken (with_route 3 Allocating 0 0 (with_route 2 Allocating 0 0 (locked (1 ∷ 2 ∷ 4 ∷ 5 ∷ []) at_rest))) ≡ 2 ∷ []
one_is_protected_by_its_point = refl

-- Section 1 is in both paths, and one route has released it.
a_released_section_is_not_held : broken (with_route 4 Allocating 0 0 (with_route 0 Occupied 2 1 (locked (0 ∷ 1 ∷ []) (used (2 ∷ []) at_rest)))) ≡ []
a_released_section_is_not_held = refl

a_marked_route_holds_nothing : broken (with_route 4 Marked 0 0 (with_route 0 Allocating 0 0 (locked (1 ∷ 2 ∷ []) at_rest))) ≡ []
a_marked_route_holds_nothing = refl

-- V3.
a_seen_section_is_not_used : broken (with_route 0 Occupied 1 0 (locked (1 ∷ 2 ∷ []) at_rest)) ≡ 3 ∷ []
a_seen_section_is_not_used = refl

an_unseen_section_is_not_locked : broken (with_route 0 Occupied 1 0 (used (1 ∷ 2 ∷ []) at_rest)) ≡ 3 ∷ []
an_unseen_section_is_not_locked = refl

an_overlap_is_not_locked : broken (with_route 1 Allocating 0 0 (with_point 0 LiesPlus Minus (locked (1 ∷ 3 ∷ []) at_rest))) ≡ 3 ∷ []
an_overlap_is_not_locked = refl

a_protecting_point_is_not_locked : broken (with_route 3 Allocating 0 0 (locked (1 ∷ 2 ∷ []) at_rest)) ≡ 3 ∷ []
a_protecting_point_is_not_locked = refl

-- V4.
an_allocating_route_has_a_train : broken (with_route 0 Allocating 0 0 (locked (1 ∷ 2 ∷ []) (with_train Up (2 ∷ []) at_rest))) ≡ 4 ∷ []
an_allocating_route_has_a_train = refl

an_overlap_may_have_a_train : broken (with_route 1 Allocating 0 0 (with_point 0 LiesPlus Minus (locked (1 ∷ 3 ∷ 4 ∷ []) (with_train Down (5 ∷ 4 ∷ []) at_rest)))) ≡ 7 ∷ 8 ∷ []
an_overlap_may_have_a_train = refl

-- V5.
no_route_opens_it : broken (with_open 0 at_rest) ≡ 5 ∷ []
no_route_opens_it = refl

its_route_is_occupied : broken (with_route 0 Occupied 1 0 (with_open 0 (locked (2 ∷ []) (used (1 ∷ []) at_rest)))) ≡ 5 ∷ []
its_route_is_occupied = refl

-- Two boards are Open; only one is the source of a Locked route.
it_is_no_source_of_the_route : broken (with_route 0 Locked 0 0 (with_open 2 (with_open 0 (locked (1 ∷ 2 ∷ []) at_rest)))) ≡ 5 ∷ []
it_is_no_source_of_the_route = refl

the_path_has_a_train : broken (with_route 0 Locked 0 0 (with_open 0 (locked (1 ∷ 2 ∷ []) (with_train Up (2 ∷ []) at_rest)))) ≡ 5 ∷ []
the_path_has_a_train = refl

its_route_is_locked : broken (with_route 0 Locked 0 0 (with_open 0 (locked (1 ∷ 2 ∷ []) at_rest))) ≡ []
its_route_is_locked = refl

-- V6.
an_allocating_route_has_not_commanded : broken (with_route 0 Allocating 0 0 (with_point 0 LiesPlus Minus (locked (1 ∷ 2 ∷ []) at_rest))) ≡ 6 ∷ []
an_allocating_route_has_not_commanded = refl

a_locked_point_is_commanded_elsewhere : broken (with_route 0 Locked 0 0 (with_point 0 LiesPlus Minus (with_open 0 (locked (1 ∷ 2 ∷ []) at_rest)))) ≡ 6 ∷ []
a_locked_point_is_commanded_elsewhere = refl

a_locked_point_lies_elsewhere : broken (with_route 0 Locked 0 0 (with_point 0 LiesMinus Plus (with_open 0 (locked (1 ∷ 2 ∷ []) at_rest)))) ≡ 6 ∷ []
a_locked_point_lies_elsewhere = refl

an_occupied_point_moves : broken (with_route 0 Occupied 1 0 (with_point 0 Moving Plus (locked (2 ∷ []) (used (1 ∷ []) at_rest)))) ≡ 6 ∷ []
an_occupied_point_moves = refl

a_released_point_may_lie_elsewhere : broken (with_route 0 Occupied 2 1 (with_point 0 LiesMinus Minus (used (2 ∷ []) at_rest))) ≡ []
a_released_point_may_lie_elsewhere = refl

-- Overlap points aren't checked, nor detected positions for an Allocating route.
an_overlap_point_may_lie_elsewhere : broken (with_route 1 Allocating 0 0 (with_point 0 LiesPlus Minus (locked (1 ∷ 3 ∷ 4 ∷ []) at_rest))) ≡ []
an_overlap_point_may_lie_elsewhere = refl

-- V7.
an_occupied_route_leads : broken (with_route 0 Occupied 1 0 (locked (2 ∷ []) (used (1 ∷ []) (with_train Up (0 ∷ 1 ∷ []) at_rest)))) ≡ []
an_occupied_route_leads = refl

-- The head has just closed the source of a Locked route.
a_locked_route_leads : broken (with_route 0 Locked 0 0 (locked (1 ∷ 2 ∷ []) (with_train Up (0 ∷ 1 ∷ []) at_rest))) ≡ []
a_locked_route_leads = refl

-- The head is on no path of a set route, so its section isn't kept either.
no_route_leads : broken (with_train Up (1 ∷ []) at_rest) ≡ 7 ∷ 8 ∷ []
no_route_leads = refl

the_source_is_open : broken (with_route 0 Locked 0 0 (with_open 0 (locked (1 ∷ 2 ∷ []) (with_train Up (0 ∷ 1 ∷ []) at_rest)))) ≡ 5 ∷ 7 ∷ []
the_source_is_open = refl

the_route_runs_the_other_way : broken (with_route 4 Occupied 1 0 (locked (0 ∷ []) (used (1 ∷ []) (with_train Up (1 ∷ []) at_rest)))) ≡ 7 ∷ 8 ∷ []
the_route_runs_the_other_way = refl

the_route_is_allocating : broken (with_route 0 Allocating 0 0 (locked (1 ∷ 2 ∷ []) (with_train Up (1 ∷ []) at_rest))) ≡ 4 ∷ 7 ∷ 8 ∷ []
the_route_is_allocating = refl

more_is_seen : broken (with_route 0 Occupied 2 0 (used (1 ∷ 2 ∷ []) (with_train Up (1 ∷ []) at_rest))) ≡ 7 ∷ []
more_is_seen = refl

-- A later section of the path has another train. Route 1 also has the head on its path, with a
-- vacant rest, but is Free: all conditions must hold for one route.
a_later_section_has_a_train : broken (with_route 0 Occupied 1 0 (locked (2 ∷ []) (used (1 ∷ []) (with_train Up (2 ∷ []) (with_train Up (0 ∷ 1 ∷ []) at_rest))))) ≡ 7 ∷ []
a_later_section_has_a_train = refl

-- V8.
an_occupied_route_keeps_it : broken (with_route 0 Occupied 2 0 (used (1 ∷ 2 ∷ []) (with_train Up (1 ∷ 2 ∷ []) at_rest))) ≡ []
an_occupied_route_keeps_it = refl

it_is_released : broken (with_route 0 Occupied 2 1 (used (2 ∷ []) (with_train Up (1 ∷ 2 ∷ []) at_rest))) ≡ 8 ∷ []
it_is_released = refl

no_route_keeps_it : broken (with_train Up (1 ∷ 2 ∷ []) at_rest) ≡ 8 ∷ []
no_route_keeps_it = refl

the_route_that_keeps_it_runs_the_other_way : broken (with_route 4 Occupied 1 0 (locked (0 ∷ []) (used (1 ∷ []) (with_train Up (1 ∷ 2 ∷ []) at_rest)))) ≡ 8 ∷ []
the_route_that_keeps_it_runs_the_other_way = refl

the_route_that_keeps_it_is_allocating : broken (with_route 0 Allocating 0 0 (locked (1 ∷ 2 ∷ []) (with_train Up (1 ∷ 2 ∷ []) at_rest))) ≡ 4 ∷ 8 ∷ []
the_route_that_keeps_it_is_allocating = refl

-- V9.
a_protecting_board_is_open : broken (with_route 2 Locked 0 0 (with_route 0 Locked 0 0 (with_open 2 (with_open 0 (locked (1 ∷ 2 ∷ 4 ∷ 5 ∷ []) at_rest))))) ≡ 9 ∷ []
a_protecting_board_is_open = refl

an_occupied_route_does_not_ask : broken (with_route 2 Occupied 1 0 (with_route 0 Locked 0 0 (with_open 0 (locked (1 ∷ 2 ∷ 5 ∷ []) (used (4 ∷ []) at_rest))))) ≡ []
an_occupied_route_does_not_ask = refl
