-- Runs over small plants, by computation.
use Rattle.std.proofs.Common.{◌≡◌, ℕ, Option, Some, None, List, [], ◌∷◌, option_map, codes, refl}
use Rattle.ilk_plant.specs.Plant.{PlantLists}
use Rattle.ilk_plant.specs.Start.{start}
use Rattle.ilk_plant.specs.declared.network.Board.{Board}
use Rattle.ilk_plant.specs.declared.network.Dir.{Dir}
use Rattle.ilk_plant.specs.declared.network.Dir.TheVariants.{Up, Down}
use Rattle.ilk_plant.specs.declared.network.Position.{Position}
use Rattle.ilk_plant.specs.declared.network.Position.TheVariants.{Plus, Minus}
use Rattle.ilk_plant.specs.declared.network.Section.TheVariants.{Linear, Point}
use Rattle.ilk_plant.specs.declared.state.State.{State}
use Rattle.ilk_plant.specs.declared.state.Lie.TheVariants.{Plus as LiesPlus}
use Rattle.ilk_plant.specs.declared.table.Listed.{Listed}
use Rattle.ilk_plant.specs.declared.table.Route.{Route}
use Rattle.ilk_motion.specs.TwoSections.{two_section_plant}
use Rattle.ilk_model.specs.Hazard.{hazard}
use Rattle.ilk_model.specs.Run.{run}
use Rattle.ilk_model.specs.declared.event.Event.{Event}
use Rattle.ilk_model.specs.declared.event.Event.TheVariants.{Mark, Allocate, Lock, Sense, Release, Finish, Throw, Enter, Head, Tail}
use Rattle.ilk_model.specs.declared.hazards.HazardAt.{HazardAt}
use Rattle.ilk_model.specs.declared.hazards.HazardAt.TheVariants.{Two, Wrong}

-- The hazard, if any, after the run of these events from the initial state, or `None` if they are
-- not a run.
abbrev ends_in : PlantLists → List Event → Option (Option HazardAt)
ends_in p events = option_map (hazard p) (run p (start p) events)

-- A train enters each of sections a and b, and the first moves into b.
two_trains_meet : ends_in two_section_plant (Enter 0 ∷ Enter 1 ∷ Head 0 ∷ []) ≡ Some (Some (Two 1))
two_trains_meet = refl

-- Without a train no head moves. One train is no hazard, and a second can't enter its section.
no_train_moves : ends_in two_section_plant (Head 0 ∷ []) ≡ None
no_train_moves = refl

one_train : ends_in two_section_plant (Enter 0 ∷ []) ≡ Some None
one_train = refl

entry_is_taken : ends_in two_section_plant (Enter 0 ∷ Enter 0 ∷ []) ≡ None
entry_is_taken = refl

ends_at_hazard : ends_in two_section_plant (Enter 0 ∷ Enter 1 ∷ Head 0 ∷ Tail 0 ∷ []) ≡ None
ends_at_hazard = refl

abbrev board : ℕ → Dir → Board
board x d = record { section = x; dir = d }

abbrev route : ℕ → Option ℕ → List ℕ → List (ℕ × Position) → List ℕ → Route
route source destination path points conflicts = record {
  source = source;
  destination = destination;
  path = path;
  overlap = [];
  points = listed points;
  conflicts = conflicts;
  protecting_points = [];
  protecting_boards = [];
}
  where
    listed : List (ℕ × Position) → List Listed
    listed [] = []
    listed (entry ∷ rest) = record { point = entry.0; at = entry.1 } ∷ listed rest

-- Two sections with an entry board at each end, and a route from each board to the other section.
abbrev line_with_boards : PlantLists
line_with_boards = record {
  sections = Linear None (Some 1) None (Some 0) ∷ Linear (Some 0) None (Some 1) None ∷ [];
  boards = board 0 Up ∷ board 1 Down ∷ [];
  routes = route 0 None (1 ∷ []) [] [] ∷ route 1 None (0 ∷ []) [] [] ∷ [];
  section_names = codes "a" ∷ codes "b" ∷ [];
  board_names = codes "m1" ∷ codes "m2" ∷ [];
  route_names = codes "r1" ∷ codes "r2" ∷ [];
}

-- The first head closes the board, so the second can't pass it.
abbrev one_train_passes : List Event
one_train_passes = Mark 0 ∷ Allocate 0 ∷ Lock 0 ∷ Enter 0 ∷ Head 0 ∷ Tail 0 ∷ Enter 0 ∷ []

board_lets_one_pass : ends_in line_with_boards one_train_passes ≡ Some None
board_lets_one_pass = refl

board_is_closed : ends_in line_with_boards (Mark 0 ∷ Allocate 0 ∷ Lock 0 ∷ Enter 0 ∷ Head 0 ∷ Tail 0 ∷ Enter 0 ∷ Head 0 ∷ []) ≡ None
board_is_closed = refl

path_is_marked : ends_in line_with_boards (Enter 1 ∷ Mark 0 ∷ []) ≡ Some None
path_is_marked = refl

path_is_occupied : ends_in line_with_boards (Enter 1 ∷ Mark 0 ∷ Allocate 0 ∷ []) ≡ None
path_is_occupied = refl

-- A station: a border, a point that faces up, two tracks, a point that faces down, a border.
abbrev pub station : PlantLists
station = record {
  sections =
      Linear None (Some 1) None (Some 0)
      ∷ Point 0 2 3 Up
      ∷ Linear (Some 1) (Some 4) (Some 1) (Some 2)
      ∷ Linear (Some 1) (Some 4) (Some 3) (Some 4)
      ∷ Point 5 2 3 Down
      ∷ Linear (Some 4) None (Some 5) None
      ∷ [];
  boards = board 0 Up ∷ board 2 Down ∷ board 2 Up ∷ board 3 Down ∷ board 3 Up ∷ board 5 Down ∷ [];
  routes =
      route 0 (Some 2) (1 ∷ 2 ∷ []) ((1, Plus) ∷ []) (1 ∷ 4 ∷ 6 ∷ 7 ∷ [])
      ∷ route 0 (Some 4) (1 ∷ 3 ∷ []) ((1, Minus) ∷ []) (0 ∷ 5 ∷ 6 ∷ 7 ∷ [])
      ∷ route 2 None (4 ∷ 5 ∷ []) ((4, Plus) ∷ []) (3 ∷ 4 ∷ 5 ∷ [])
      ∷ route 4 None (4 ∷ 5 ∷ []) ((4, Minus) ∷ []) (2 ∷ 4 ∷ 5 ∷ [])
      ∷ route 5 (Some 1) (4 ∷ 2 ∷ []) ((4, Plus) ∷ []) (0 ∷ 2 ∷ 3 ∷ 5 ∷ [])
      ∷ route 5 (Some 3) (4 ∷ 3 ∷ []) ((4, Minus) ∷ []) (1 ∷ 2 ∷ 3 ∷ 4 ∷ [])
      ∷ route 1 None (1 ∷ 0 ∷ []) ((1, Plus) ∷ []) (0 ∷ 1 ∷ 7 ∷ [])
      ∷ route 3 None (1 ∷ 0 ∷ []) ((1, Minus) ∷ []) (0 ∷ 1 ∷ 6 ∷ [])
      ∷ [];
  section_names = codes "b1" ∷ codes "p1" ∷ codes "t1" ∷ codes "t2" ∷ codes "p2" ∷ codes "b2" ∷ [];
  board_names = codes "m1" ∷ codes "m4" ∷ codes "m3" ∷ codes "m6" ∷ codes "m5" ∷ codes "m2" ∷ [];
  route_names = codes "r1" ∷ codes "r2" ∷ codes "r3" ∷ codes "r4" ∷ codes "r5" ∷ codes "r6" ∷ codes "r7" ∷ codes "r8" ∷ [];
}

route_is_used : ends_in station (Mark 0 ∷ Allocate 0 ∷ Lock 0 ∷ Enter 0 ∷ Head 0 ∷ Sense 0 ∷ Head 1 ∷ Sense 0 ∷ Tail 0 ∷ Tail 1 ∷ Release 0 ∷ Finish 0 ∷ []) ≡ Some None
route_is_used = refl

-- An occupied section isn't released.
release_is_early : ends_in station (Mark 0 ∷ Allocate 0 ∷ Lock 0 ∷ Enter 0 ∷ Head 0 ∷ Sense 0 ∷ Head 1 ∷ Sense 0 ∷ Tail 0 ∷ Release 0 ∷ []) ≡ None
release_is_early = refl

point_lies_as_commanded : ends_in station (Mark 0 ∷ Allocate 0 ∷ Lock 0 ∷ Enter 0 ∷ Head 0 ∷ Throw 1 ∷ []) ≡ None
point_lies_as_commanded = refl

-- A train is on the first point, which is commanded to its other leg.
abbrev over_the_point : State
over_the_point = record (start station) {
  points = record { at = LiesPlus; to = Minus } ∷ record { at = LiesPlus; to = Plus } ∷ [];
  trains = record { dir = Up; body = 0 ∷ 1 ∷ [] } ∷ [];
}

point_thrown_under_train : option_map (hazard station) (run station over_the_point (Throw 1 ∷ [])) ≡ Some (Some (Wrong 1))
point_thrown_under_train = refl
