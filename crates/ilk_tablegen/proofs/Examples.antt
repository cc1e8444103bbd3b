-- The routes of example networks: a passing loop, a line without boards, and lines just short
-- enough and just too long.
use Rattle.std.proofs.Common.{◌≡◌, ℕ, ◌+◌, ◌-◌, ◌==◌, if◌then◌else◌, Option, Some, None, List, [], ◌∷◌, codes, map, length, refl}
use Rattle.std.specs.List.{range_with_len}
use Rattle.ilk_plant.specs.Plant.{PlantLists}
use Rattle.ilk_plant.specs.declared.network.Board.{Board}
use Rattle.ilk_plant.specs.declared.network.Dir.{Dir}
use Rattle.ilk_plant.specs.declared.network.Dir.TheVariants.{Up, Down}
use Rattle.ilk_plant.specs.declared.network.Position.{Position}
use Rattle.ilk_plant.specs.declared.network.Position.TheVariants.{Plus, Minus}
use Rattle.ilk_plant.specs.declared.network.Section.TheVariants.{Linear, Point}
use Rattle.ilk_plant.specs.declared.table.Listed.{Listed}
use Rattle.ilk_plant.specs.declared.table.Route.{Route}
use Rattle.ilk_tablegen.specs.Routes.{network_routes}
use Rattle.ilk_tablegen.specs.Table.{generation_result}
use Rattle.ilk_tablegen.specs.declared.walks.Walks.TheVariants.{Routes, TooLong}

abbrev board : ℕ → Dir → Board
board x d = record { section = x; dir = d }

abbrev at : ℕ → Position → Listed
at x position = record { point = x; at = position }

abbrev route : ℕ → Option ℕ → List ℕ → List Listed → List ℕ → Route
route source destination path points conflicts = record {
  source = source;
  destination = destination;
  path = path;
  overlap = [];
  points = points;
  conflicts = conflicts;
  protecting_points = [];
  protecting_boards = [];
}

-- A passing loop: b1 0, point p1 1, tracks t1 2 and t2 3, point p2 4, b2 5.
abbrev passing_loop : PlantLists
passing_loop = record {
  sections =
      Linear None (Some 1) None (Some 0)
      ∷ Point 0 2 3 Up
      ∷ Linear (Some 1) (Some 4) (Some 1) (Some 2)
      ∷ Linear (Some 1) (Some 4) (Some 3) (Some 4)
      ∷ Point 5 2 3 Down
      ∷ Linear (Some 4) None (Some 5) None
      ∷ [];
  boards = board 0 Up ∷ board 2 Down ∷ board 2 Up ∷ board 3 Down ∷ board 3 Up ∷ board 5 Down ∷ [];
  routes = [];
  section_names = codes "b1" ∷ codes "p1" ∷ codes "t1" ∷ codes "t2" ∷ codes "p2" ∷ codes "b2" ∷ [];
  board_names = codes "m1" ∷ codes "m4" ∷ codes "m3" ∷ codes "m6" ∷ codes "m5" ∷ codes "m2" ∷ [];
  route_names = [];
}

-- Each board leads over one point; from the ends of the line, the plus leg comes first.
passing_loop_routes :
    network_routes passing_loop
    ≡ route 0 (Some 2) (1 ∷ 2 ∷ []) (at 1 Plus ∷ []) (1 ∷ 2 ∷ 4 ∷ 6 ∷ [])
    ∷ route 0 (Some 4) (1 ∷ 3 ∷ []) (at 1 Minus ∷ []) (0 ∷ 2 ∷ 4 ∷ 7 ∷ [])
    ∷ route 1 None (1 ∷ 0 ∷ []) (at 1 Plus ∷ []) (0 ∷ 1 ∷ 4 ∷ [])
    ∷ route 2 None (4 ∷ 5 ∷ []) (at 4 Plus ∷ []) (5 ∷ 6 ∷ 7 ∷ [])
    ∷ route 3 None (1 ∷ 0 ∷ []) (at 1 Minus ∷ []) (0 ∷ 1 ∷ 2 ∷ [])
    ∷ route 4 None (4 ∷ 5 ∷ []) (at 4 Minus ∷ []) (3 ∷ 6 ∷ 7 ∷ [])
    ∷ route 5 (Some 1) (4 ∷ 2 ∷ []) (at 4 Plus ∷ []) (0 ∷ 3 ∷ 5 ∷ 7 ∷ [])
    ∷ route 5 (Some 3) (4 ∷ 3 ∷ []) (at 4 Minus ∷ []) (1 ∷ 3 ∷ 5 ∷ 6 ∷ [])
    ∷ []
passing_loop_routes = refl

-- Two sections without boards have no route.
abbrev bare_line : PlantLists
bare_line = record {
  sections = Linear None (Some 1) None None ∷ Linear (Some 0) None None None ∷ [];
  boards = [];
  routes = [];
  section_names = codes "a" ∷ codes "b" ∷ [];
  board_names = [];
  route_names = [];
}

bare_line_routes : generation_result bare_line ≡ Routes (record { routes = [] })
bare_line_routes = refl

-- A line of n sections, with a board at each end, without names.
abbrev line : ℕ → PlantLists
line n = record {
  sections = map (λ x. Linear (if x == 0 then None else Some (x - 1)) (if x == n - 1 then None else Some (x + 1)) (if x == n - 1 then Some 1 else None) (if x == 0 then Some 0 else None)) (range_with_len 0 n);
  boards = board 0 Up ∷ board (n - 1) Down ∷ [];
  routes = [];
  section_names = [];
  board_names = [];
  route_names = [];
}

-- With 33 sections, each end has 32 beyond it.
line_of_33 : map (λ (r : Route). length r.path) (network_routes (line 33)) ≡ 32 ∷ 32 ∷ []
line_of_33 = refl

line_of_34 : generation_result (line 34) ≡ TooLong 0
line_of_34 = refl
