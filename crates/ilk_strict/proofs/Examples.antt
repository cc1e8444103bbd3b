-- Strict safety on example plants: a strict table, and one that is strict without listed conflicts.
-- For each rule that is used, a plant that breaks only this rule, with a run to a hazard or out of
-- the invariant.
use Rattle.std.proofs.Common.{◌≡◌, ℕ, ◌<◌, Bool, true, false, not, Option, Some, None, List, [], ◌∷◌, option_map, codes, is_some, map, unwrap_or, refl}
use Rattle.ilk_base.specs.Each.{is_true_for_all_below}
use Rattle.ilk_base.proofs.Truth.{fails}
use Rattle.ilk_plant.specs.ColumnRules.{breaks_column_rule_at, column_rules_broken}
use Rattle.ilk_plant.specs.Plant.{PlantLists}
use Rattle.ilk_plant.specs.Start.{start}
use Rattle.ilk_plant.specs.TableRules.{route_fails}
use Rattle.ilk_plant.specs.declared.broken.Broken.{Broken}
use Rattle.ilk_plant.specs.declared.broken.Rule.{Rule}
use Rattle.ilk_plant.specs.declared.broken.Rule.TheVariants.{C1, C2, C3, C7}
use Rattle.ilk_plant.specs.declared.network.Board.{Board}
use Rattle.ilk_plant.specs.declared.network.Dir.{Dir}
use Rattle.ilk_plant.specs.declared.network.Dir.TheVariants.{Up, Down}
use Rattle.ilk_plant.specs.declared.network.Section.TheVariants.{Linear, Point}
use Rattle.ilk_plant.specs.declared.state.State.{State}
use Rattle.ilk_plant.specs.declared.table.Route.{Route}
use Rattle.ilk_model.specs.Event.{next}
use Rattle.ilk_model.specs.Hazard.{hazard}
use Rattle.ilk_model.specs.Meets.{first_broken_family}
use Rattle.ilk_model.specs.Run.{run}
use Rattle.ilk_model.specs.declared.event.Event.{Event}
use Rattle.ilk_model.specs.declared.event.Event.TheVariants.{Mark, Allocate, Lock, Enter, Head}
use Rattle.ilk_model.specs.declared.hazards.HazardAt.{HazardAt}
use Rattle.ilk_model.specs.declared.hazards.HazardAt.TheVariants.{Two, Wrong}
use Rattle.ilk_model.proofs.Examples.{station}
use Rattle.ilk_strict.specs.IsStrict.{IsStrict, does_not_end_between_boards, path_points_listed_along_path}
use Rattle.ilk_strict.proofs.Reading.{is_true_for_all_below-at}
use Rattle.ilk_strict.proofs.Strict.{strict_from_list, strict_from_rules}

station_is_clean : column_rules_broken station ≡ []
station_is_clean = refl

station_is_strict : IsStrict station
station_is_strict = strict_from_list station station_is_clean

abbrev without_conflicts : PlantLists
without_conflicts = record station { routes = map (λ (route : Route). record route { conflicts = [] }) station.routes }

kept-below : (n : ℕ) (test : ℕ → Bool) → is_true_for_all_below n (λ i. not (test i)) ≡ true → (i : ℕ) → i < n → test i ≡ false
kept-below n test h i less = fails (test i) (is_true_for_all_below-at n (λ j. not (test j)) h i less)

without_conflicts_is_strict : IsStrict without_conflicts
without_conflicts_is_strict = strict_from_rules without_conflicts (record {
  c1 = kept-below 8 (breaks_column_rule_at without_conflicts C1) refl;
  c2 = kept-below 8 (route_fails without_conflicts (does_not_end_between_boards without_conflicts)) refl;
  c3 = kept-below 8 (route_fails without_conflicts (path_points_listed_along_path without_conflicts)) refl;
  c7 = kept-below 6 (breaks_column_rule_at without_conflicts C7) refl;
})

abbrev without_destinations : PlantLists
without_destinations = record station { routes = map (λ (route : Route). record route { destination = None }) station.routes }

first_breaks_c2 : breaks_column_rule_at without_destinations C2 0 ≡ true
first_breaks_c2 = refl

without_destinations_is_strict : IsStrict without_destinations
without_destinations_is_strict = strict_from_rules without_destinations (record {
  c1 = kept-below 8 (breaks_column_rule_at without_destinations C1) refl;
  c2 = kept-below 8 (route_fails without_destinations (does_not_end_between_boards without_destinations)) refl;
  c3 = kept-below 8 (route_fails without_destinations (path_points_listed_along_path without_destinations)) refl;
  c7 = kept-below 6 (breaks_column_rule_at without_destinations C7) refl;
})

abbrev board : ℕ → Dir → Board
board x d = record { section = x; dir = d }

abbrev route : ℕ → List ℕ → Route
route source path = record {
  source = source;
  destination = None;
  path = path;
  overlap = [];
  points = [];
  conflicts = [];
  protecting_points = [];
  protecting_boards = [];
}

-- A line of two sections with a board at each end, and a route each way.
abbrev line_with_boards : PlantLists
line_with_boards = record {
  sections = Linear None (Some 1) None (Some 0) ∷ Linear (Some 0) None (Some 1) None ∷ [];
  boards = board 0 Up ∷ board 1 Down ∷ [];
  routes = route 0 (1 ∷ []) ∷ route 1 (0 ∷ []) ∷ [];
  section_names = codes "a" ∷ codes "b" ∷ [];
  board_names = codes "m1" ∷ codes "m2" ∷ [];
  route_names = codes "r1" ∷ codes "r2" ∷ [];
}

abbrev are_done : PlantLists → State → List Event → List Bool
are_done p s [] = []
are_done p s (event ∷ rest) = is_some (next p s event) ∷ are_done p (unwrap_or (next p s event) s) rest

second_train_has_no_room : are_done line_with_boards (start line_with_boards) (Enter 0 ∷ Mark 0 ∷ Allocate 0 ∷ Lock 0 ∷ Head 0 ∷ Enter 1 ∷ []) ≡ true ∷ true ∷ true ∷ true ∷ true ∷ false ∷ []
second_train_has_no_room = refl

abbrev broken_alone : Rule → ℕ → List Broken
broken_alone rule i = record { rule = rule; first = i; second = None } ∷ []

abbrev ends_in : PlantLists → List Event → Option (Option HazardAt)
ends_in p events = option_map (hazard p) (run p (start p) events)

-- C1: on a line of three sections, the path from the first omits the second.
abbrev leaves_out : PlantLists
leaves_out = record {
  sections =
      Linear None (Some 1) None (Some 0) ∷ Linear (Some 0) (Some 2) None None ∷ Linear (Some 1) None (Some 1) None ∷ [];
  boards = board 0 Up ∷ board 2 Down ∷ [];
  routes = route 0 (2 ∷ []) ∷ [];
  section_names = codes "a" ∷ codes "b" ∷ codes "c" ∷ [];
  board_names = codes "m1" ∷ codes "m2" ∷ [];
  route_names = codes "r1" ∷ [];
}

leaves_out_breaks_c1 : column_rules_broken leaves_out ≡ broken_alone C1 0
leaves_out_breaks_c1 = refl

leaves_out_breaks_v7 : option_map (first_broken_family leaves_out) (run leaves_out (start leaves_out) (Mark 0 ∷ Allocate 0 ∷ Lock 0 ∷ Enter 0 ∷ Head 0 ∷ [])) ≡ Some (Some 7)
leaves_out_breaks_v7 = refl

-- C1: the path leads from one line of two sections to another.
abbrev goes_elsewhere : PlantLists
goes_elsewhere = record {
  sections =
      Linear None (Some 1) None (Some 0)
      ∷ Linear (Some 0) None (Some 1) None
      ∷ Linear None (Some 3) None (Some 2)
      ∷ Linear (Some 2) None (Some 3) None
      ∷ [];
  boards = board 0 Up ∷ board 1 Down ∷ board 2 Up ∷ board 3 Down ∷ [];
  routes = route 0 (3 ∷ []) ∷ [];
  section_names = codes "a" ∷ codes "b" ∷ codes "c" ∷ codes "d" ∷ [];
  board_names = codes "m1" ∷ codes "m2" ∷ codes "m3" ∷ codes "m4" ∷ [];
  route_names = codes "r1" ∷ [];
}

goes_elsewhere_breaks_c1 : column_rules_broken goes_elsewhere ≡ broken_alone C1 0
goes_elsewhere_breaks_c1 = refl

goes_elsewhere_is_unsafe : ends_in goes_elsewhere (Mark 0 ∷ Allocate 0 ∷ Lock 0 ∷ Enter 0 ∷ Enter 1 ∷ Head 0 ∷ []) ≡ Some (Some (Two 1))
goes_elsewhere_is_unsafe = refl

-- C2: on a line of three sections, the path ends at the second, which has no board.
abbrev ends_openly : PlantLists
ends_openly = record leaves_out { routes = route 0 (1 ∷ []) ∷ [] }

ends_openly_breaks_c2 : column_rules_broken ends_openly ≡ broken_alone C2 0
ends_openly_breaks_c2 = refl

ends_openly_is_unsafe : ends_in ends_openly (Mark 0 ∷ Allocate 0 ∷ Lock 0 ∷ Enter 0 ∷ Enter 2 ∷ Head 0 ∷ Head 1 ∷ []) ≡ Some (Some (Two 2))
ends_openly_is_unsafe = refl

-- C3: the route from the minus leg of a point doesn't list the point.
abbrev lists_no_point : PlantLists
lists_no_point = record {
  sections =
      Linear None (Some 1) None (Some 0)
      ∷ Point 0 2 3 Up
      ∷ Linear (Some 1) None (Some 1) None
      ∷ Linear (Some 1) None (Some 2) None
      ∷ [];
  boards = board 0 Up ∷ board 2 Down ∷ board 3 Down ∷ [];
  routes = route 2 (1 ∷ 0 ∷ []) ∷ [];
  section_names = codes "a" ∷ codes "p" ∷ codes "b" ∷ codes "c" ∷ [];
  board_names = codes "m1" ∷ codes "m2" ∷ codes "m3" ∷ [];
  route_names = codes "r1" ∷ [];
}

lists_no_point_breaks_c3 : column_rules_broken lists_no_point ≡ broken_alone C3 0
lists_no_point_breaks_c3 = refl

lists_no_point_is_unsafe : ends_in lists_no_point (Mark 0 ∷ Allocate 0 ∷ Lock 0 ∷ Enter 3 ∷ Head 3 ∷ []) ≡ Some (Some (Wrong 1))
lists_no_point_is_unsafe = refl

-- C7: a line of two sections has a board at only one end.
abbrev enters_freely : PlantLists
enters_freely = record {
  sections = Linear None (Some 1) None None ∷ Linear (Some 0) None (Some 0) None ∷ [];
  boards = board 1 Down ∷ [];
  routes = [];
  section_names = codes "a" ∷ codes "b" ∷ [];
  board_names = codes "m1" ∷ [];
  route_names = [];
}

enters_freely_breaks_c7 : column_rules_broken enters_freely ≡ broken_alone C7 0
enters_freely_breaks_c7 = refl

enters_freely_is_unsafe : ends_in enters_freely (Enter 0 ∷ Enter 1 ∷ Head 0 ∷ []) ≡ Some (Some (Two 1))
enters_freely_is_unsafe = refl
