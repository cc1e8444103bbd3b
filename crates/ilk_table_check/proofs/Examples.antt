-- The violated rules of small example plants.
use Rattle.std.proofs.Common.{◌≡◌, ℕ, Option, Some, None, List, [], ◌∷◌, ◌++◌, refl}
use Rattle.std.specs.Prelude.{codes}
use Rattle.ilk_plant.specs.ColumnRules.{column_rules_broken}
use Rattle.ilk_plant.specs.Draft.{plant_from_drafts}
use Rattle.ilk_plant.specs.Name.{Name}
use Rattle.ilk_plant.specs.TableRules.{table_rules_broken}
use Rattle.ilk_plant.specs.declared.broken.Broken.{Broken}
use Rattle.ilk_plant.specs.declared.broken.Rule.{Rule}
use Rattle.ilk_plant.specs.declared.broken.Rule.TheVariants.{R1, R2, R3, R4, R5, R6, R7, R8, C3, C5, C6, C7, C8}
use Rattle.ilk_plant.specs.declared.draft.KindDraft.TheVariants.{Linear, Point}
use Rattle.ilk_plant.specs.declared.draft.ListedDraft.{ListedDraft}
use Rattle.ilk_plant.specs.declared.draft.NetDraft.{NetDraft}
use Rattle.ilk_plant.specs.declared.draft.RouteDraft.{RouteDraft}
use Rattle.ilk_plant.specs.declared.draft.SectionDraft.{SectionDraft}
use Rattle.ilk_plant.specs.declared.draft.TableDraft.{TableDraft}
use Rattle.ilk_plant.specs.declared.network.Dir.TheVariants.{Up, Down}
use Rattle.ilk_plant.specs.declared.network.Position.TheVariants.{Plus, Minus}

linear : Name → Option Name → Option Name → Option Name → Option Name → SectionDraft
linear name down up board_down board_up = record { name = name; kind = Linear down up board_down board_up }

route : Name → Name → Option Name → List Name → List ListedDraft → List Name → RouteDraft
route name source destination path points conflicts = record {
  name = name;
  source = source;
  destination = destination;
  path = path;
  overlap = [];
  points = points;
  conflicts = conflicts;
  protecting_points = [];
  protecting_boards = [];
}

at : Rule → ℕ → Broken
at rule i = record { rule = rule; first = i; second = None }

at_pair : Rule → ℕ → ℕ → Broken
at_pair rule i j = record { rule = rule; first = i; second = Some j }

line : NetDraft
line = record { sections = linear (codes "a") None (Some (codes "b")) None (Some (codes "m1")) ∷ linear (codes "b") (Some (codes "a")) None (Some (codes "m2")) None ∷ [] }

line_table : TableDraft
line_table = record { routes = route (codes "r1") (codes "m1") None (codes "b" ∷ []) [] [] ∷ route (codes "r2") (codes "m2") None (codes "a" ∷ []) [] [] ∷ [] }

bare_line : NetDraft
bare_line = record { sections = linear (codes "a") None (Some (codes "b")) None None ∷ linear (codes "b") (Some (codes "a")) None None None ∷ [] }

no_table : TableDraft
no_table = record { routes = [] }

-- A station of two tracks between two points, with a route for each path through.
station : NetDraft
station = record {
  sections =
      linear (codes "b1") None (Some (codes "p1")) None (Some (codes "m1"))
      ∷ record { name = codes "p1"; kind = Point (codes "b1") (codes "t1") (codes "t2") Up }
      ∷ linear (codes "t1") (Some (codes "p1")) (Some (codes "p2")) (Some (codes "m4")) (Some (codes "m3"))
      ∷ linear (codes "t2") (Some (codes "p1")) (Some (codes "p2")) (Some (codes "m6")) (Some (codes "m5"))
      ∷ record { name = codes "p2"; kind = Point (codes "b2") (codes "t1") (codes "t2") Down }
      ∷ linear (codes "b2") (Some (codes "p2")) None (Some (codes "m2")) None
      ∷ [];
}

plus : Name → List ListedDraft
plus name = record { point = name; at = Plus } ∷ []

minus : Name → List ListedDraft
minus name = record { point = name; at = Minus } ∷ []

-- The routes of the station; the first has these points and conflicts.
station_table : List ListedDraft → List Name → TableDraft
station_table points conflicts = record {
  routes =
      route (codes "r1") (codes "m1") (Some (codes "m3")) (codes "p1" ∷ codes "t1" ∷ []) points conflicts
      ∷ route (codes "r2") (codes "m1") (Some (codes "m5")) (codes "p1" ∷ codes "t2" ∷ []) (minus (codes "p1")) (codes "r1" ∷ codes "r6" ∷ codes "r7" ∷ codes "r8" ∷ [])
      ∷ route (codes "r3") (codes "m3") None (codes "p2" ∷ codes "b2" ∷ []) (plus (codes "p2")) (codes "r4" ∷ codes "r5" ∷ codes "r6" ∷ [])
      ∷ route (codes "r4") (codes "m5") None (codes "p2" ∷ codes "b2" ∷ []) (minus (codes "p2")) (codes "r3" ∷ codes "r5" ∷ codes "r6" ∷ [])
      ∷ route (codes "r5") (codes "m2") (Some (codes "m4")) (codes "p2" ∷ codes "t1" ∷ []) (plus (codes "p2")) (codes "r1" ∷ codes "r3" ∷ codes "r4" ∷ codes "r6" ∷ [])
      ∷ route (codes "r6") (codes "m2") (Some (codes "m6")) (codes "p2" ∷ codes "t2" ∷ []) (minus (codes "p2")) (codes "r2" ∷ codes "r3" ∷ codes "r4" ∷ codes "r5" ∷ [])
      ∷ route (codes "r7") (codes "m4") None (codes "p1" ∷ codes "b1" ∷ []) (plus (codes "p1")) (codes "r1" ∷ codes "r2" ∷ codes "r8" ∷ [])
      ∷ route (codes "r8") (codes "m6") None (codes "p1" ∷ codes "b1" ∷ []) (minus (codes "p1")) (codes "r1" ∷ codes "r2" ∷ codes "r7" ∷ [])
      ∷ [];
}

first_conflicts : List Name
first_conflicts = codes "r2" ∷ codes "r5" ∷ codes "r7" ∷ codes "r8" ∷ []

-- The routes of the station; the first has these protecting points and boards.
protected_table : List ListedDraft → List Name → TableDraft
protected_table points boards = record { routes = protect (station_table (plus (codes "p1")) first_conflicts).routes }
  where
    protect : List RouteDraft → List RouteDraft
    protect [] = []
    protect (r ∷ rest) = record r { protecting_points = points; protecting_boards = boards } ∷ rest

line-table : table_rules_broken line line_table ≡ []
unfolding line line_table linear route
line-table = refl

line-columns : column_rules_broken (plant_from_drafts line line_table) ≡ []
unfolding line line_table linear route
line-columns = refl

-- Both borders lack their boards; R does not check that.
bare-table : table_rules_broken bare_line no_table ≡ []
unfolding bare_line no_table linear
bare-table = refl

bare-columns : column_rules_broken (plant_from_drafts bare_line no_table) ≡ at C7 0 ∷ at C7 1 ∷ []
unfolding bare_line no_table linear at
bare-columns = refl

station-table : table_rules_broken station (station_table (plus (codes "p1")) first_conflicts) ≡ []
unfolding station station_table linear route plus minus first_conflicts
station-table = refl

station-columns : column_rules_broken (plant_from_drafts station (station_table (plus (codes "p1")) first_conflicts)) ≡ []
unfolding station station_table linear route plus minus first_conflicts
station-columns = refl

station-wrong_leg : column_rules_broken (plant_from_drafts station (station_table (minus (codes "p1")) first_conflicts)) ≡ at C3 0 ∷ []
unfolding station station_table linear route plus minus first_conflicts at
station-wrong_leg = refl

station-alone : column_rules_broken (plant_from_drafts station (station_table (plus (codes "p1")) [])) ≡ at_pair C5 1 0 ∷ at_pair C5 4 0 ∷ at_pair C5 6 0 ∷ at_pair C5 7 0 ∷ at_pair C6 0 1 ∷ at_pair C6 0 4 ∷ at_pair C6 0 6 ∷ at_pair C6 0 7 ∷ []
unfolding station station_table linear route plus minus at_pair
station-alone = refl

-- A route that lists itself, a route that does not exist, and a duplicate.
station-conflicts :
    table_rules_broken station (station_table (plus (codes "p1")) (codes "r1" ∷ []))
    ++ table_rules_broken station (station_table (plus (codes "p1")) (codes "r9" ∷ []))
    ++ table_rules_broken station (station_table (plus (codes "p1")) (codes "r2" ∷ codes "r2" ∷ []))
    ≡ at R6 0 ∷ at R6 0 ∷ at R6 0 ∷ []
unfolding station station_table linear route plus minus at
station-conflicts = refl

-- A listed point that is not a point section, one that is not in the path, and a duplicate.
station-points :
    table_rules_broken station (station_table (plus (codes "t1")) first_conflicts)
    ++ table_rules_broken station (station_table (plus (codes "p2")) first_conflicts)
    ++ table_rules_broken station
    (station_table (plus (codes "p1") ++ minus (codes "p1")) first_conflicts)
    ≡ at R4 0 ∷ at R4 0 ∷ at R4 0 ∷ []
unfolding station station_table linear route plus minus first_conflicts at
station-points = refl

-- A protecting point of the path, one that is not a point section, and a duplicate.
station-protecting_points :
    table_rules_broken station (protected_table (plus (codes "p1")) [])
    ++ table_rules_broken station (protected_table (plus (codes "t1")) [])
    ++ table_rules_broken station (protected_table (minus (codes "p2") ++ minus (codes "p2")) [])
    ≡ at R7 0 ∷ at R7 0 ∷ at R7 0 ∷ []
unfolding station station_table protected_table linear route plus minus first_conflicts at
station-protecting_points = refl

-- A protecting board that is the source, one that does not exist, and a duplicate.
station-protecting_boards :
    table_rules_broken station (protected_table [] (codes "m1" ∷ []))
    ++ table_rules_broken station (protected_table [] (codes "m9" ∷ []))
    ++ table_rules_broken station (protected_table [] (codes "m3" ∷ codes "m3" ∷ []))
    ≡ at R8 0 ∷ at R8 0 ∷ at R8 0 ∷ []
unfolding station station_table protected_table linear route plus minus first_conflicts at
station-protecting_boards = refl

station-shared_point : column_rules_broken (plant_from_drafts station (protected_table (minus (codes "p2")) [])) ≡ at_pair C6 0 2 ∷ at_pair C6 0 3 ∷ at_pair C6 0 5 ∷ []
unfolding station station_table protected_table linear route plus minus first_conflicts at_pair
station-shared_point = refl

station-closed_board : column_rules_broken (plant_from_drafts station (protected_table [] (codes "m3" ∷ []))) ≡ at_pair C8 0 2 ∷ []
unfolding station station_table protected_table linear route plus minus first_conflicts at_pair
station-closed_board = refl

wrong_table : TableDraft
wrong_table = record { routes = route (codes "r1") (codes "m1") None (codes "b" ∷ []) [] [] ∷ route (codes "r1") (codes "m3") (Some (codes "m4")) (codes "a" ∷ codes "c" ∷ codes "a" ∷ []) [] [] ∷ [] }

wrong-table : table_rules_broken line wrong_table ≡ at R1 1 ∷ at R2 1 ∷ at R3 1 ∷ at R5 1 ∷ []
unfolding line wrong_table linear route at
wrong-table = refl
