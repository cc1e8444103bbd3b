-- The variables of a plant: their order, numbers and ranges. First come, for each route, its mode
-- and its counts of seen and released path sections. Next are, for each point, its detected and its
-- commanded position. The boards, the locks and the occupancies of the sections follow.
use Rattle.std.specs.Prelude.{ℕ, ◌+◌, ◌*◌, List, [], ◌∷◌, ◌++◌, length, replicate}
use Rattle.std.specs.List.{flat_map}
use Rattle.ilk_plant.specs.Plant.{PlantLists, point_count}
use Rattle.ilk_plant.specs.declared.table.Route.{Route}

abbrev pub mode_var : ℕ → ℕ
mode_var r = 3 * r

abbrev pub seen_count_var : ℕ → ℕ
seen_count_var r = 3 * r + 1

abbrev pub released_count_var : ℕ → ℕ
released_count_var r = 3 * r + 2

-- Returns the number of the points' first variable.
abbrev pub points_begin : PlantLists → ℕ
points_begin p = 3 * length p.routes

-- Returns the number of the boards' first variable.
abbrev pub boards_begin : PlantLists → ℕ
boards_begin p = points_begin p + 2 * point_count p

-- Returns the number of the locks' first variable.
abbrev pub locks_begin : PlantLists → ℕ
locks_begin p = boards_begin p + length p.boards

-- Returns the number of the occupancies' first variable.
abbrev pub occupancies_begin : PlantLists → ℕ
occupancies_begin p = locks_begin p + length p.sections

-- Returns the number of the variable for the detected position of point number `n`.
abbrev pub detected_var : PlantLists → ℕ → ℕ
detected_var p n = points_begin p + 2 * n

-- Returns the number of the variable for the commanded position of point number `n`.
abbrev pub commanded_var : PlantLists → ℕ → ℕ
commanded_var p n = points_begin p + 2 * n + 1

abbrev pub board_var : PlantLists → ℕ → ℕ
board_var p m = boards_begin p + m

abbrev pub lock_var : PlantLists → ℕ → ℕ
lock_var p x = locks_begin p + x

abbrev pub occupancy_var : PlantLists → ℕ → ℕ
occupancy_var p x = occupancies_begin p + x

-- Returns how many values a route's three variables have: five modes, and counts of seen and of
-- released sections up to the path's length.
abbrev pub route_ranges : Route → List ℕ
route_ranges route = 5 ∷ (length route.path + 1) ∷ (length route.path + 1) ∷ []

-- Returns how many values the variables of `n` points have: three detected and two commanded
-- positions for each.
abbrev pub points_ranges : ℕ → List ℕ
points_ranges n = flat_map (λ range. range) (replicate n (3 ∷ 2 ∷ []))

-- Returns how many values each variable of the plant has, in the variables' order.
abbrev pub ranges_of_plant : PlantLists → List ℕ
ranges_of_plant p =
    flat_map route_ranges p.routes
    ++ (points_ranges (point_count p)
    ++ (replicate (length p.boards) 2
    ++ (replicate (length p.sections) 3
    ++ replicate (length p.sections) 10)))
