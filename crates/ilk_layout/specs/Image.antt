-- The image of a state: the values of the plant's variables, in order.
use Rattle.std.specs.Prelude.{ℕ, List, [], ◌∷◌, ◌++◌, map, length}
use Rattle.std.specs.List.{flat_map, range_with_len}
use Rattle.ilk_plant.specs.Plant.{PlantLists}
use Rattle.ilk_plant.specs.declared.state.PointState.{PointState}
use Rattle.ilk_plant.specs.declared.state.RouteState.{RouteState}
use Rattle.ilk_plant.specs.declared.state.State.{State}
use Rattle.ilk_layout.specs.Occupancy.{occupancy_or_crash}
use Rattle.ilk_layout.specs.Values.{aspect_value, lock_value, detected_value, mode_value, occupancy_value, commanded_value}

-- Returns the numbers of a route's mode and of its counts of seen and released sections.
abbrev pub route_values : RouteState → List ℕ
route_values now = mode_value now.mode ∷ now.seen ∷ now.rel ∷ []

-- Returns the numbers of a point's detected and commanded position.
abbrev pub point_values : PointState → List ℕ
point_values point = detected_value point.at ∷ commanded_value point.to ∷ []

-- Returns the numbers of the occupancies of all sections, in order.
abbrev pub occupancy_values : PlantLists → State → List ℕ
occupancy_values p s = map (λ x. occupancy_value (occupancy_or_crash p s x)) (range_with_len 0 (length p.sections))

-- Returns the image of state `s`: the numbers of its routes, points, boards, locks and occupancies.
abbrev pub image_of : PlantLists → State → List ℕ
image_of p s =
    flat_map route_values s.routes
    ++ (flat_map point_values s.points
    ++ (map aspect_value s.boards
    ++ (map lock_value s.locks
    ++ occupancy_values p s)))
