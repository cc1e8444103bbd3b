-- The state decoded from the values of an image, part by part. Used only in private contracts.
use Rattle.std.specs.Prelude.{ℕ, ◌+◌, ◌*◌, true, false, Option, Some, None, List, [], ◌∷◌, filter_map, get_or, length, map, option_map, slice_get}
use Rattle.std.specs.List.{range_with_len}
use Rattle.ilk_plant.specs.Plant.{PlantLists, point_count}
use Rattle.ilk_plant.specs.declared.network.Dir.{Dir}
use Rattle.ilk_plant.specs.declared.state.Aspect.{Aspect}
use Rattle.ilk_plant.specs.declared.state.Hold.{Hold}
use Rattle.ilk_plant.specs.declared.state.PointState.{PointState}
use Rattle.ilk_plant.specs.declared.state.RouteState.{RouteState}
use Rattle.ilk_plant.specs.declared.state.State.{State}
use Rattle.ilk_plant.specs.declared.state.Train.{Train}
use Rattle.ilk_motion.specs.Ahead.{ahead}
use Rattle.ilk_layout.specs.Decoded.{iterates_until_none}
use Rattle.ilk_layout.specs.Variables.{boards_begin, locks_begin, mode_var, occupancies_begin, points_begin, released_count_var, seen_count_var}
use Rattle.ilk_layout.specs.declared.values.Occupancy.{Occupancy}
use Rattle.ilk_layout.specs.declared.values.Occupancy.TheVariants.{Vacant, Taken, Crash}
use Rattle.ilk_decode.specs.Numbered.{aspect_from_number, lock_state_from_number, lie_from_number, mode_from_number, occupancy_from_number, position_from_number}

-- Returns the state of route `r` by these values.
abbrev pub decoded_route : List ℕ → ℕ → RouteState
decoded_route values r = record { mode = mode_from_number (get_or values (mode_var r) 0); seen = get_or values (seen_count_var r) 0; rel = get_or values (released_count_var r) 0 }

-- Returns the state of point number `n` by these values. `begin` is the points' first variable.
abbrev pub decoded_point : List ℕ → ℕ → ℕ → PointState
decoded_point values begin n = record { at = lie_from_number (get_or values (begin + 2 * n) 0); to = position_from_number (get_or values (begin + 2 * n + 1) 0) }

-- Returns the aspect of board `m` by these values. `begin` is the boards' first variable.
abbrev pub decoded_board : List ℕ → ℕ → ℕ → Aspect
decoded_board values begin m = aspect_from_number (get_or values (begin + m) 0)

-- Returns the lock of section `x` by these values. `begin` is the locks' first variable.
abbrev pub decoded_lock_state : List ℕ → ℕ → ℕ → Hold
decoded_lock_state values begin x = lock_state_from_number (get_or values (begin + x) 0)

-- Returns the occupancy of section `x` by these values. `begin` is the occupancies' first variable.
abbrev pub decoded_occupancy : List ℕ → ℕ → ℕ → Occupancy
decoded_occupancy values begin x = occupancy_from_number (get_or values (begin + x) 0)

-- Returns the state that has these values for its routes, points, boards and locks, but no trains.
abbrev pub decoded_without_trains : PlantLists → List ℕ → State
decoded_without_trains p values = record {
  routes = map (decoded_route values) (range_with_len 0 (length p.routes));
  points = map (decoded_point values (points_begin p)) (range_with_len 0 (point_count p));
  boards = map (decoded_board values (boards_begin p)) (range_with_len 0 (length p.boards));
  locks = map (decoded_lock_state values (locks_begin p)) (range_with_len 0 (length p.sections));
  trains = [];
}

-- Returns the occupancies of all sections by these values, in order.
abbrev pub decoded_occupancies : PlantLists → List ℕ → List Occupancy
decoded_occupancies p values = map (decoded_occupancy values (occupancies_begin p)) (range_with_len 0 (length p.sections))

-- Returns the next section towards the head, in the body of the train on `x`. Returns `None` if the
-- head is at `x`, or no train is.
abbrev pub next_in_body : PlantLists → State → List Occupancy → ℕ → Option ℕ
next_in_body p s occupancies x = by_occupancy (slice_get occupancies x)
  where
    by_occupancy : Option Occupancy → Option ℕ
    by_occupancy None = None
    by_occupancy (Some Vacant) = None
    by_occupancy (Some Crash) = None
    by_occupancy (Some (Taken d tail true)) = None
    by_occupancy (Some (Taken d tail false)) = ahead p s x d

-- Returns the direction of the train with its tail at `x`. Returns `None` if no tail is there.
abbrev pub direction_of_train_with_tail : List Occupancy → ℕ → Option Dir
direction_of_train_with_tail occupancies x = by_occupancy (slice_get occupancies x)
  where
    by_occupancy : Option Occupancy → Option Dir
    by_occupancy None = None
    by_occupancy (Some Vacant) = None
    by_occupancy (Some Crash) = None
    by_occupancy (Some (Taken d false head)) = None
    by_occupancy (Some (Taken d true head)) = Some d

-- Returns the train with its tail at `x`. Returns `None` if no tail is there.
abbrev pub train_with_tail : PlantLists → State → List Occupancy → ℕ → Option Train
train_with_tail p s occupancies x =
    option_map (λ d. record { dir = d; body = x ∷ iterates_until_none (length p.sections) (next_in_body p s occupancies) x }) (direction_of_train_with_tail occupancies x)

-- Returns the trains, in ascending order of the sections of their tails.
abbrev pub trains_by_tails : PlantLists → State → List Occupancy → List Train
trains_by_tails p s occupancies = filter_map (train_with_tail p s occupancies) (range_with_len 0 (length p.sections))

-- Returns the state that has these values, with its trains in ascending order of their tails.
abbrev pub decoded_state : PlantLists → List ℕ → State
decoded_state p values = record (decoded_without_trains p values) { trains = trains_by_tails p (decoded_without_trains p values) (decoded_occupancies p values) }
