-- The four train events: the next state if the event is enabled, otherwise `None`. Other parts of
-- the state don't change.
use Rattle.std.specs.Prelude.{ℕ, Bool, true, false, Option, Some, None, List, [], ◌∷◌, ◌++◌, slice_get, set, remove, position, not}
use Rattle.ilk_base.specs.Option.{◌>>=◌, is_some_and, then_some}
use Rattle.ilk_plant.specs.Network.{neighbours_on}
use Rattle.ilk_plant.specs.Plant.{PlantLists, inward_direction_if_border, board_of}
use Rattle.ilk_plant.specs.State.{is_unlocked_and_vacant}
use Rattle.ilk_motion.specs.Ahead.{ahead}
use Rattle.ilk_motion.specs.Body.{has_head_at, occupies_only, new_train_on, with_new_head, without_tail, has_movable_tail_at}
use Rattle.ilk_plant.specs.declared.network.Dir.{Dir}
use Rattle.ilk_plant.specs.declared.network.Section.{Section}
use Rattle.ilk_plant.specs.declared.state.Aspect.{Aspect}
use Rattle.ilk_plant.specs.declared.state.Aspect.TheVariants.{Open, Closed}
use Rattle.ilk_plant.specs.declared.state.State.{State}
use Rattle.ilk_plant.specs.declared.state.Train.{Train}

abbrev pub is_open : Aspect → Bool
is_open Open = true
is_open Closed = false

-- Returns whether a section has a neighbour on side `d`.
abbrev pub has_neighbour : Section → Dir → Bool
has_neighbour section d = some_of (neighbours_on section d)
  where
    some_of : List ℕ → Bool
    some_of [] = false
    some_of (y ∷ rest) = true

-- Returns whether a train may pass the optional board `m` in state `s`: there is no board, or it is
-- Open.
abbrev pub may_pass_board : State → Option ℕ → Bool
may_pass_board s None = true
may_pass_board s (Some m) = is_some_and (slice_get s.boards m) is_open

-- The state with board `m` Closed; `s` itself if there is no board.
abbrev pub with_board_closed : Option ℕ → State → State
with_board_closed None s = s
with_board_closed (Some m) s = record s { boards = set s.boards m Closed }

-- The state with `train` in place of train number `i`.
abbrev pub with_train_replaced : ℕ → Train → State → State
with_train_replaced i train s = record s { trains = set s.trains i train }

-- The state after `enter x`. Enabled if section `x` is a border, vacant and with lock Free. A train
-- in the inward direction that occupies `x` is added at the end of the list of trains.
abbrev pub after_enter : PlantLists → State → ℕ → Option State
after_enter p s x = do
  inward ← inward_direction_if_border p x
  then_some (is_unlocked_and_vacant s x) (record s { trains = s.trains ++ new_train_on x inward ∷ [] })

-- The state after `head x`, for the first train with its head at section `x`. Enabled if `x` leads
-- to a section in the train's direction, and has no board for it or an Open one. The head moves to
-- that section, and the board, if any, closes.
abbrev pub after_head : PlantLists → State → ℕ → Option State
after_head p s x = do
  i ← position (has_head_at x) s.trains
  train ← slice_get s.trains i
  y ← ahead p s x train.dir
  then_some (may_pass_board s (board_of p x train.dir))
      (with_board_closed (board_of p x train.dir) (with_train_replaced i (with_new_head y train) s))

-- The state after `tail x`, for the first train of two or more sections with its tail at section
-- `x`. The tail leaves `x`.
abbrev pub after_tail : PlantLists → State → ℕ → Option State
after_tail p s x = do
  section ← slice_get p.sections x
  i ← position (has_movable_tail_at x) s.trains
  train ← slice_get s.trains i
  Some (with_train_replaced i (without_tail train) s)

-- The state after `leave x`, for the first train that occupies only section `x`. Enabled if `x` has
-- no neighbour in the train's direction. The train leaves the list of trains.
abbrev pub after_leave : PlantLists → State → ℕ → Option State
after_leave p s x = do
  section ← slice_get p.sections x
  i ← position (occupies_only x) s.trains
  train ← slice_get s.trains i
  then_some (not (has_neighbour section train.dir))
      (record s { trains = remove s.trains i })
