-- Sections and points in a state: occupancy, locks, and detected positions.
use Rattle.std.specs.Prelude.{ℕ, ◌&&◌, Bool, true, false, not, Option, Some, slice_get}
use Rattle.std.specs.List.{list_any}
use Rattle.ilk_base.specs.Option.{◌>>=◌, is_some_and}
use Rattle.ilk_plant.specs.Network.{contains_section}
use Rattle.ilk_plant.specs.Plant.{PlantLists, point_number}
use Rattle.ilk_plant.specs.declared.state.Hold.{Hold}
use Rattle.ilk_plant.specs.declared.state.Hold.TheVariants.{Free, Locked, Used}
use Rattle.ilk_plant.specs.declared.state.Lie.{Lie}
use Rattle.ilk_plant.specs.declared.state.State.{State}

-- Returns whether section `x` is in some train's body.
abbrev pub is_occupied : State → ℕ → Bool
is_occupied s x = list_any (λ train. contains_section x train.body) s.trains

abbrev pub same_lock_state : Hold → Hold → Bool
same_lock_state Free Free = true
same_lock_state Locked Locked = true
same_lock_state Used Used = true
same_lock_state a b = false

-- Returns whether the lock of section `x` is `hold`.
abbrev pub has_lock_state : State → ℕ → Hold → Bool
has_lock_state s x hold = is_some_and (slice_get s.locks x) (λ lock. same_lock_state lock hold)

-- Returns whether the lock of section `x` is Free and no train occupies it.
abbrev pub is_unlocked_and_vacant : State → ℕ → Bool
is_unlocked_and_vacant s x = has_lock_state s x Free && not (is_occupied s x)

-- The position in which the point on section `x` is detected, or `None` if `x` has no point.
abbrev pub detected_position_in_state : PlantLists → State → ℕ → Option Lie
detected_position_in_state p s x = do
  n ← point_number p x
  point ← slice_get s.points n
  Some point.at
