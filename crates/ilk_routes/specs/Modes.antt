-- Modes of routes.
use Rattle.std.specs.Prelude.{ℕ, Bool, true, false, ◌||◌, slice_get}
use Rattle.ilk_base.specs.Option.{is_some_and}
use Rattle.ilk_plant.specs.declared.state.Mode.{Mode}
use Rattle.ilk_plant.specs.declared.state.Mode.TheVariants.{Free, Marked, Allocating, Locked, Occupied}
use Rattle.ilk_plant.specs.declared.state.State.{State}

-- Returns whether two modes are equal.
abbrev pub same_mode : Mode → Mode → Bool
same_mode Free Free = true
same_mode Marked Marked = true
same_mode Allocating Allocating = true
same_mode Locked Locked = true
same_mode Occupied Occupied = true
same_mode a b = false

-- Returns whether route `r` is in mode `mode`.
abbrev pub has_mode : State → ℕ → Mode → Bool
has_mode s r mode = is_some_and (slice_get s.routes r) (λ now. same_mode now.mode mode)

-- Returns whether route `r` is Allocating or Locked.
abbrev pub is_allocating_or_locked : State → ℕ → Bool
is_allocating_or_locked s r = has_mode s r Allocating || has_mode s r Locked
