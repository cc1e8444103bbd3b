-- The value that a number stands for in an image. A number too great for its type gives the last
-- value. Used only in private contracts.
use Rattle.std.specs.Prelude.{ℕ, true, false, ◌==◌, if◌then◌else◌}
use Rattle.ilk_plant.specs.declared.network.Dir.TheVariants.{Up, Down}
use Rattle.ilk_plant.specs.declared.network.Position.{Position}
use Rattle.ilk_plant.specs.declared.network.Position.TheVariants.{Plus, Minus}
use Rattle.ilk_plant.specs.declared.state.Aspect.{Aspect}
use Rattle.ilk_plant.specs.declared.state.Aspect.TheVariants.{Open, Closed}
use Rattle.ilk_plant.specs.declared.state.Hold.{Hold}
use Rattle.ilk_plant.specs.declared.state.Hold.TheVariants.{Free as FreeLock, Locked as LockedLock, Used as UsedLock}
use Rattle.ilk_plant.specs.declared.state.Lie.{Lie}
use Rattle.ilk_plant.specs.declared.state.Lie.TheVariants.{Plus as LiesPlus, Minus as LiesMinus, Moving}
use Rattle.ilk_plant.specs.declared.state.Mode.{Mode}
use Rattle.ilk_plant.specs.declared.state.Mode.TheVariants.{Free, Marked, Allocating, Locked, Occupied}
use Rattle.ilk_layout.specs.declared.values.Occupancy.{Occupancy}
use Rattle.ilk_layout.specs.declared.values.Occupancy.TheVariants.{Vacant, Taken, Crash}

abbrev pub mode_from_number : ℕ → Mode
mode_from_number number =
    if number == 0 then Free
    else if number == 1 then Marked
    else if number == 2 then Allocating
    else if number == 3 then Locked
    else Occupied

abbrev pub lie_from_number : ℕ → Lie
lie_from_number number = if number == 0 then LiesPlus else if number == 1 then LiesMinus else Moving

abbrev pub position_from_number : ℕ → Position
position_from_number number = if number == 0 then Plus else Minus

abbrev pub aspect_from_number : ℕ → Aspect
aspect_from_number number = if number == 0 then Open else Closed

abbrev pub lock_state_from_number : ℕ → Hold
lock_state_from_number number = if number == 0 then FreeLock else if number == 1 then LockedLock else UsedLock

abbrev pub occupancy_from_number : ℕ → Occupancy
occupancy_from_number number =
    if number == 0 then Vacant
    else if number == 1 then Taken Up false false
    else if number == 2 then Taken Up false true
    else if number == 3 then Taken Up true false
    else if number == 4 then Taken Up true true
    else if number == 5 then Taken Down false false
    else if number == 6 then Taken Down false true
    else if number == 7 then Taken Down true false
    else if number == 8 then Taken Down true true
    else Crash
