-- The numbers of values in an image: each type's values are numbered from 0 in the order of
-- declaration.
use Rattle.std.specs.Prelude.{ℕ, true, false, Option, List, [], ◌∷◌, ◌==◌, find}
use Rattle.ilk_plant.specs.declared.network.Dir.TheVariants.{Up, Down}
use Rattle.ilk_plant.specs.declared.network.Position.{Position}
use Rattle.ilk_plant.specs.declared.network.Position.TheVariants.{Plus, Minus}
use Rattle.ilk_plant.specs.declared.state.Aspect.{Aspect}
use Rattle.ilk_plant.specs.declared.state.Aspect.TheVariants.{Open, Closed}
use Rattle.ilk_plant.specs.declared.state.Hold.{Hold}
use Rattle.ilk_plant.specs.declared.state.Hold.TheVariants.{Free as FreeLock, Locked as LockedLock, Used as UsedLock}
use Rattle.ilk_plant.specs.declared.state.Lie.{Lie}
use Rattle.ilk_plant.specs.declared.state.Lie.TheVariants.{Plus as LiesPlus, Minus as LiesMinus, Moving}
use Rattle.ilk_plant.specs.declared.state.Mode.{Mode}
use Rattle.ilk_plant.specs.declared.state.Mode.TheVariants.{Free, Marked, Allocating, Locked, Occupied}
use Rattle.ilk_layout.specs.declared.values.Occupancy.{Occupancy}
use Rattle.ilk_layout.specs.declared.values.Occupancy.TheVariants.{Vacant, Taken, Crash}

abbrev pub mode_value : Mode → ℕ
mode_value Free = 0
mode_value Marked = 1
mode_value Allocating = 2
mode_value Locked = 3
mode_value Occupied = 4

abbrev pub detected_value : Lie → ℕ
detected_value LiesPlus = 0
detected_value LiesMinus = 1
detected_value Moving = 2

abbrev pub commanded_value : Position → ℕ
commanded_value Plus = 0
commanded_value Minus = 1

abbrev pub aspect_value : Aspect → ℕ
aspect_value Open = 0
aspect_value Closed = 1

abbrev pub lock_value : Hold → ℕ
lock_value FreeLock = 0
lock_value LockedLock = 1
lock_value UsedLock = 2

-- Returns 0 for `Vacant` and 9 for `Crash`; otherwise 1, plus 4 for a down train, 2 for its tail
-- and 1 for its head.
abbrev pub occupancy_value : Occupancy → ℕ
occupancy_value Vacant = 0
occupancy_value (Taken Up false false) = 1
occupancy_value (Taken Up false true) = 2
occupancy_value (Taken Up true false) = 3
occupancy_value (Taken Up true true) = 4
occupancy_value (Taken Down false false) = 5
occupancy_value (Taken Down false true) = 6
occupancy_value (Taken Down true false) = 7
occupancy_value (Taken Down true true) = 8
occupancy_value Crash = 9

-- Returns the first value of `all` that has this number. Returns `None` if there is none.
abbrev pub first_value_with_number : {A : Type 0} → (A → ℕ) → List A → ℕ → Option A
first_value_with_number value_of all number = find (λ a. value_of a == number) all

-- Returns the detected position with this number. Returns `None` if there is none.
abbrev pub detected_from_value : ℕ → Option Lie
detected_from_value = first_value_with_number detected_value (LiesPlus ∷ LiesMinus ∷ Moving ∷ [])

abbrev pub all_occupancies : List Occupancy
all_occupancies =
    Vacant ∷ Taken Up false false ∷ Taken Up false true ∷ Taken Up true false ∷ Taken Up true true
    ∷ Taken Down false false ∷ Taken Down false true ∷ Taken Down true false ∷ Taken Down true true ∷ Crash ∷ []

-- Returns the occupancy with this number. Returns `None` if there is none.
abbrev pub occupancy_from_value : ℕ → Option Occupancy
occupancy_from_value = first_value_with_number occupancy_value all_occupancies
