-- The words in texts for directions, positions, aspects, locks and modes. Writing and reading use
-- the same words.
use Rattle.std.specs.Prelude.{Option, [], ◌∷◌, codes}
use Rattle.ilk_base.specs.Words.{first_value_with_word}
use Rattle.ilk_plant.specs.Name.{Name}
use Rattle.ilk_plant.specs.declared.network.Dir.{Dir}
use Rattle.ilk_plant.specs.declared.network.Dir.TheVariants.{Up, Down}
use Rattle.ilk_plant.specs.declared.network.Position.{Position}
use Rattle.ilk_plant.specs.declared.network.Position.TheVariants.{Plus, Minus}
use Rattle.ilk_plant.specs.declared.state.Aspect.{Aspect}
use Rattle.ilk_plant.specs.declared.state.Aspect.TheVariants.{Open, Closed}
use Rattle.ilk_plant.specs.declared.state.Hold.{Hold}
use Rattle.ilk_plant.specs.declared.state.Hold.TheVariants.{Free as FreeLock, Locked as LockedLock, Used}
use Rattle.ilk_plant.specs.declared.state.Lie.{Lie}
use Rattle.ilk_plant.specs.declared.state.Lie.TheVariants.{Plus as LiesPlus, Minus as LiesMinus, Moving}
use Rattle.ilk_plant.specs.declared.state.Mode.{Mode}
use Rattle.ilk_plant.specs.declared.state.Mode.TheVariants.{Free, Marked, Allocating, Locked, Occupied}

abbrev pub direction_word : Dir → Name
direction_word Up = codes "up"
direction_word Down = codes "down"

abbrev pub position_word : Position → Name
position_word Plus = codes "plus"
position_word Minus = codes "minus"

abbrev pub lie_word : Lie → Name
lie_word LiesPlus = codes "plus"
lie_word LiesMinus = codes "minus"
lie_word Moving = codes "moving"

abbrev pub aspect_word : Aspect → Name
aspect_word Open = codes "open"
aspect_word Closed = codes "closed"

abbrev pub lock_state_word : Hold → Name
lock_state_word FreeLock = codes "free"
lock_state_word LockedLock = codes "locked"
lock_state_word Used = codes "used"

abbrev pub mode_word : Mode → Name
mode_word Free = codes "free"
mode_word Marked = codes "marked"
mode_word Allocating = codes "allocating"
mode_word Locked = codes "locked"
mode_word Occupied = codes "occupied"

-- The direction whose word is the given text, or `None` if there is none.
abbrev pub direction_from_word : Name → Option Dir
direction_from_word = first_value_with_word direction_word (Up ∷ Down ∷ [])

-- The position, plus or minus, whose word is the given text, or `None` if there is none.
abbrev pub position_from_word : Name → Option Position
position_from_word = first_value_with_word position_word (Plus ∷ Minus ∷ [])

-- The detected position whose word is the given text, or `None` if there is none.
abbrev pub lie_from_word : Name → Option Lie
lie_from_word = first_value_with_word lie_word (LiesPlus ∷ LiesMinus ∷ Moving ∷ [])

-- The aspect whose word is the given text, or `None` if there is none.
abbrev pub aspect_from_word : Name → Option Aspect
aspect_from_word = first_value_with_word aspect_word (Open ∷ Closed ∷ [])

-- The section lock whose word is the given text, or `None` if there is none.
abbrev pub lock_state_from_word : Name → Option Hold
lock_state_from_word = first_value_with_word lock_state_word (FreeLock ∷ LockedLock ∷ Used ∷ [])

-- The route mode whose word is the given text, or `None` if there is none.
abbrev pub mode_from_word : Name → Option Mode
mode_from_word = first_value_with_word mode_word (Free ∷ Marked ∷ Allocating ∷ Locked ∷ Occupied ∷ [])
