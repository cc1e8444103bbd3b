-- The section ahead of a section.
use Rattle.std.specs.Prelude.{ℕ, Option, Some, None, slice_get, if◌then◌else◌}
use Rattle.ilk_base.specs.Option.{◌>>=◌}
use Rattle.ilk_plant.specs.Network.{same_direction}
use Rattle.ilk_plant.specs.Plant.{PlantLists}
use Rattle.ilk_plant.specs.State.{detected_position_in_state}
use Rattle.ilk_plant.specs.declared.network.Dir.{Dir}
use Rattle.ilk_plant.specs.declared.network.Dir.TheVariants.{Up, Down}
use Rattle.ilk_plant.specs.declared.network.Section.{Section}
use Rattle.ilk_plant.specs.declared.network.Section.TheVariants.{Linear, Point}
use Rattle.ilk_plant.specs.declared.state.Lie.{Lie}
use Rattle.ilk_plant.specs.declared.state.Lie.TheVariants.{Plus, Minus, Moving}
use Rattle.ilk_plant.specs.declared.state.State.{State}

-- The leg to which a point leads in its detected position, or `None` if it is moving. `plus` and
-- `minus` are its legs.
abbrev pub detected_leg : ℕ → ℕ → Lie → Option ℕ
detected_leg plus minus Plus = Some plus
detected_leg plus minus Minus = Some minus
detected_leg plus minus Moving = None

-- The section to which a section leads in direction `d`, if there is one. `lie` is the detected
-- position if the section is a point. A linear section leads to its neighbour. A point that faces
-- `d` leads to the leg of its detected position, or nowhere while it moves. Another point leads to
-- its stem.
abbrev pub section_led_to : Section → Dir → Option Lie → Option ℕ
section_led_to (Linear down up board_down board_up) Down lie = down
section_led_to (Linear down up board_down board_up) Up lie = up
section_led_to (Point stem plus minus faces) d lie =
    if same_direction faces d then lie >>= detected_leg plus minus else Some stem

-- The section to which section `x` leads in direction `d` in state `s`. It is `None` if there is
-- none or `x` is not a section.
abbrev pub ahead : PlantLists → State → ℕ → Dir → Option ℕ
ahead p s x d = do
  section ← slice_get p.sections x
  section_led_to section d (detected_position_in_state p s x)
