-- Sections: their neighbours and boards, points and borders.
use Rattle.std.specs.Prelude.{ℕ, Bool, true, false, Option, Some, None, List, [], ◌∷◌, option_to_list, if◌then◌else◌}
use Rattle.std.specs.List.{last_or}
use Rattle.ilk_plant.specs.declared.network.Dir.{Dir}
use Rattle.ilk_plant.specs.declared.network.Dir.TheVariants.{Up, Down}
use Rattle.ilk_plant.specs.declared.network.Section.{Section}
use Rattle.ilk_plant.specs.declared.network.Section.TheVariants.{Linear, Point}
use Rattle.ilk_base.specs.Numbers.{has_number}

abbrev pub same_direction : Dir → Dir → Bool
same_direction Up Up = true
same_direction Up Down = false
same_direction Down Up = false
same_direction Down Down = true

-- The neighbours of a section on side `d`. A point that faces `d` has two: its plus leg, then its
-- minus leg.
abbrev pub neighbours_on : Section → Dir → List ℕ
neighbours_on (Linear down up board_down board_up) Down = option_to_list down
neighbours_on (Linear down up board_down board_up) Up = option_to_list up
neighbours_on (Point stem plus minus faces) d = if same_direction faces d then plus ∷ minus ∷ [] else stem ∷ []

-- The number of the section's board for trains in direction `d`, if there is one.
abbrev pub board_on : Section → Dir → Option ℕ
board_on (Linear down up board_down board_up) Down = board_down
board_on (Linear down up board_down board_up) Up = board_up
board_on (Point stem plus minus faces) d = None

abbrev pub is_point : Section → Bool
is_point (Linear down up board_down board_up) = false
is_point (Point stem plus minus faces) = true

-- The direction in which trains enter at this section, or `None` if it is not a border. A border is
-- a linear section with exactly one neighbour missing.
abbrev pub inward_if_border : Section → Option Dir
inward_if_border (Linear None (Some y) board_down board_up) = Some Up
inward_if_border (Linear (Some y) None board_down board_up) = Some Down
inward_if_border (Linear None None board_down board_up) = None
inward_if_border (Linear (Some y) (Some z) board_down board_up) = None
inward_if_border (Point stem plus minus faces) = None

-- Returns whether a list of sections contains section `x`.
abbrev pub contains_section : ℕ → List ℕ → Bool
contains_section x sections = has_number x sections

-- The last number of the list, or `None` if it is empty.
abbrev pub last_of : List ℕ → Option ℕ
last_of sections = last_or None sections
