-- The two hazards: two trains in one section, and a train on a point that is moving or not set for
-- it.
use Rattle.std.specs.Prelude.{ℕ, Bool, false, Option, Some, None, List, ◌==◌, ◌&&◌, ◌||◌, length, drop, zip, slice_get, nat_lt, count_by, find, option_map, if◌then◌else◌}
use Rattle.std.specs.List.{list_any, range_with_len}
use Rattle.ilk_plant.specs.Network.{contains_section}
use Rattle.ilk_plant.specs.Plant.{PlantLists}
use Rattle.ilk_plant.specs.State.{detected_position_in_state}
use Rattle.ilk_plant.specs.declared.network.Section.{Section}
use Rattle.ilk_plant.specs.declared.network.Section.TheVariants.{Linear, Point}
use Rattle.ilk_plant.specs.declared.state.Lie.{Lie}
use Rattle.ilk_plant.specs.declared.state.Lie.TheVariants.{Plus, Minus, Moving}
use Rattle.ilk_plant.specs.declared.state.State.{State}
use Rattle.ilk_model.specs.declared.hazards.HazardAt.{HazardAt}
use Rattle.ilk_model.specs.declared.hazards.HazardAt.TheVariants.{Two, Wrong}

-- Returns whether two or more trains have section x in their bodies.
abbrev pub has_two_trains : State → ℕ → Bool
has_two_trains s x = nat_lt 1 (count_by (λ train. contains_section x train.body) s.trains)

-- Returns whether sections x and y are adjacent in a train's body, in either order.
abbrev pub are_adjacent_in_body : ℕ → ℕ → List ℕ → Bool
are_adjacent_in_body x y body = list_any (λ pair. (pair.0 == x && pair.1 == y) || (pair.0 == y && pair.1 == x)) (zip body (drop 1 body))

-- Returns whether point x, with these legs and this detected position, is wrong for a train's body.
-- The body has x while the point moves, or runs over the leg for which it is not set.
abbrev pub is_wrong_under_body : ℕ → ℕ → ℕ → Option Lie → List ℕ → Bool
is_wrong_under_body x plus minus None body = false
is_wrong_under_body x plus minus (Some Moving) body = contains_section x body
is_wrong_under_body x plus minus (Some Plus) body = are_adjacent_in_body x minus body
is_wrong_under_body x plus minus (Some Minus) body = are_adjacent_in_body x plus body

-- Returns whether section x is a point that is moving or not set for a train on it.
abbrev pub is_wrong_under_train : PlantLists → State → ℕ → Bool
is_wrong_under_train p s x = wrong_on (slice_get p.sections x)
  where
    wrong_on : Option Section → Bool
    wrong_on None = false
    wrong_on (Some (Linear down up board_down board_up)) = false
    wrong_on (Some (Point stem plus minus faces)) = list_any (λ train. is_wrong_under_body x plus minus (detected_position_in_state p s x) train.body) s.trains

-- Returns whether section x has a hazard: two trains, or a point in the wrong position under a
-- train.
abbrev pub is_section_hazardous : PlantLists → State → ℕ → Bool
is_section_hazardous p s x = has_two_trains s x || is_wrong_under_train p s x

-- The hazard at the first section that has one. At the same section, `Two` comes before `Wrong`.
abbrev pub hazard : PlantLists → State → Option HazardAt
hazard p s = option_map hazard_at (find (is_section_hazardous p s) (range_with_len 0 (length p.sections)))
  where
    hazard_at : ℕ → HazardAt
    hazard_at x = if has_two_trains s x then Two x else Wrong x
