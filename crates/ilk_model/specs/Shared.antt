-- Sets of sections as bits: those with two or more trains, and those that two or more routes hold.
-- Used only by private contracts.
use Rattle.std.specs.Prelude.{ℕ, ◌-◌, Bool, ◌==◌, ◌||◌, count_by, if◌then◌else◌, length, nat_lt}
use Rattle.std.specs.List.{range_with_len}
use Rattle.std.specs.Int.{bit_at}
use Rattle.ilk_plant.specs.Plant.{PlantLists}
use Rattle.ilk_plant.specs.declared.state.State.{State}
use Rattle.ilk_model.specs.Hazard.{is_wrong_under_train}
use Rattle.ilk_model.specs.Holding.{route_holds}
use Rattle.ilk_model.specs.declared.shared.SharedSections.{SharedSections}

-- Returns whether the set has section x. Its low bits are for sections below 128, the high bits for
-- the others.
abbrev pub is_in_shared_sections : SharedSections → ℕ → Bool
is_in_shared_sections shared x = if nat_lt x 128 then bit_at shared.low x == 1 else bit_at shared.high (x - 128) == 1

-- Returns whether the set has section x, or x is a point that is moving or not set for a train on
-- it.
abbrev pub is_section_hazardous_by_bits : PlantLists → State → SharedSections → ℕ → Bool
is_section_hazardous_by_bits p s shared x = is_in_shared_sections shared x || is_wrong_under_train p s x

-- Returns whether two or more routes hold section x.
abbrev pub is_held_by_two_routes : PlantLists → State → ℕ → Bool
is_held_by_two_routes p s x = nat_lt 1 (count_by (λ r. route_holds p s r x) (range_with_len 0 (length p.routes)))
