-- The trains that well-formed values represent. `lie` is the detected position of the point on a
-- section, and `occupancy` the occupancy of a section. Used only in proofs and private contracts.
use Rattle.std.specs.Prelude.{ℕ, zero, suc, true, false, Option, Some, None, List, [], ◌∷◌, length, filter_map}
use Rattle.std.specs.List.{range_with_len}
use Rattle.ilk_plant.specs.NetworkRules.{opposite_direction}
use Rattle.ilk_plant.specs.Plant.{PlantLists}
use Rattle.ilk_plant.specs.declared.state.Lie.{Lie}
use Rattle.ilk_plant.specs.declared.state.Train.{Train}
use Rattle.ilk_layout.specs.Wellformed.{mutual_section_ahead, detected_in_values, occupancy_in_values}
use Rattle.ilk_layout.specs.declared.values.Occupancy.{Occupancy}
use Rattle.ilk_layout.specs.declared.values.Occupancy.TheVariants.{Vacant, Taken, Crash}

-- Returns `y` and then `rest y`, if there is a number `y`; otherwise the empty list.
abbrev pub optional_first_then_followers : (ℕ → List ℕ) → Option ℕ → List ℕ
optional_first_then_followers rest None = []
optional_first_then_followers rest (Some y) = y ∷ rest y

-- Returns at most `k` numbers after `x`: `step x`, `step` of that, and so on until `step` gives
-- `None`.
abbrev pub iterates_until_none : ℕ → (ℕ → Option ℕ) → ℕ → List ℕ
iterates_until_none zero step x = []
iterates_until_none (suc k) step x = optional_first_then_followers (iterates_until_none k step) (step x)

-- Returns the next section towards the head, in the body of the train on `x`. Returns `None` if the
-- head is at `x`, or no train is.
abbrev pub section_ahead_in_body : PlantLists → (ℕ → Option Lie) → ℕ → Option Occupancy → Option ℕ
section_ahead_in_body p lie x None = None
section_ahead_in_body p lie x (Some Vacant) = None
section_ahead_in_body p lie x (Some Crash) = None
section_ahead_in_body p lie x (Some (Taken d tail true)) = None
section_ahead_in_body p lie x (Some (Taken d tail false)) = mutual_section_ahead p lie x d

-- Returns what `section_ahead_in_body` gives for the occupancy of `x`.
abbrev pub next_body_section : PlantLists → (ℕ → Option Lie) → (ℕ → Option Occupancy) → ℕ → Option ℕ
next_body_section p lie occupancy x = section_ahead_in_body p lie x (occupancy x)

-- Returns the next section towards the tail, in the body of the train on `x`. Returns `None` if the
-- tail is at `x`, or no train is.
abbrev pub section_behind_in_body : PlantLists → (ℕ → Option Lie) → ℕ → Option Occupancy → Option ℕ
section_behind_in_body p lie x None = None
section_behind_in_body p lie x (Some Vacant) = None
section_behind_in_body p lie x (Some Crash) = None
section_behind_in_body p lie x (Some (Taken d true head)) = None
section_behind_in_body p lie x (Some (Taken d false head)) = mutual_section_ahead p lie x (opposite_direction d)

-- Returns what `section_behind_in_body` gives for the occupancy of `x`.
abbrev pub previous_body_section : PlantLists → (ℕ → Option Lie) → (ℕ → Option Occupancy) → ℕ → Option ℕ
previous_body_section p lie occupancy x = section_behind_in_body p lie x (occupancy x)

-- Returns the train with its tail at `x`. Returns `None` if no tail is there.
abbrev pub train_from_tail : PlantLists → (ℕ → Option Lie) → (ℕ → Option Occupancy) → ℕ → Option Occupancy → Option Train
train_from_tail p lie occupancy x None = None
train_from_tail p lie occupancy x (Some Vacant) = None
train_from_tail p lie occupancy x (Some Crash) = None
train_from_tail p lie occupancy x (Some (Taken d true head)) = Some (record { dir = d; body = x ∷ iterates_until_none (length p.sections) (next_body_section p lie occupancy) x })
train_from_tail p lie occupancy x (Some (Taken d false head)) = None

-- Returns the trains, in ascending order of the sections of their tails.
abbrev pub trains_from_occupancies : PlantLists → (ℕ → Option Lie) → (ℕ → Option Occupancy) → List Train
trains_from_occupancies p lie occupancy = filter_map (λ x. train_from_tail p lie occupancy x (occupancy x)) (range_with_len 0 (length p.sections))

-- Returns the trains that the values of an image represent, in ascending order of the sections of
-- their tails.
abbrev pub trains_from_values : PlantLists → List ℕ → List Train
trains_from_values p values = trains_from_occupancies p (detected_in_values p values) (occupancy_in_values p values)
