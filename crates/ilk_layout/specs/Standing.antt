-- The occupancies of sections while trains are added one by one. Used only in private contracts.
use Rattle.std.specs.Prelude.{ℕ, ◌+◌, ◌-◌, ◌≡◌, Bool, true, false, not, ◌&&◌, ◌||◌, ◌==◌, Option, Some, None, List, length, slice_get, option_map, if◌then◌else◌}
use Rattle.ilk_base.specs.Option.{is_some_and}
use Rattle.ilk_plant.specs.Network.{contains_section}
use Rattle.ilk_plant.specs.Plant.{PlantLists}
use Rattle.ilk_plant.specs.State.{detected_position_in_state}
use Rattle.ilk_plant.specs.declared.network.Section.{Section}
use Rattle.ilk_plant.specs.declared.network.Section.TheVariants.{Linear, Point}
use Rattle.ilk_plant.specs.declared.state.Lie.{Lie}
use Rattle.ilk_plant.specs.declared.state.Lie.TheVariants.{Plus, Minus, Moving}
use Rattle.ilk_plant.specs.declared.state.State.{State}
use Rattle.ilk_plant.specs.declared.state.Train.{Train}
use Rattle.ilk_model.specs.Hazard.{is_wrong_under_body}
use Rattle.ilk_layout.specs.Occupancy.{occupancy_by_train}
use Rattle.ilk_layout.specs.declared.values.Occupancy.{Occupancy}
use Rattle.ilk_layout.specs.declared.values.Occupancy.TheVariants.{Vacant, Taken, Crash}

-- Returns whether the occupancy is `Vacant`.
abbrev pub is_vacant_occupancy : Occupancy → Bool
is_vacant_occupancy Vacant = true
is_vacant_occupancy (Taken d tail head) = false
is_vacant_occupancy Crash = false

-- Returns whether section `y` is one of the two sections `before` and `after`.
abbrev pub is_section_before_or_after : ℕ → Option ℕ → Option ℕ → Bool
is_section_before_or_after y before after = is_some_and before (λ z. z == y) || is_some_and after (λ z. z == y)

-- Returns whether the point on `x` is wrong for a train: it is moving, or `before` or `after`, the
-- train's sections next to `x`, is the leg for which it isn't set.
abbrev pub is_point_wrong_between : PlantLists → State → ℕ → Option ℕ → Option ℕ → Bool
is_point_wrong_between p s x before after = by_section (slice_get p.sections x)
  where
    by_lie : ℕ → ℕ → Option Lie → Bool
    by_lie plus minus None = false
    by_lie plus minus (Some Moving) = true
    by_lie plus minus (Some Plus) = is_section_before_or_after minus before after
    by_lie plus minus (Some Minus) = is_section_before_or_after plus before after

    by_section : Option Section → Bool
    by_section None = false
    by_section (Some (Linear down up board_down board_up)) = false
    by_section (Some (Point stem plus minus faces)) = by_lie plus minus (detected_position_in_state p s x)

-- Returns the section before index `i` of a body. Returns `None` if there is none.
abbrev pub section_before_index : List ℕ → ℕ → Option ℕ
section_before_index body i = if i == 0 then None else slice_get body (i - 1)

-- Returns the occupancy of section `x` after `train` is added, if it was `before`. `x` is at index
-- `i` of the train's body.
abbrev pub occupancy_after_adding_at_index : PlantLists → State → Train → ℕ → ℕ → Occupancy → Occupancy
occupancy_after_adding_at_index p s train x i before =
    if is_vacant_occupancy before && not (is_point_wrong_between p s x (section_before_index train.body i) (slice_get train.body (i + 1)))
    then Taken train.dir (i == 0) (i + 1 == length train.body)
    else Crash

-- Returns whether the point on `x` is wrong for a train with this body: moving, or not set for it.
abbrev pub is_point_wrong_under : PlantLists → State → ℕ → List ℕ → Bool
is_point_wrong_under p s x body = by_section (slice_get p.sections x)
  where
    by_section : Option Section → Bool
    by_section None = false
    by_section (Some (Linear down up board_down board_up)) = false
    by_section (Some (Point stem plus minus faces)) = is_wrong_under_body x plus minus (detected_position_in_state p s x) body

-- Returns the occupancy of `x`, which was `before`, after `train` is added on the sections `gone`,
-- a part of its body.
abbrev pub section_occupancy_after_adding : PlantLists → State → Train → List ℕ → ℕ → Occupancy → Occupancy
section_occupancy_after_adding p s train gone x before =
    if contains_section x gone
    then (if is_vacant_occupancy before && not (is_point_wrong_under p s x train.body) then occupancy_by_train x train else Crash)
    else before

-- Holds if adding `train` on the sections `gone`, a part of its body, changes the occupancies
-- `before` to `now`.
abbrev pub AreOccupanciesAfterAdding : PlantLists → State → Train → List ℕ → List Occupancy → List Occupancy → Type 0
AreOccupanciesAfterAdding p s train gone before now = (x : ℕ) → slice_get now x ≡ option_map (section_occupancy_after_adding p s train gone x) (slice_get before x)
