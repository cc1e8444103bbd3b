-- Indices of the automatic events that are still to be tried. An event's index is its place in the
-- list of all automatic events. Used only in private contracts.
use Rattle.std.specs.Prelude.{ℕ, ◌-◌, ◌≡◌, ◌≤◌, ◌==◌, ◌||◌, true, Option, Some, None, List, is_some, length, slice_get}
use Rattle.ilk_plant.specs.Plant.{PlantLists}
use Rattle.ilk_plant.specs.declared.state.State.{State}
use Rattle.ilk_model.specs.Event.{next}
use Rattle.ilk_model.specs.declared.event.Event.{Event}
use Rattle.ilk_drive.specs.Awakening.{may_enable_automatic}
use Rattle.ilk_drive.specs.Drive.{automatic_events, first_automatic}
use Rattle.ilk_drive.specs.declared.automatic.Automatic.{Automatic}
use Rattle.ilk_base.specs.Numbers.{has_number}

-- Returns the greatest 64-bit number minus `rank`. So the greatest rank has the lowest index.
abbrev pub u64_max_minus_rank : ℕ → ℕ
u64_max_minus_rank rank = 18446744073709551615 - rank

-- Holds if the list contains the index of each automatic event that is enabled in state `s`.
abbrev pub ContainsEnabledAutomaticIndices : PlantLists → State → List ℕ → Type 0
ContainsEnabledAutomaticIndices p s places = (j : ℕ) (event : Event) → slice_get (automatic_events p) j ≡ Some event → is_some (next p s event) ≡ true → has_number j places ≡ true

-- Holds if the list contains the index of each automatic event that `event` may enable.
abbrev pub ContainsIndicesEventMayEnable : PlantLists → Event → List ℕ → Type 0
ContainsIndicesEventMayEnable p event places = (j : ℕ) (other : Event) → slice_get (automatic_events p) j ≡ Some other → may_enable_automatic p event other ≡ true → has_number j places ≡ true

-- Holds if each of these events has, in `woken`, the indices of the automatic events that it may
-- enable.
abbrev pub ListsIndicesEachEventMayEnable : PlantLists → List Event → List (List ℕ) → Type 0
ListsIndicesEachEventMayEnable p events woken = (i : ℕ) (event : Event) (places : List ℕ) → slice_get events i ≡ Some event → slice_get woken i ≡ Some places → ContainsIndicesEventMayEnable p event places

-- Holds if `automatic` has the automatic events of the plant and, for each, the indices of those
-- that it may enable.
pub record IsAutomaticEnablingGraphOf (p : PlantLists) (automatic : Automatic) : Type 0 where
  pub events : automatic.events ≡ automatic_events p
  pub long : length automatic.woken ≡ length automatic.events
  pub woken : ListsIndicesEachEventMayEnable p automatic.events automatic.woken

-- Holds if each automatic event that is enabled in state `s` has index `place`, or its index is in
-- the list.
abbrev pub ContainsEnabledAutomaticIndicesExcept : PlantLists → State → ℕ → List ℕ → Type 0
ContainsEnabledAutomaticIndicesExcept p s place places = (j : ℕ) (event : Event) → slice_get (automatic_events p) j ≡ Some event → is_some (next p s event) ≡ true → (place == j || has_number j places) ≡ true

-- Holds if no index in the list is less than `place`.
abbrev pub IsLowerBoundOfList : ℕ → List ℕ → Type 0
IsLowerBoundOfList place places = (j : ℕ) → has_number j places ≡ true → place ≤ j

-- Holds if there is no event, or it is the first automatic event that is enabled in state `s`.
abbrev pub IsFirstAutomaticIfAny : PlantLists → State → Option Event → Type 0
IsFirstAutomaticIfAny p s None = Unit {0}
IsFirstAutomaticIfAny p s (Some event) = first_automatic p s ≡ Some event

-- Holds if the event leads from state `s` to `t`. Without an event, holds if both states are the
-- same.
abbrev pub IsStateAfterOptionalEvent : PlantLists → State → State → Option Event → Type 0
IsStateAfterOptionalEvent p s t None = t ≡ s
IsStateAfterOptionalEvent p s t (Some event) = next p s event ≡ Some t
