-- The sections at which an event may cause a hazard, so that no others have to be checked. Used
-- only in private contracts.
use Rattle.std.specs.Prelude.{ℕ, ◌<◌, ◌≤◌, ◌≡◌, true, false, Option, Some, None, List, [], ◌∷◌, ◌++◌, length}
use Rattle.ilk_plant.specs.Network.{contains_section}
use Rattle.ilk_plant.specs.Plant.{PlantLists}
use Rattle.ilk_plant.specs.declared.state.State.{State}
use Rattle.ilk_model.specs.Event.{next}
use Rattle.ilk_model.specs.Hazard.{hazard, is_section_hazardous}
use Rattle.ilk_model.specs.declared.event.Event.{Event}
use Rattle.ilk_model.specs.declared.event.Event.TheVariants.{Throw, Settle, Head}
use Rattle.ilk_model.specs.declared.hazards.HazardAt.{HazardAt}
use Rattle.ilk_drive.specs.Awakening.{neighbours_of}

-- Returns the sections at which an event may cause a hazard. For throw and settle: the section of
-- the point. For head: the section that the head leaves, and its neighbours. Other events cause
-- none.
abbrev pub sections_at_risk : PlantLists → Event → List ℕ
sections_at_risk p (Throw x) = x ∷ []
sections_at_risk p (Settle x) = x ∷ []
sections_at_risk p (Head x) = x ∷ neighbours_of p x
sections_at_risk p event = []

-- Holds if the result is the least of these sections that has a hazard. If the result is `None`,
-- holds if none has.
abbrev pub IsLeastHazardousAmong : PlantLists → State → List ℕ → Option ℕ → Type 0
IsLeastHazardousAmong p s sections None =
    (x : ℕ) → contains_section x sections ≡ true → x < length p.sections → is_section_hazardous p s x ≡ false
IsLeastHazardousAmong p s sections (Some x) =
    (x < length p.sections)
    × (is_section_hazardous p s x ≡ true)
    × ((y : ℕ) → contains_section y sections ≡ true → y < length p.sections → is_section_hazardous p s y ≡ true → x ≤ y)

-- Holds if `result` is the least hazardous section of `these` and any list whose least hazardous
-- section is `found`.
abbrev pub IsCombinedLeastHazardousSection : PlantLists → State → List ℕ → Option ℕ → Option ℕ → Type 0
IsCombinedLeastHazardousSection p s these found result =
    (sections : List ℕ) → IsLeastHazardousAmong p s sections found → IsLeastHazardousAmong p s (these ++ sections) result

-- Holds if `found` is the hazard of state `t` whenever `event` led to `t` from a state without a
-- hazard. `found` is `None` if `t` has none.
abbrev pub IsOptionalHazardAfterEvent : PlantLists → State → Event → Option HazardAt → Type 0
IsOptionalHazardAfterEvent p t event found = (s : State) → hazard p s ≡ None → next p s event ≡ Some t → found ≡ hazard p t
