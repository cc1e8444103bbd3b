-- Theorems about images.
use Rattle.std.specs.Prelude.{◌≡◌, ◌↔◌, ℕ, Option, Some, None, List, IsPermutation, IsTrue}
use Rattle.ilk_ir.specs.System.{in_ranges}
use Rattle.ilk_plant.specs.Plant.{PlantLists}
use Rattle.ilk_plant.specs.Shape.{HasShape}
use Rattle.ilk_plant.specs.declared.state.State.{State}
use Rattle.ilk_model.specs.Event.{next}
use Rattle.ilk_model.specs.Hazard.{hazard}
use Rattle.ilk_model.specs.declared.event.Event.{Event}
use Rattle.ilk_layout.specs.Image.{image_of}
use Rattle.ilk_layout.specs.Variables.{ranges_of_plant}
use Rattle.ilk_layout.specs.Wellformed.{is_wellformed}

-- Holds if state `s` is well-formed for the plant (`HasShape`) and has no hazard.
pub record IsWellFormedAndSafe (p : PlantLists) (s : State) : Type 0 where
  pub shape : HasShape p s
  pub no_hazard : hazard p s ≡ None

-- Holds if the trains of `s` and `t` are the same up to their order, and all else is equal.
pub record DifferInTrainOrder (s t : State) : Type 0 where
  pub routes : t.routes ≡ s.routes
  pub points : t.points ≡ s.points
  pub boards : t.boards ≡ s.boards
  pub locks : t.locks ≡ s.locks
  pub trains : IsPermutation s.trains t.trains

-- Each value in the image of a well-formed state is less than the number of values of its variable.
abbrev pub ImagesAreInRange : PlantLists → Type 0
ImagesAreInRange p = (s : State) → HasShape p s → IsTrue (in_ranges (image_of p s) (ranges_of_plant p))

-- Two well-formed states without hazard that have the same image differ only in the order of
-- trains.
abbrev pub ImagesDetermineExceptTrainOrder : PlantLists → Type 0
ImagesDetermineExceptTrainOrder p = (s t : State) → IsWellFormedAndSafe p s → IsWellFormedAndSafe p t → image_of p s ≡ image_of p t → DifferInTrainOrder s t

-- Holds if the values are the image of a well-formed state without hazard.
pub record AreImageOfSafeState (p : PlantLists) (values : List ℕ) : Type 0 where
  pub state : State
  pub calm : IsWellFormedAndSafe p state
  pub image : image_of p state ≡ values

-- Values in range are well-formed if and only if they are the image of a well-formed state without
-- hazard.
abbrev pub WellformedIffSafeStateImage : PlantLists → Type 0
WellformedIffSafeStateImage p = (values : List ℕ) → IsTrue (in_ranges values (ranges_of_plant p)) → IsTrue (is_wellformed p values) ↔ AreImageOfSafeState p values

-- Holds if both states are `None`, or if both exist and differ only in the order of trains.
abbrev pub DifferInTrainOrderIfAny : Option State → Option State → Type 0
DifferInTrainOrderIfAny None None = Unit {0}
DifferInTrainOrderIfAny None (Some t) = ⊥
DifferInTrainOrderIfAny (Some s) None = ⊥
DifferInTrainOrderIfAny (Some s) (Some t) = DifferInTrainOrder s t

-- Well-formed states without hazard that differ only in the order of trains allow the same events.
-- The next states also differ only in that order.
abbrev pub EventsIgnoreTrainOrder : PlantLists → Type 0
EventsIgnoreTrainOrder p = (s t : State) (event : Event) → IsWellFormedAndSafe p s → DifferInTrainOrder s t → DifferInTrainOrderIfAny (next p s event) (next p t event)
