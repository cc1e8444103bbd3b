use Rattle.std.specs.Prelude.{Option, Some, List, [], ◌∷◌, option_and_then, option_map}
use Rattle.ilk_plant.specs.Plant.{PlantLists}
use Rattle.ilk_plant.specs.declared.state.State.{State}
use Rattle.ilk_model.specs.Event.{next}
use Rattle.ilk_model.specs.declared.event.Event.{Event}

-- The states through which these events lead from `s`, with `s` first; `None` if an event is not
-- enabled.
abbrev pub states_from : PlantLists → State → List Event → Option (List State)
states_from p s [] = Some (s ∷ [])
states_from p s (event ∷ rest) = option_map (λ more. s ∷ more) (option_and_then (λ t. states_from p t rest) (next p s event))
