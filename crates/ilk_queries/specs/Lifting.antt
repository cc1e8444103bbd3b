-- Relations between rules and events, and between the forms of a goal and states.
use Rattle.std.specs.Prelude.{ℕ, ◌≡◌, ◌↔◌, Bool, true, Option, Some, None, List, [], ◌∷◌, is_some, is_none}
use Rattle.std.specs.List.{list_all}
use Rattle.ilk_base.specs.Option.{◌>>=◌}
use Rattle.ilk_ir.specs.System.{after_rule_number, in_ranges}
use Rattle.ilk_ir.specs.Tree.{Tree, tree_holds}
use Rattle.ilk_plant.specs.Plant.{PlantLists}
use Rattle.ilk_plant.specs.Shape.{HasShape}
use Rattle.ilk_plant.specs.Start.{start}
use Rattle.ilk_plant.specs.declared.state.State.{State}
use Rattle.ilk_model.specs.Event.{next}
use Rattle.ilk_model.specs.Hazard.{hazard}
use Rattle.ilk_model.specs.declared.event.Event.{Event}
use Rattle.ilk_layout.specs.Image.{image_of}
use Rattle.ilk_layout.specs.Laws.{AreImageOfSafeState}
use Rattle.ilk_layout.specs.Variables.{ranges_of_plant}
use Rattle.ilk_behave.specs.Behaviour.{event_of_rule, system_of_plant}
use Rattle.ilk_unroll.specs.Goal.{PlainGoalForms}
use Rattle.ilk_model.specs.Meets.{meets_all_families}

-- Holds if in each well-formed state without hazard the rules of the plant's finite system lead to
-- the same states as the events, and events keep states well-formed.
pub record RulesStepLikeEvents (p : PlantLists) : Type 0 where
  pub enabled : (s t : State) (event : Event) → HasShape p s → hazard p s ≡ None → next p s event ≡ Some t → (i : ℕ) × (event_of_rule p i ≡ Some event) × (after_rule_number (system_of_plant p) i (image_of p s) ≡ Some (image_of p t))
  pub fired : (s : State) (i : ℕ) (values : List ℕ) → HasShape p s → hazard p s ≡ None →
      after_rule_number (system_of_plant p) i (image_of p s) ≡ Some values →
      (event : Event) × (t : State) × (event_of_rule p i ≡ Some event) × (next p s event ≡ Some t) ×
      (values ≡ image_of p t)
  pub keeps_shape : (s t : State) (event : Event) → HasShape p s → next p s event ≡ Some t → HasShape p t

-- Holds if each form of the goal says of an encoded state what it should: that it is the initial
-- state, is well-formed without hazard, has a hazard, or keeps a family.
pub record GoalFormsMatchPlant (p : PlantLists) (g : PlainGoalForms) : Type 0 where
  pub begins : (values : List ℕ) → in_ranges values (ranges_of_plant p) ≡ true → (tree_holds values g.start ≡ true) ↔ (values ≡ image_of p (start p))
  pub wellformed : (values : List ℕ) → in_ranges values (ranges_of_plant p) ≡ true → (tree_holds values g.wellformed ≡ true) ↔ AreImageOfSafeState p values
  pub hazards : (s : State) → HasShape p s → tree_holds (image_of p s) g.hazard ≡ is_some (hazard p s)
  pub kept : (s : State) → HasShape p s → hazard p s ≡ None → list_all (tree_holds (image_of p s)) g.families ≡ meets_all_families p s
  pub in_range : (s : State) → HasShape p s → in_ranges (image_of p s) (ranges_of_plant p) ≡ true

-- The events of the rules with these numbers, in order; `None` if a rule has no event.
abbrev pub events_of_rule_numbers_or_none : PlantLists → List ℕ → Option (List Event)
events_of_rule_numbers_or_none p [] = Some []
events_of_rule_numbers_or_none p (i ∷ rules) = do
  event ← event_of_rule p i
  rest ← events_of_rule_numbers_or_none p rules
  Some (event ∷ rest)

-- Returns whether state `s` has no hazard.
abbrev pub state_has_no_hazard : PlantLists → State → Bool
state_has_no_hazard p s = is_none (hazard p s)

-- Returns whether the form holds for these values of the variables.
abbrev pub form_holds_for_values : Tree → List ℕ → Bool
form_holds_for_values form values = tree_holds values form

-- Holds if each of these states is well-formed.
abbrev pub AllHaveShape : PlantLists → List State → Type 0
AllHaveShape p [] = Unit {0}
AllHaveShape p (s ∷ states) = HasShape p s × AllHaveShape p states
