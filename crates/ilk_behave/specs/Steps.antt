-- Rules that step as events do.
use Rattle.std.specs.Prelude.{ℕ, ◌≡◌, ◌↔◌, Bool, true, None, Some, Option, IsSome, List, is_some, slice_get}
use Rattle.std.specs.List.{list_any}
use Rattle.ilk_ir.specs.System.{PlainRule, after_rule_number, after_settings}
use Rattle.ilk_ir.specs.Tree.{tree_holds}
use Rattle.ilk_plant.specs.Plant.{PlantLists}
use Rattle.ilk_plant.specs.Shape.{HasShape}
use Rattle.ilk_plant.specs.declared.state.State.{State}
use Rattle.ilk_model.specs.Event.{next}
use Rattle.ilk_model.specs.Hazard.{hazard}
use Rattle.ilk_model.specs.declared.event.Event.{Event}
use Rattle.ilk_layout.specs.Image.{image_of}
use Rattle.ilk_layout.specs.Laws.{IsWellFormedAndSafe}
use Rattle.ilk_behave.specs.Behaviour.{event_of_rule, rules_of_event, system_of_plant}

-- Returns whether the guard of `rule` holds in the image of state `s`.
abbrev pub guard_holds_in_image : PlantLists → State → PlainRule → Bool
guard_holds_in_image p s rule = tree_holds (image_of p s) rule.guard

-- Holds if the rules make the step from state `s` to `following`. Some guard holds in the image of
-- `s` if and only if `following` is a state. The settings of each rule whose guard holds then give
-- the image of `following`.
pub record RulesMatchEvent (p : PlantLists) (s : State) (following : Option State) (rules : List PlainRule) : Type 0 where
  pub enabled : list_any (guard_holds_in_image p s) rules ≡ is_some following
  pub after : (t : State) (i : ℕ) (rule : PlainRule) → following ≡ Some t → slice_get rules i ≡ Some rule → guard_holds_in_image p s rule ≡ true → after_settings (image_of p s) rule.sets ≡ image_of p t

-- Holds if the rules of `event` make exactly its steps, from each well-formed state without hazard.
abbrev pub RulesMatchEventInAllStates : PlantLists → Event → Type 0
RulesMatchEventInAllStates p event = (s : State) → HasShape p s → hazard p s ≡ None → RulesMatchEvent p s (next p s event) (rules_of_event p event)

-- Holds if rule number `i` is a rule of `event`, its guard holds in the image of state `s`, and its
-- settings then give `values`.
pub record EventRuleGivesValues (p : PlantLists) (s : State) (event : Event) (i : ℕ) (values : List ℕ) : Type 0 where
  pub of_event : event_of_rule p i ≡ Some event
  pub gives : after_rule_number (system_of_plant p) i (image_of p s) ≡ Some values

-- Holds if some rule of `event` has a guard that holds in the image of state `s`.
pub record SomeEventRuleIsEnabled (p : PlantLists) (s : State) (event : Event) : Type 0 where
  pub number : ℕ
  pub values : List ℕ
  pub gives : EventRuleGivesValues p s event number values

-- Holds if the plant's system steps as its events do, from each well-formed state without hazard.
-- An event is enabled if and only if the guard of one of its rules holds. The settings of each such
-- rule give the image of the next state.
pub record SystemMatchesEvents (p : PlantLists) : Type 0 where
  pub enabled : (s : State) (event : Event) → IsWellFormedAndSafe p s → IsSome (next p s event) ↔ SomeEventRuleIsEnabled p s event
  pub after : (s t : State) (event : Event) (i : ℕ) (values : List ℕ) → IsWellFormedAndSafe p s → next p s event ≡ Some t → EventRuleGivesValues p s event i values → values ≡ image_of p t
