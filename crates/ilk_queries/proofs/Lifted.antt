-- A run that a query asks for exists over states and events if and only if one exists over values
-- and rules.
use Rattle.std.proofs.Common.{◌≡◌, ℕ, zero, suc, true, Some, List, refl, sym, ap, ◌∙◌}
use Rattle.std.proofs.lemmas.Bool.{false≢true}
use Rattle.ilk_plant.specs.Plant.{PlantLists}
use Rattle.ilk_plant.specs.Shape.{HasShape}
use Rattle.ilk_plant.specs.Start.{start}
use Rattle.ilk_plant.proofs.Shapes.{start-shape}
use Rattle.ilk_plant.specs.declared.state.State.{State}
use Rattle.ilk_model.specs.declared.event.Event.{Event}
use Rattle.ilk_layout.specs.Image.{image_of}
use Rattle.ilk_behave.specs.Behaviour.{system_of_plant}
use Rattle.ilk_unroll.specs.Goal.{PlainGoalForms, step_count_is_allowed}
use Rattle.ilk_unroll.specs.Run.{is_wanted_run}
use Rattle.ilk_unroll.specs.declared.queries.Wanted.{Wanted}
use Rattle.ilk_unroll.specs.declared.queries.Wanted.TheVariants.{Hazard, Breach, Step}
use Rattle.ilk_queries.specs.Asked.{HasQueriedRun, IsRunForQuery}
use Rattle.ilk_queries.specs.Lifting.{GoalFormsMatchPlant, RulesStepLikeEvents, events_of_rule_numbers_or_none}
use Rattle.ilk_queries.proofs.Answered.{IsBeginning, first-values, to-asked}

module _ (p : PlantLists) (steps : RulesStepLikeEvents p) (g : PlainGoalForms) (goal : GoalFormsMatchPlant p g) where
  pub record IsLifted (q : Wanted) (first rules : List ℕ) : Type 0 where
    pub state : State
    pub shape : HasShape p state
    pub image : image_of p state ≡ first
    pub events : List Event
    pub by_rules : events_of_rule_numbers_or_none p rules ≡ Some events
    pub run : IsRunForQuery p q state events

  from-state : (q : Wanted) (first rules : List ℕ) (s : State) → HasShape p s → image_of p s ≡ first → IsBeginning p steps g goal q s → is_wanted_run (system_of_plant p) g q first rules ≡ true → IsLifted q first rules
  from-state q first rules s shape image begins wanted =
      let here : is_wanted_run (system_of_plant p) g q (image_of p s) rules ≡ true = ap (λ values. is_wanted_run (system_of_plant p) g q values rules) image ∙ wanted in
      let asked = to-asked p steps g goal q s rules shape begins here in
      record { state = s; shape = shape; image = image; events = asked.0; by_rules = asked.1; run = asked.2 }

  pub lifted : (q : Wanted) (first rules : List ℕ) → step_count_is_allowed q ≡ true → is_wanted_run (system_of_plant p) g q first rules ≡ true → IsLifted q first rules
  lifted (Hazard n) first rules valid wanted =
      from-state (Hazard n) first rules (start p) (start-shape p) (sym (first-values p steps g goal (Hazard n) first rules wanted)) refl wanted
  lifted (Breach n) first rules valid wanted =
      from-state (Breach n) first rules (start p) (start-shape p) (sym (first-values p steps g goal (Breach n) first rules wanted)) refl wanted
  lifted (Step zero) first rules valid wanted = absurd (false≢true valid)
  lifted (Step (suc n)) first rules valid wanted =
      let image = first-values p steps g goal (Step (suc n)) first rules wanted in
      from-state (Step (suc n)) first rules image.state image.calm.shape image.image image.calm.shape wanted

  pub has-events : (q : Wanted) (first rules : List ℕ) → step_count_is_allowed q ≡ true → is_wanted_run (system_of_plant p) g q first rules ≡ true → HasQueriedRun p q
  has-events q first rules valid wanted =
      let l = lifted q first rules valid wanted in record { first = l.state; shape = l.shape; events = l.events; run = l.run }
