-- The system steps as the events do, by rule numbers.
use Rattle.std.proofs.Common.{◌≡◌, ℕ, zero, suc, ◌+◌, ◌-◌, ◌<◌, ◌==◌, true, false, Option, Some, None, option_and_then, List, [], ◌∷◌, length, map, slice_get, inl, inr, refl, sym, ◌∙◌, ap, arith, is_some}
use Rattle.std.specs.List.{flat_map}
use Rattle.std.proofs.lemmas.Bool.{eq-eqb}
use Rattle.std.proofs.lemmas.Option.{cond_some, same_Some, slice_get_within}
use Rattle.ilk_base.specs.Option.{then_some}
use Rattle.ilk_base.proofs.Lists.{at-before, at-past, item_at}
use Rattle.ilk_base.proofs.Options.{bind_some}
use Rattle.ilk_base.proofs.Ranges.{below_or_past}
use Rattle.ilk_base.proofs.Tested.{list_any-at, list_any-from}
use Rattle.ilk_ir.specs.System.{PlainRule, after_rule, after_settings}
use Rattle.ilk_ir.specs.Tree.{tree_holds}
use Rattle.ilk_plant.specs.Plant.{IsPlant, PlantLists, inward_direction_if_border, next_to, point_number}
use Rattle.ilk_plant.specs.Sound.{IsAcyclic}
use Rattle.ilk_plant.specs.declared.network.Dir.{Dir}
use Rattle.ilk_plant.specs.declared.network.Dir.TheVariants.{Up, Down}
use Rattle.ilk_plant.specs.declared.state.State.{State}
use Rattle.ilk_model.specs.Event.{next}
use Rattle.ilk_model.specs.declared.event.Event.{Event}
use Rattle.ilk_model.specs.declared.event.Event.TheVariants.{Mark, Allocate, Lock, Sense, Release, Finish, Throw, Settle, Enter, Head, Tail, Leave, Cancel}
use Rattle.ilk_layout.specs.Image.{image_of}
use Rattle.ilk_layout.specs.Laws.{IsWellFormedAndSafe}
use Rattle.ilk_behave.specs.Behaviour.{events_of_plant, events_of_rules, rules_of_event, system_of_plant}
use Rattle.ilk_behave.specs.Numbered.{IsEventOfPlant}
use Rattle.ilk_behave.specs.Settings.{map_or_no_rules}
use Rattle.ilk_behave.specs.Steps.{RulesMatchEventInAllStates, SomeEventRuleIsEnabled, EventRuleGivesValues, SystemMatchesEvents, guard_holds_in_image}
use Rattle.ilk_behave.specs.TrainRules.{head_rules_to_neighbour, tail_rule_to_neighbour}
use Rattle.ilk_behave.proofs.AllocateSteps.{allocate-steps, lock-steps}
use Rattle.ilk_behave.proofs.EnterSteps.{enter-steps, leave-steps}
use Rattle.ilk_behave.proofs.Fired.{has-neighbour-known, in-one}
use Rattle.ilk_behave.proofs.HeadSteps.{head-steps}
use Rattle.ilk_behave.proofs.Located.{of_first, of_rest, past-of}
use Rattle.ilk_plant.proofs.PointNumbers.{numbered-section}
use Rattle.ilk_behave.proofs.PlantEvents.{listed}
use Rattle.ilk_behave.proofs.PointSteps.{settle-steps, throw-steps}
use Rattle.ilk_behave.proofs.ReleaseSteps.{finish-steps, release-steps}
use Rattle.ilk_behave.proofs.RouteSteps.{cancel-steps, mark-steps, sense-steps}
use Rattle.ilk_behave.proofs.TailSteps.{tail-steps}
use Rattle.ilk_motion.proofs.Shape.{inward_direction_if_border-known}

event-steps : (p : PlantLists) → IsPlant p → IsAcyclic p → (event : Event) → RulesMatchEventInAllStates p event
event-steps p plant never (Mark r) s shape calm = mark-steps p plant s shape calm r
event-steps p plant never (Allocate r) s shape calm = allocate-steps p plant s shape calm r
event-steps p plant never (Lock r) s shape calm = lock-steps p plant s shape calm r
event-steps p plant never (Sense r) s shape calm = sense-steps p plant s shape calm r
event-steps p plant never (Release r) s shape calm = release-steps p plant s shape calm r
event-steps p plant never (Finish r) s shape calm = finish-steps p plant s shape calm r
event-steps p plant never (Throw x) s shape calm = throw-steps p plant s shape calm x
event-steps p plant never (Settle x) s shape calm = settle-steps p plant s shape calm x
event-steps p plant never (Enter x) s shape calm = enter-steps p plant never s shape calm x
event-steps p plant never (Head x) s shape calm = head-steps p plant never s shape calm x
event-steps p plant never (Tail x) s shape calm = tail-steps p plant never s shape calm x
event-steps p plant never (Leave x) s shape calm = leave-steps p plant never s shape calm x
event-steps p plant never (Cancel r) s shape calm = cancel-steps p plant s shape calm r

thing-of : {A : Type 0} (o : Option A) (rules : A → List PlainRule) (j : ℕ) (rule : PlainRule) → slice_get (map_or_no_rules o rules) j ≡ Some rule → (a : A) × (o ≡ Some a)
thing-of None rules j rule at = cc
thing-of (Some a) rules j rule at = (a, refl)

point-known : (p : PlantLists) (x n : ℕ) → point_number p x ≡ Some n → x < length p.sections
point-known p x n e = let section = numbered-section p x n e in slice_get_within p.sections x section.0 section.1

towards-known : (p : PlantLists) → IsPlant p → (x : ℕ) (rules : Dir → ℕ → List PlainRule) (j : ℕ) (rule : PlainRule) → slice_get (flat_map (λ d. flat_map (rules d) (next_to p x d)) (Up ∷ Down ∷ [])) j ≡ Some rule → x < length p.sections
towards-known p plant x rules j rule at =
    let one = in-one (λ d. flat_map (rules d) (next_to p x d)) (Up ∷ Down ∷ []) j rule at in
    let two = in-one (rules one.1) (next_to p x one.1) one.2 rule one.4 in
    has-neighbour-known p plant x two.1 one.1 (list_any-from (λ y. y == two.1) (next_to p x one.1) two.0 two.1 two.3 (eq-eqb two.1 two.1 refl))

rule-numbered : (p : PlantLists) → IsPlant p → (event : Event) (j : ℕ) (rule : PlainRule) → slice_get (rules_of_event p event) j ≡ Some rule → IsEventOfPlant p event
rule-numbered p plant (Mark r) j rule at = let route = thing-of (slice_get p.routes r) _ j rule at in slice_get_within p.routes r route.0 route.1
rule-numbered p plant (Allocate r) j rule at = let route = thing-of (slice_get p.routes r) _ j rule at in slice_get_within p.routes r route.0 route.1
rule-numbered p plant (Lock r) j rule at = let route = thing-of (slice_get p.routes r) _ j rule at in slice_get_within p.routes r route.0 route.1
rule-numbered p plant (Sense r) j rule at = let route = thing-of (slice_get p.routes r) _ j rule at in slice_get_within p.routes r route.0 route.1
rule-numbered p plant (Release r) j rule at = let route = thing-of (slice_get p.routes r) _ j rule at in slice_get_within p.routes r route.0 route.1
rule-numbered p plant (Finish r) j rule at = let route = thing-of (slice_get p.routes r) _ j rule at in slice_get_within p.routes r route.0 route.1
rule-numbered p plant (Cancel r) j rule at = let route = thing-of (slice_get p.routes r) _ j rule at in slice_get_within p.routes r route.0 route.1
rule-numbered p plant (Throw x) j rule at = let point = thing-of (point_number p x) _ j rule at in point-known p x point.0 point.1
rule-numbered p plant (Settle x) j rule at = let point = thing-of (point_number p x) _ j rule at in point-known p x point.0 point.1
rule-numbered p plant (Enter x) j rule at = let edge = thing-of (inward_direction_if_border p x) _ j rule at in inward_direction_if_border-known p x edge.0 edge.1
rule-numbered p plant (Head x) j rule at = towards-known p plant x (λ d y. flat_map (head_rules_to_neighbour p x d y) (true ∷ false ∷ [])) j rule at
rule-numbered p plant (Tail x) j rule at = towards-known p plant x (λ d y. map (tail_rule_to_neighbour p x d y) (true ∷ false ∷ [])) j rule at
rule-numbered p plant (Leave x) j rule at = let section = thing-of (slice_get p.sections x) _ j rule at in slice_get_within p.sections x section.0 section.1

numbered : (p : PlantLists) (events : List Event) (k : ℕ) (event : Event) (j : ℕ) (rule : PlainRule) →
    slice_get events k ≡ Some event → slice_get (rules_of_event p event) j ≡ Some rule →
    (i : ℕ) × (slice_get (events_of_rules p events) i ≡ Some event) ×
    (slice_get (flat_map (rules_of_event p) events) i ≡ Some rule)
numbered p [] k event j rule at there = cc
numbered p (z ∷ rest) zero event j rule at there =
    let same = same_Some z event at in
    let mine : slice_get (rules_of_event p z) j ≡ Some rule = ap (λ e. slice_get (rules_of_event p e) j) same ∙ there in
    (j, of_first p z rest j (slice_get_within (rules_of_event p z) j rule mine) ∙ ap Some same, at-before (rules_of_event p z) (flat_map (rules_of_event p) rest) j rule mine)
numbered p (z ∷ rest) (suc k) event j rule at there =
    let later = numbered p rest k event j rule at there in
    let back : length (rules_of_event p z) + later.0 - length (rules_of_event p z) ≡ later.0 = omega arith in (
      length (rules_of_event p z) + later.0,
      of_rest p z rest (length (rules_of_event p z) + later.0) (omega arith) ∙ ap (slice_get (events_of_rules p rest)) back ∙ later.1,
      at-past (rules_of_event p z) (flat_map (rules_of_event p) rest)
          later.0 rule later.2,
    )

rule-of : (p : PlantLists) (events : List Event) (i : ℕ) (event : Event) (rule : PlainRule) →
    slice_get (events_of_rules p events) i ≡ Some event →
    slice_get (flat_map (rules_of_event p) events) i ≡ Some rule →
    (j : ℕ) × (slice_get (rules_of_event p event) j ≡ Some rule)
rule-of p [] i event rule at there = cc
rule-of p (z ∷ rest) i event rule at there =
    elim (below_or_past i (length (rules_of_event p z))) [
      | inl less ↦
          (let found = item_at (rules_of_event p z) i less in
          let same : z ≡ event = same_Some z event (sym (of_first p z rest i less) ∙ at) in
          let is : found.0 ≡ rule = same_Some found.0 rule (sym (at-before (rules_of_event p z) (flat_map (rules_of_event p) rest) i found.0 found.1) ∙ there) in
          (i, ap (λ e. slice_get (rules_of_event p e) i) (sym same) ∙ found.1 ∙ ap Some is))
      | inr more ↦
          rule-of p rest (i - length (rules_of_event p z)) event rule (sym (of_rest p z rest i more) ∙ at) (sym (past-of (rules_of_event p z) (flat_map (rules_of_event p) rest) i more) ∙ there)
    ]

record IsGiven (p : PlantLists) (s : State) (event : Event) (values : List ℕ) : Type 0 where
  pub place : ℕ
  pub rule : PlainRule
  pub at : slice_get (rules_of_event p event) place ≡ Some rule
  pub fires : guard_holds_in_image p s rule ≡ true
  pub is : after_settings (image_of p s) rule.sets ≡ values

given : (p : PlantLists) (s : State) (event : Event) (i : ℕ) (values : List ℕ) → EventRuleGivesValues p s event i values → IsGiven p s event values
given p s event i values h =
    let found = bind_some (slice_get (system_of_plant p).rules i) (λ r. after_rule r (image_of p s)) values h.gives in
    let fires = cond_some (tree_holds (image_of p s) found.0.guard) (after_settings (image_of p s) found.0.sets) values found.2 in
    let mine = rule-of p (events_of_plant p) i event found.0 h.of_event found.1 in
    record { place = mine.0; rule = found.0; at = mine.1; fires = fires.0; is = fires.1 }

module _ (p : PlantLists) (plant : IsPlant p) (never : IsAcyclic p) where
  gives-where-enabled : (s : State) (event : Event) → IsWellFormedAndSafe p s → is_some (next p s event) ≡ true → SomeEventRuleIsEnabled p s event
  gives-where-enabled s event calm h =
      let step = event-steps p plant never event s calm.shape calm.no_hazard in
      let found : (j : ℕ) × (rule : PlainRule) × (slice_get (rules_of_event p event) j ≡ Some rule) × (guard_holds_in_image p s rule ≡ true) = list_any-at (guard_holds_in_image p s) (rules_of_event p event) (step.enabled ∙ h) in
      let listed_at = listed p event (rule-numbered p plant event found.0 found.1 found.2) in
      let number = numbered p (events_of_plant p) listed_at.0 event found.0 found.1 listed_at.1 found.2 in
      record {
        number = number.0;
        values = after_settings (image_of p s) found.1.sets;
        gives = record { of_event = number.1; gives = ap (option_and_then (λ r. after_rule r (image_of p s))) number.2 ∙ ap (λ b. then_some b (after_settings (image_of p s) found.1.sets)) found.3 };
      }

  enabled-where-given : (s : State) (event : Event) → IsWellFormedAndSafe p s → SomeEventRuleIsEnabled p s event → is_some (next p s event) ≡ true
  enabled-where-given s event calm h =
      let step = event-steps p plant never event s calm.shape calm.no_hazard in
      let one = given p s event h.number h.values h.gives in
      sym step.enabled ∙ list_any-from (guard_holds_in_image p s) (rules_of_event p event) one.place one.rule one.at one.fires

  pub steps-as : SystemMatchesEvents p
  steps-as = record {
    enabled = λ s event calm. (gives-where-enabled s event calm, enabled-where-given s event calm);
    after = λ s t event i values calm e h.
        (let step = event-steps p plant never event s calm.shape calm.no_hazard in
        let one = given p s event i values h in
        sym one.is ∙ step.after t one.place one.rule e one.at one.fires);
  }
