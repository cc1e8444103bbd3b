-- The plant's system steps as its events do, and states stay well-formed.
use Rattle.std.proofs.Common.{◌≡◌, ℕ, ◌<◌, Some, List, length, slice_get, ap, ◌∙◌, arith}
use Rattle.std.specs.Prelude.{is_some}
use Rattle.std.proofs.lemmas.Option.{slice_get_within}
use Rattle.ilk_base.proofs.Lists.{item_at}
use Rattle.ilk_base.proofs.Options.{bind_some, some-is}
use Rattle.ilk_ir.specs.System.{after_rule, after_rule_number}
use Rattle.ilk_plant.specs.Plant.{IsPlant, PlantLists}
use Rattle.ilk_model.specs.Event.{next}
use Rattle.ilk_model.specs.declared.event.Event.{Event}
use Rattle.ilk_model.proofs.Shape.{next-shape}
use Rattle.ilk_layout.specs.Image.{image_of}
use Rattle.ilk_layout.specs.Laws.{IsWellFormedAndSafe}
use Rattle.ilk_behave.specs.Behaviour.{event_of_rule, events_of_plant, events_of_rules, system_of_plant}
use Rattle.ilk_behave.specs.Steps.{EventRuleGivesValues, SystemMatchesEvents}
use Rattle.ilk_behave.proofs.Located.{as_many}
use Rattle.ilk_queries.specs.Lifting.{RulesStepLikeEvents}

rule-event : (p : PlantLists) (i : ℕ) (values next : List ℕ) → after_rule_number (system_of_plant p) i values ≡ Some next → (event : Event) × (event_of_rule p i ≡ Some event)
rule-event p i values next e =
    let rule = bind_some (slice_get (system_of_plant p).rules i) (λ r. after_rule r values) next e in
    let within : i < length (system_of_plant p).rules = slice_get_within (system_of_plant p).rules i rule.0 rule.1 in
    let many : length (events_of_rules p (events_of_plant p)) ≡ length (system_of_plant p).rules = as_many p (events_of_plant p) in
    item_at (events_of_rules p (events_of_plant p)) i (omega (arith, many))

pub rules-step : (p : PlantLists) → IsPlant p → SystemMatchesEvents p → RulesStepLikeEvents p
rules-step p plant steps =
    record {
      enabled = λ s t event shape none e.
          (let calm : IsWellFormedAndSafe p s = record { shape = shape; no_hazard = none } in
          let gives = (steps.enabled s event calm).0 (ap is_some e) in
          (gives.number, gives.gives.of_event, gives.gives.gives ∙ ap Some (steps.after s t event gives.number gives.values calm e gives.gives)));
      fired = λ s i values shape none e.
          (let calm : IsWellFormedAndSafe p s = record { shape = shape; no_hazard = none } in
          let of = rule-event p i (image_of p s) values e in
          let rule : EventRuleGivesValues p s of.0 i values = record { of_event = of.1; gives = e } in
          let following = some-is (next p s of.0) ((steps.enabled s of.0 calm).1 (record { number = i; values = values; gives = rule })) in
          (of.0, following.0, of.1, following.1, steps.after s following.0 of.0 i values calm following.1 rule));
      keeps_shape = next-shape p plant;
    }
