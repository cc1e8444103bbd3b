-- The verdict made from that on the system is right for the plant.
use Rattle.std.proofs.Common.{◌≡◌, ℕ, zero, suc, ◌<◌, ◌≤◌, true, Some, List, length, refl, sym, ap, subst, ◌∙◌, arith}
use Rattle.std.specs.Prelude.{is_some}
use Rattle.std.proofs.lemmas.Bool.{le-leb}
use Rattle.std.proofs.lemmas.Option.{same_Some}
use Rattle.ilk_ir.specs.System.{in_ranges}
use Rattle.ilk_plant.specs.Plant.{PlantLists}
use Rattle.ilk_plant.specs.Start.{start}
use Rattle.ilk_plant.specs.declared.state.State.{State}
use Rattle.ilk_model.specs.declared.event.Event.{Event}
use Rattle.ilk_model.specs.declared.hazards.HazardAt.{HazardAt}
use Rattle.ilk_layout.specs.Image.{image_of}
use Rattle.ilk_layout.specs.Laws.{AreImageOfSafeState, IsWellFormedAndSafe, WellformedIffSafeStateImage}
use Rattle.ilk_layout.specs.Variables.{ranges_of_plant}
use Rattle.ilk_layout.specs.Wellformed.{is_wellformed}
use Rattle.ilk_behave.specs.Behaviour.{system_of_plant}
use Rattle.ilk_unroll.specs.Goal.{PlainGoalForms, step_count_is_allowed}
use Rattle.ilk_unroll.specs.Run.{is_wanted_run}
use Rattle.ilk_unroll.specs.declared.queries.Wanted.{Wanted}
use Rattle.ilk_unroll.specs.declared.queries.Wanted.TheVariants.{Hazard, Breach as BreachQuery, Step}
use Rattle.ilk_unroll.specs.declared.reading.Trace.{Trace}
use Rattle.ilk_unroll.proofs.QueryLaw.{wants}
use Rattle.ilk_queries.specs.Asked.{HasQueriedRun, IsRunForQuery, ends_in_breach, ends_in_hazard}
use Rattle.ilk_queries.specs.Lifting.{GoalFormsMatchPlant, RulesStepLikeEvents, events_of_rule_numbers_or_none}
use Rattle.ilk_queries.proofs.Answered.{first-values, to-asked}
use Rattle.ilk_queries.proofs.Lifted.{lifted}
use Rattle.ilk_unroll.specs.Evidence.{HasRun}
use Rattle.ilk_induct.specs.Right.{IsShortestBreachWithoutHazard, NoHazardBreachInductionUpTo, IsExactSystemVerdict, IsRunOfQuery, IsShortestHazardLength}
use Rattle.ilk_induct.specs.declared.verdict.Verdict.TheVariants as system
use Rattle.ilk_engine.specs.Right.{IsRightVerdict, broken_family_after, hazard_after}
use Rattle.ilk_engine.specs.declared.verdict.Verdict.TheVariants.{Safe, Unsafe, Breach, NotInductive}
use Rattle.ilk_engine.proofs.Carried.{carried-breach, carried-not, carried-safe, carried-unsafe}
use Rattle.ilk_forever.proofs.OnPlant.{has-lifted, has-run}

module _ (p : PlantLists) (lead : RulesStepLikeEvents p) (g : PlainGoalForms) (goal : GoalFormsMatchPlant p g) where
  up : (q : Wanted) → HasQueriedRun p q → HasRun (system_of_plant p) g q
  up = has-run p lead g goal

  down : (q : Wanted) → step_count_is_allowed q ≡ true → HasRun (system_of_plant p) g q → HasQueriedRun p q
  down = has-lifted p lead g goal

  record HasLedToHazard (depth : ℕ) (trace : Trace) : Type 0 where
    events : List Event
    by_rules : events_of_rule_numbers_or_none p trace.rules ≡ Some events
    least : IsShortestHazardLength (HasQueriedRun p) depth (length events)
    ends : ends_in_hazard p (start p) events ≡ true

  led-to-hazard : (depth : ℕ) (trace : Trace) → depth ≤ 16 → IsExactSystemVerdict (system_of_plant p) g depth (system.Unsafe trace) → HasLedToHazard depth trace
  led-to-hazard depth trace few right =
      let within = right.0.hazard.within in
      let l = lifted p lead g goal (Hazard (length trace.rules)) trace.first trace.rules (le-leb (length trace.rules) 16 (omega arith)) right.1 in
      record {
        events = l.events;
        by_rules = l.by_rules;
        least = subst (IsShortestHazardLength (HasQueriedRun p) depth) (sym l.run.1) (carried-unsafe (HasRun (system_of_plant p) g) (HasQueriedRun p) up down depth (length trace.rules) few right.0);
        ends = subst (λ (s : State). ends_in_hazard p s l.events ≡ true) l.run.0 l.run.2;
      }

  pub unsafe-fires : (depth : ℕ) (trace : Trace) → depth ≤ 16 → IsExactSystemVerdict (system_of_plant p) g depth (system.Unsafe trace) → is_some (events_of_rule_numbers_or_none p trace.rules) ≡ true
  unsafe-fires depth trace few right = ap is_some (led-to-hazard depth trace few right).by_rules

  pub unsafe-ends : (depth : ℕ) (trace : Trace) (events : List Event) → depth ≤ 16 → IsExactSystemVerdict (system_of_plant p) g depth (system.Unsafe trace) → events_of_rule_numbers_or_none p trace.rules ≡ Some events
      → ends_in_hazard p (start p) events ≡ true
  unsafe-ends depth trace events few right by =
      let led = led-to-hazard depth trace few right in
      subst (λ (es : List Event). ends_in_hazard p (start p) es ≡ true) (same_Some led.events events (sym led.by_rules ∙ by)) led.ends

  pub unsafe-right : (depth : ℕ) (trace : Trace) (events : List Event) (at : HazardAt) → depth ≤ 16 →
      IsExactSystemVerdict (system_of_plant p) g depth (system.Unsafe trace) → events_of_rule_numbers_or_none p trace.rules ≡ Some events →
      hazard_after p events ≡ Some at → IsRightVerdict p depth (Unsafe events at)
  unsafe-right depth trace events at few right by is =
      let led = led-to-hazard depth trace few right in
      let same : led.events ≡ events = same_Some led.events events (sym led.by_rules ∙ by) in
      let least : IsShortestHazardLength (HasQueriedRun p) depth (length events) = subst (λ (es : List Event). IsShortestHazardLength (HasQueriedRun p) depth (length es)) same led.least in
      (least, (refl, refl, unsafe-ends depth trace events few right by), is)

  record HasLedToBreach (depth : ℕ) (trace : Trace) : Type 0 where
    events : List Event
    by_rules : events_of_rule_numbers_or_none p trace.rules ≡ Some events
    least : IsShortestBreachWithoutHazard (HasQueriedRun p) depth (length events)
    ends : ends_in_breach p (start p) events ≡ true

  led-to-breach : (depth : ℕ) (trace : Trace) → depth ≤ 16 → IsExactSystemVerdict (system_of_plant p) g depth (system.Breach trace) → HasLedToBreach depth trace
  led-to-breach depth trace few right =
      let within = right.0.breach.within in
      let l = lifted p lead g goal (BreachQuery (length trace.rules)) trace.first trace.rules (le-leb (length trace.rules) 16 (omega arith)) right.1 in
      record {
        events = l.events;
        by_rules = l.by_rules;
        least = subst (IsShortestBreachWithoutHazard (HasQueriedRun p) depth) (sym l.run.1) (carried-breach (HasRun (system_of_plant p) g) (HasQueriedRun p) up down depth (length trace.rules) few right.0);
        ends = subst (λ (s : State). ends_in_breach p s l.events ≡ true) l.run.0 l.run.2;
      }

  pub breach-fires : (depth : ℕ) (trace : Trace) → depth ≤ 16 → IsExactSystemVerdict (system_of_plant p) g depth (system.Breach trace) → is_some (events_of_rule_numbers_or_none p trace.rules) ≡ true
  breach-fires depth trace few right = ap is_some (led-to-breach depth trace few right).by_rules

  pub breach-ends : (depth : ℕ) (trace : Trace) (events : List Event) → depth ≤ 16 → IsExactSystemVerdict (system_of_plant p) g depth (system.Breach trace) → events_of_rule_numbers_or_none p trace.rules ≡ Some events
      → ends_in_breach p (start p) events ≡ true
  breach-ends depth trace events few right by =
      let led = led-to-breach depth trace few right in
      subst (λ (es : List Event). ends_in_breach p (start p) es ≡ true) (same_Some led.events events (sym led.by_rules ∙ by)) led.ends

  pub breach-right : (depth : ℕ) (trace : Trace) (events : List Event) (family : ℕ) → depth ≤ 16 →
      IsExactSystemVerdict (system_of_plant p) g depth (system.Breach trace) → events_of_rule_numbers_or_none p trace.rules ≡ Some events →
      broken_family_after p events ≡ Some family → IsRightVerdict p depth (Breach events family)
  breach-right depth trace events family few right by is =
      let led = led-to-breach depth trace few right in
      let same : led.events ≡ events = same_Some led.events events (sym led.by_rules ∙ by) in
      let least : IsShortestBreachWithoutHazard (HasQueriedRun p) depth (length events) = subst (λ (es : List Event). IsShortestBreachWithoutHazard (HasQueriedRun p) depth (length es)) same led.least in
      (least, (refl, refl, breach-ends depth trace events few right by), is)

  begins-at-image : (depth : ℕ) (trace : Trace) → 0 < depth → IsRunOfQuery (system_of_plant p) g (Step depth) trace → AreImageOfSafeState p trace.first
  begins-at-image zero trace some run = absurd (omega (arith, some))
  begins-at-image (suc n) trace some run = first-values p lead g goal (Step (suc n)) trace.first trace.rules run

  pub first-in-range : (depth : ℕ) (trace : Trace) → IsExactSystemVerdict (system_of_plant p) g depth (system.NotInductive trace) → in_ranges trace.first (ranges_of_plant p) ≡ true
  first-in-range depth trace right = (wants (system_of_plant p) g (Step depth) trace.first trace.rules right.1).in_range

  pub first-wellformed : (depth : ℕ) (trace : Trace) → WellformedIffSafeStateImage p → 0 < depth → IsExactSystemVerdict (system_of_plant p) g depth (system.NotInductive trace) → is_wellformed p trace.first ≡ true
  first-wellformed depth trace law some right = (law trace.first (first-in-range depth trace right)).1 (begins-at-image depth trace some right.1)

  record HasLedOut (depth : ℕ) (trace : Trace) (first : State) : Type 0 where
    events : List Event
    by_rules : events_of_rule_numbers_or_none p trace.rules ≡ Some events
    run : IsRunForQuery p (Step depth) first events

  led-out : (depth : ℕ) (trace : Trace) (first : State) → IsWellFormedAndSafe p first → image_of p first ≡ trace.first → IsRunOfQuery (system_of_plant p) g (Step depth) trace → HasLedOut depth trace first
  led-out depth trace first calm image run =
      let here : is_wanted_run (system_of_plant p) g (Step depth) (image_of p first) trace.rules ≡ true = ap (λ (values : List ℕ). is_wanted_run (system_of_plant p) g (Step depth) values trace.rules) image ∙ run in
      let goes = to-asked p lead g goal (Step depth) first trace.rules calm.shape calm.shape here in
      record { events = goes.0; by_rules = goes.1; run = goes.2 }

  pub out-fires : (depth : ℕ) (trace : Trace) (first : State) → IsWellFormedAndSafe p first → image_of p first ≡ trace.first → IsExactSystemVerdict (system_of_plant p) g depth (system.NotInductive trace) →
      is_some (events_of_rule_numbers_or_none p trace.rules) ≡ true
  out-fires depth trace first calm image right = ap is_some (led-out depth trace first calm image right.1).by_rules

  pub out-right : (depth : ℕ) (trace : Trace) (first : State) (events : List Event) → depth ≤ 16 →
      IsWellFormedAndSafe p first → image_of p first ≡ trace.first →
      IsExactSystemVerdict (system_of_plant p) g depth (system.NotInductive trace) → events_of_rule_numbers_or_none p trace.rules ≡ Some events →
      IsRightVerdict p depth (NotInductive first events)
  out-right depth trace first events few calm image right by =
      let led = led-out depth trace first calm image right.1 in
      let same : led.events ≡ events = same_Some led.events events (sym led.by_rules ∙ by) in
      let none : NoHazardBreachInductionUpTo (HasQueriedRun p) depth = carried-not (HasRun (system_of_plant p) g) (HasQueriedRun p) up down depth few right.0 in
      (none, subst (λ (es : List Event). IsRunForQuery p (Step depth) first es) same led.run)

  pub safe-right : (depth k : ℕ) → depth ≤ 16 → IsExactSystemVerdict (system_of_plant p) g depth (system.Safe k) → IsRightVerdict p depth (Safe k)
  safe-right depth k few right = carried-safe (HasRun (system_of_plant p) g) (HasQueriedRun p) up down depth k few right
