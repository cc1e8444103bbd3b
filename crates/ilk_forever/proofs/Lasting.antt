-- If no run ends in a hazard or breaks a family, each run from the start ends in a state that meets
-- the invariant.
use Rattle.std.proofs.Common.{◌≡◌, Bool, true, false, not, ◌&&◌, Option, Some, None, List, length, refl, ap, ◌∙◌}
use Rattle.std.specs.Prelude.{is_some, is_none}
use Rattle.std.proofs.lemmas.Bool.{and_from}
use Rattle.ilk_base.specs.Option.{is_some_and}
use Rattle.ilk_plant.specs.Plant.{PlantLists}
use Rattle.ilk_plant.specs.Shape.{HasShape}
use Rattle.ilk_plant.specs.Start.{start}
use Rattle.ilk_plant.proofs.Shapes.{start-shape}
use Rattle.ilk_plant.specs.declared.state.State.{State}
use Rattle.ilk_model.specs.Hazard.{hazard}
use Rattle.ilk_model.specs.Meets.{Meets, meets_all_families}
use Rattle.ilk_model.specs.Run.{run}
use Rattle.ilk_model.specs.declared.event.Event.{Event}
use Rattle.ilk_model.specs.declared.hazards.HazardAt.{HazardAt}
use Rattle.ilk_unroll.specs.Goal.{PlainGoalForms}
use Rattle.ilk_unroll.specs.declared.queries.Wanted.TheVariants.{Hazard, Breach}
use Rattle.ilk_unroll.specs.Evidence.{NoHazardOrBreachEver}
use Rattle.ilk_queries.specs.Asked.{HasQueriedRun}
use Rattle.ilk_queries.specs.Lifting.{GoalFormsMatchPlant, RulesStepLikeEvents}
use Rattle.ilk_queries.proofs.Queries.{shaped-at}
use Rattle.ilk_queries.proofs.Walks.{run-states, states-shaped}
use Rattle.ilk_forever.specs.Forever.{AlwaysKeepsInvariant}

pub run-shape : (p : PlantLists) (steps : RulesStepLikeEvents p) (g : PlainGoalForms) (goal : GoalFormsMatchPlant p g) (s t : State) (events : List Event) → HasShape p s → run p s events ≡ Some t → HasShape p t
run-shape p steps g goal s t events shape ends =
    let led = run-states p s t events ends in
    shaped-at p led.0 (length events) t (states-shaped p steps g goal s events led.0 shape led.1) led.3

to-hazard : (p : PlantLists) (events : List Event) (t : State) → run p (start p) events ≡ Some t → is_some (hazard p t) ≡ true → HasQueriedRun p (Hazard (length events))
to-hazard p events t ends some = record {
  first = start p;
  shape = start-shape p;
  events = events;
  run = (refl, refl, ap (λ o. is_some_and o (λ u. is_some (hazard p u))) ends ∙ some);
}

to-breach : (p : PlantLists) (events : List Event) (t : State) → run p (start p) events ≡ Some t → hazard p t ≡ None → meets_all_families p t ≡ false → HasQueriedRun p (Breach (length events))
to-breach p events t ends none broken = record {
  first = start p;
  shape = start-shape p;
  events = events;
  run = (refl, refl, ap (λ o. is_some_and o (λ u. is_none (hazard p u) && not (meets_all_families p u))) ends ∙ and_from _ _ (ap is_none none) (ap not broken));
}

pub forever-safe : (p : PlantLists) (steps : RulesStepLikeEvents p) (g : PlainGoalForms) (goal : GoalFormsMatchPlant p g) → NoHazardOrBreachEver (HasQueriedRun p) → AlwaysKeepsInvariant p
forever-safe p steps g goal never events t ends = by_hazard (hazard p t) refl
  where
    by_kept : hazard p t ≡ None → (b : Bool) → meets_all_families p t ≡ b → Meets p t
    by_kept none true kept = record { shape = run-shape p steps g goal (start p) t events (start-shape p) ends; no_hazard = none; families_kept = kept }
    by_kept none false broken = absurd ((never (length events)).1 (to-breach p events t ends none broken))

    by_hazard : (o : Option HazardAt) → hazard p t ≡ o → Meets p t
    by_hazard None none = by_kept none (meets_all_families p t) refl
    by_hazard (Some h) some = absurd ((never (length events)).0 (to-hazard p events t ends (ap is_some some)))
