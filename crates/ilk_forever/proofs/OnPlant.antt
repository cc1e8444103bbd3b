-- The verdict on a plant's system, lifted to the plant.
use Rattle.std.proofs.Common.{◌≡◌, ◌↔◌, ℕ, ◌<◌, ◌≤◌, true, arith}
use Rattle.std.proofs.lemmas.Bool.{le-leb}
use Rattle.ilk_plant.specs.Plant.{IsPlant, PlantLists}
use Rattle.ilk_layout.specs.Image.{image_of}
use Rattle.ilk_behave.specs.Behaviour.{system_of_plant}
use Rattle.ilk_behave.specs.Steps.{SystemMatchesEvents}
use Rattle.ilk_unroll.specs.Goal.{PlainGoalForms, step_count_is_allowed}
use Rattle.ilk_unroll.specs.declared.queries.Wanted.{Wanted}
use Rattle.ilk_unroll.specs.declared.queries.Wanted.TheVariants.{Hazard, Breach, Step}
use Rattle.ilk_queries.specs.Asked.{HasQueriedRun}
use Rattle.ilk_queries.specs.Goal.{goal_forms_of_plant}
use Rattle.ilk_queries.specs.Lifting.{GoalFormsMatchPlant, RulesStepLikeEvents}
use Rattle.ilk_queries.proofs.Answered.{to-wanted}
use Rattle.ilk_queries.proofs.Lifted.{has-events}
use Rattle.ilk_queries.proofs.Steps.{rules-step}
use Rattle.ilk_unroll.specs.Evidence.{HasRun, NoHazardOrBreachEver, HoldsForNoneUpTo, ReachesHazard, ReachesBreach}
use Rattle.ilk_forever.specs.Forever.{AlwaysKeepsInvariant}
use Rattle.ilk_forever.proofs.CarriedForever.{carried-forever, step-valid}
use Rattle.ilk_forever.proofs.Lasting.{forever-safe}

module _ (p : PlantLists) (steps : RulesStepLikeEvents p) (g : PlainGoalForms) (goal : GoalFormsMatchPlant p g) where
  pub has-run : (q : Wanted) → HasQueriedRun p q → HasRun (system_of_plant p) g q
  has-run q has = let rules = to-wanted p steps g goal q has.first has.events has.shape has.run in (image_of p has.first, rules.0, rules.1)

  pub has-lifted : (q : Wanted) → step_count_is_allowed q ≡ true → HasRun (system_of_plant p) g q → HasQueriedRun p q
  has-lifted q valid has = has-events p steps g goal q has.0 has.1 valid has.2

  pub safe-forever : NoHazardOrBreachEver (HasRun (system_of_plant p) g) → AlwaysKeepsInvariant p
  safe-forever never = forever-safe p steps g goal (carried-forever (HasRun (system_of_plant p) g) (HasQueriedRun p) has-run never)

pub lifts : (p : PlantLists) → IsPlant p → SystemMatchesEvents p → GoalFormsMatchPlant p (goal_forms_of_plant p) → (q : Wanted) → step_count_is_allowed q ≡ true → HasRun (system_of_plant p) (goal_forms_of_plant p) q ↔ HasQueriedRun p q
lifts p plant steps goal q valid =
    let lead = rules-step p plant steps in
    (has-lifted p lead (goal_forms_of_plant p) goal q valid, has-run p lead (goal_forms_of_plant p) goal q)

pub lasting : (p : PlantLists) → IsPlant p → SystemMatchesEvents p → GoalFormsMatchPlant p (goal_forms_of_plant p) → (k : ℕ) → 0 < k → k ≤ 16
    → (HoldsForNoneUpTo k (ReachesHazard (HasRun (system_of_plant p) (goal_forms_of_plant p))) → HoldsForNoneUpTo k (ReachesBreach (HasRun (system_of_plant p) (goal_forms_of_plant p))) → ¬ HasRun (system_of_plant p) (goal_forms_of_plant p) (Step k) →
    NoHazardOrBreachEver (HasRun (system_of_plant p) (goal_forms_of_plant p)))
    → HoldsForNoneUpTo k (ReachesHazard (HasQueriedRun p)) → HoldsForNoneUpTo k (ReachesBreach (HasQueriedRun p)) → ¬ HasQueriedRun p (Step k) → AlwaysKeepsInvariant p
lasting p plant steps goal k some few law hazards breaches step =
    let lead = rules-step p plant steps in
    let down = has-lifted p lead (goal_forms_of_plant p) goal in
    safe-forever p lead (goal_forms_of_plant p) goal (law
    (λ n le has. hazards n le (down (Hazard n) (le-leb n 16 (omega arith)) has))
    (λ n le has. breaches n le (down (Breach n) (le-leb n 16 (omega arith)) has))
    (λ has. step (down (Step k) (step-valid k some few) has)))
