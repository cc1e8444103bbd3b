-- The formula of a query is satisfiable if and only if the plant has such a run.
use Rattle.std.proofs.Common.{◌≡◌, ℕ, Bool, List, length, subst, ap, ◌∙◌}
use Rattle.std.specs.Prelude.{◌↔◌, IfOk, IsTrue, OnOk, Result, Ok, Err}
use Rattle.ilk_cnf.specs.Formula.{Formula}
use Rattle.ilk_ir.specs.System.{PlainSystem, system_valid}
use Rattle.ilk_layout.specs.Variables.{ranges_of_plant}
use Rattle.ilk_cnf.specs.Truth.{satisfies}
use Rattle.ilk_plant.specs.Plant.{IsPlant, PlantLists}
use Rattle.ilk_behave.specs.Behaviour.{system_of_plant}
use Rattle.ilk_behave.specs.Steps.{SystemMatchesEvents}
use Rattle.ilk_layout.specs.Image.{image_of}
use Rattle.ilk_unroll.specs.Assignment.{EncodesWantedRun, run_assignment}
use Rattle.ilk_unroll.specs.Goal.{PlainGoalForms, goal_valid, step_count_is_allowed}
use Rattle.ilk_unroll.specs.Query.{query_formula}
use Rattle.ilk_unroll.specs.Run.{is_wanted_run}
use Rattle.ilk_unroll.specs.declared.queries.Wanted.{Wanted}
use Rattle.ilk_queries.specs.Asked.{HasQueriedRun}
use Rattle.ilk_queries.specs.Goal.{goal_forms_of_plant}
use Rattle.ilk_queries.specs.Lifting.{GoalFormsMatchPlant}
use Rattle.ilk_unroll.specs.Satisfied.{IsSatisfiable}
use Rattle.ilk_queries.proofs.Answered.{to-wanted}
use Rattle.ilk_queries.proofs.Lifted.{has-events}
use Rattle.ilk_queries.proofs.Steps.{rules-step}

pub satisfiable_is : (p : PlantLists) (q : Wanted) → IsPlant p → SystemMatchesEvents p → GoalFormsMatchPlant p (goal_forms_of_plant p) → IsTrue (step_count_is_allowed q)
    → ((a : List Bool) → length a ≡ (query_formula (system_of_plant p) (goal_forms_of_plant p) q).vars → IsTrue (satisfies a (query_formula (system_of_plant p) (goal_forms_of_plant p) q).clauses)
    → EncodesWantedRun (system_of_plant p) (goal_forms_of_plant p) q a)
    →
    ((first rules : List ℕ) → IsTrue (is_wanted_run (system_of_plant p) (goal_forms_of_plant p) q first rules) →
    (length (run_assignment (system_of_plant p) (goal_forms_of_plant p) q first rules)
    ≡ (query_formula (system_of_plant p) (goal_forms_of_plant p) q).vars) ×
    IsTrue
    (satisfies (run_assignment (system_of_plant p) (goal_forms_of_plant p) q first rules)
    (query_formula (system_of_plant p) (goal_forms_of_plant p) q).clauses))
    → IsSatisfiable (query_formula (system_of_plant p) (goal_forms_of_plant p) q) ↔ HasQueriedRun p q
satisfiable_is p q plant steps goal valid sound complete =
    let lead = rules-step p plant steps in (
      λ is. (let run = sound is.assignment is.size is.satisfied in has-events p lead (goal_forms_of_plant p) goal q run.0 run.1 valid run.2),
      λ has. (let rules = to-wanted p lead (goal_forms_of_plant p) goal q has.first has.events has.shape has.run in
          let met = complete (image_of p has.first) rules.0 rules.1 in
          record { assignment = run_assignment (system_of_plant p) (goal_forms_of_plant p) q (image_of p has.first) rules.0; size = met.0; satisfied = met.1 }),
    )

pub valid_system : (p : PlantLists) (system : PlainSystem) → system ≡ system_of_plant p → IsTrue (system_valid (system_of_plant p)) → IsTrue (system_valid system)
valid_system p system same valid = ap system_valid same ∙ valid

pub valid_goal : (p : PlantLists) (ranges : List ℕ) (goal : PlainGoalForms) → ranges ≡ ranges_of_plant p → goal ≡ goal_forms_of_plant p → IsTrue (goal_valid (ranges_of_plant p) (goal_forms_of_plant p)) → IsTrue (goal_valid ranges goal)
valid_goal p ranges goal one two valid = ap (λ r. goal_valid r goal) one ∙ ap (goal_valid (ranges_of_plant p)) two ∙ valid

pub formula_is :
    {E : Type 0} (r : Result Formula E) (p : PlantLists) (q : Wanted) (system : PlainSystem) (goal : PlainGoalForms)
    →
    system ≡ system_of_plant p → goal ≡ goal_forms_of_plant p → IfOk r (λ cnf. cnf ≡ query_formula system goal q) →
    IfOk r (λ cnf. cnf ≡ query_formula (system_of_plant p) (goal_forms_of_plant p) q)
formula_is (Ok cnf) p q system goal one two h = h ∙ ap (λ s. query_formula s goal q) one ∙ ap (λ g. query_formula (system_of_plant p) g q) two
formula_is (Err e) p q system goal one two h = h

abbrev pub IsSound : PlainSystem → PlainGoalForms → Wanted → Type 0
IsSound system goal q = (a : List Bool) → length a ≡ (query_formula system goal q).vars → IsTrue (satisfies a (query_formula system goal q).clauses) → EncodesWantedRun system goal q a

abbrev pub IsComplete : PlainSystem → PlainGoalForms → Wanted → Type 0
IsComplete system goal q = (first rules : List ℕ) → IsTrue (is_wanted_run system goal q first rules) →
    (length (run_assignment system goal q first rules) ≡ (query_formula system goal q).vars) ×
    IsTrue (satisfies (run_assignment system goal q first rules) (query_formula system goal q).clauses)

pub satisfiable_on :
    {E : Type 0} (r : Result Formula E) (p : PlantLists) (q : Wanted) (system : PlainSystem) (goal : PlainGoalForms)
    →
    system ≡ system_of_plant p → goal ≡ goal_forms_of_plant p → IsPlant p → SystemMatchesEvents p → GoalFormsMatchPlant p (goal_forms_of_plant p) →
    IsTrue (step_count_is_allowed q) → OnOk r (IsSound system goal q) → OnOk r (IsComplete system goal q) →
    OnOk r (IsSatisfiable (query_formula (system_of_plant p) (goal_forms_of_plant p) q) ↔ HasQueriedRun p q)
satisfiable_on (Ok cnf) p q system goal one two plant steps means valid sound complete =
    let sound-here : IsSound (system_of_plant p) (goal_forms_of_plant p) q = subst (λ g. IsSound (system_of_plant p) g q) two (subst (λ s. IsSound s goal q) one sound) in
    let complete-here : IsComplete (system_of_plant p) (goal_forms_of_plant p) q = subst (λ g. IsComplete (system_of_plant p) g q) two (subst (λ s. IsComplete s goal q) one complete) in
    satisfiable_is p q plant steps means valid sound-here complete-here
satisfiable_on (Err e) p q system goal one two plant steps means valid sound complete = sound
