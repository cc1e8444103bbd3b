-- The verdict on a plant, made from that on its system.
use Rattle.std.proofs.Common.{◌≡◌, ℕ, ◌<◌, ◌≤◌, true, Some, List, inl, inr, sym, subst, ◌∙◌}
use Rattle.std.specs.Prelude.{◌⊎◌, is_some}
use Rattle.ilk_ir.specs.System.{PlainSystem, in_ranges}
use Rattle.ilk_plant.specs.Plant.{IsPlant, PlantLists}
use Rattle.ilk_plant.specs.Start.{start}
use Rattle.ilk_plant.specs.declared.state.State.{State}
use Rattle.ilk_model.specs.declared.event.Event.{Event}
use Rattle.ilk_model.specs.declared.hazards.HazardAt.{HazardAt}
use Rattle.ilk_layout.specs.Image.{image_of}
use Rattle.ilk_layout.specs.Laws.{IsWellFormedAndSafe, WellformedIffSafeStateImage}
use Rattle.ilk_layout.specs.Variables.{ranges_of_plant}
use Rattle.ilk_layout.specs.Wellformed.{is_wellformed}
use Rattle.ilk_behave.specs.Behaviour.{system_of_plant}
use Rattle.ilk_behave.specs.Steps.{SystemMatchesEvents}
use Rattle.ilk_unroll.specs.Goal.{PlainGoalForms}
use Rattle.ilk_unroll.specs.declared.reading.Trace.{Trace}
use Rattle.ilk_queries.specs.Asked.{ends_in_breach, ends_in_hazard}
use Rattle.ilk_queries.specs.Goal.{goal_forms_of_plant}
use Rattle.ilk_queries.specs.Lifting.{GoalFormsMatchPlant, events_of_rule_numbers_or_none}
use Rattle.ilk_queries.proofs.Steps.{rules-step}
use Rattle.ilk_induct.specs.Right.{IsExactSystemVerdict, SystemVerdictHoldsAtAnyLength}
use Rattle.ilk_induct.specs.declared.verdict.Verdict.{Verdict as SystemVerdict}
use Rattle.ilk_induct.specs.declared.verdict.Verdict.TheVariants as system
use Rattle.ilk_engine.specs.Lifted.{IsRightVerdictLiftedFrom}
use Rattle.ilk_engine.specs.Right.{broken_family_after, hazard_after}
use Rattle.ilk_engine.specs.declared.verdict.Verdict.TheVariants.{Safe, Unsafe, Breach, NotInductive, Spent}
use Rattle.ilk_forever.proofs.OnPlant.{safe-forever}
use Rattle.ilk_engine.proofs.Verdicts as on

module _ (p : PlantLists) (plant : IsPlant p) (steps : SystemMatchesEvents p) (goal : GoalFormsMatchPlant p (goal_forms_of_plant p)) where
  pub unsafe-fires : (depth : ℕ) (trace : Trace) → depth ≤ 16 → IsExactSystemVerdict (system_of_plant p) (goal_forms_of_plant p) depth (system.Unsafe trace) → is_some (events_of_rule_numbers_or_none p trace.rules) ≡ true
  unsafe-fires = on.unsafe-fires p (rules-step p plant steps) (goal_forms_of_plant p) goal

  pub unsafe-ends : (depth : ℕ) (trace : Trace) (events : List Event) → depth ≤ 16 → IsExactSystemVerdict (system_of_plant p) (goal_forms_of_plant p) depth (system.Unsafe trace) → events_of_rule_numbers_or_none p trace.rules ≡ Some events →
      ends_in_hazard p (start p) events ≡ true
  unsafe-ends = on.unsafe-ends p (rules-step p plant steps) (goal_forms_of_plant p) goal

  pub unsafe-made : (depth : ℕ) (trace : Trace) (events : List Event) (at : HazardAt) → depth ≤ 16 →
      IsExactSystemVerdict (system_of_plant p) (goal_forms_of_plant p) depth (system.Unsafe trace) → events_of_rule_numbers_or_none p trace.rules ≡ Some events →
      hazard_after p events ≡ Some at → IsRightVerdictLiftedFrom p depth (system.Unsafe trace) (Unsafe events at)
  unsafe-made depth trace events at few right by is = record {
    right = inl (on.unsafe-right p (rules-step p plant steps) (goal_forms_of_plant p) goal depth trace events at few right by is);
    lasts = tt;
    asked = λ conflicts asked was. (trace, by, was);
  }

  pub breach-fires : (depth : ℕ) (trace : Trace) → depth ≤ 16 → IsExactSystemVerdict (system_of_plant p) (goal_forms_of_plant p) depth (system.Breach trace) → is_some (events_of_rule_numbers_or_none p trace.rules) ≡ true
  breach-fires = on.breach-fires p (rules-step p plant steps) (goal_forms_of_plant p) goal

  pub breach-ends : (depth : ℕ) (trace : Trace) (events : List Event) → depth ≤ 16 → IsExactSystemVerdict (system_of_plant p) (goal_forms_of_plant p) depth (system.Breach trace) → events_of_rule_numbers_or_none p trace.rules ≡ Some events →
      ends_in_breach p (start p) events ≡ true
  breach-ends = on.breach-ends p (rules-step p plant steps) (goal_forms_of_plant p) goal

  pub breach-made : (depth : ℕ) (trace : Trace) (events : List Event) (family : ℕ) → depth ≤ 16 →
      IsExactSystemVerdict (system_of_plant p) (goal_forms_of_plant p) depth (system.Breach trace) → events_of_rule_numbers_or_none p trace.rules ≡ Some events →
      broken_family_after p events ≡ Some family → IsRightVerdictLiftedFrom p depth (system.Breach trace) (Breach events family)
  breach-made depth trace events family few right by is = record {
    right = inl (on.breach-right p (rules-step p plant steps) (goal_forms_of_plant p) goal depth trace events family few right by is);
    lasts = tt;
    asked = λ conflicts asked was. (trace, by, was);
  }

  pub first-in-range : (depth : ℕ) (trace : Trace) → IsExactSystemVerdict (system_of_plant p) (goal_forms_of_plant p) depth (system.NotInductive trace) → in_ranges trace.first (ranges_of_plant p) ≡ true
  first-in-range = on.first-in-range p (rules-step p plant steps) (goal_forms_of_plant p) goal

  pub first-wellformed : (depth : ℕ) (trace : Trace) → WellformedIffSafeStateImage p → 0 < depth → IsExactSystemVerdict (system_of_plant p) (goal_forms_of_plant p) depth (system.NotInductive trace) → is_wellformed p trace.first ≡ true
  first-wellformed = on.first-wellformed p (rules-step p plant steps) (goal_forms_of_plant p) goal

  pub out-fires : (depth : ℕ) (trace : Trace) (first : State) → IsWellFormedAndSafe p first → image_of p first ≡ trace.first → IsExactSystemVerdict (system_of_plant p) (goal_forms_of_plant p) depth (system.NotInductive trace)
      → is_some (events_of_rule_numbers_or_none p trace.rules) ≡ true
  out-fires = on.out-fires p (rules-step p plant steps) (goal_forms_of_plant p) goal

  pub out-made : (depth : ℕ) (trace : Trace) (first : State) (events : List Event) → depth ≤ 16 →
      IsWellFormedAndSafe p first → image_of p first ≡ trace.first →
      IsExactSystemVerdict (system_of_plant p) (goal_forms_of_plant p) depth (system.NotInductive trace) →
      events_of_rule_numbers_or_none p trace.rules ≡ Some events →
      IsRightVerdictLiftedFrom p depth (system.NotInductive trace) (NotInductive first events)
  out-made depth trace first events few calm image right by = record {
    right = inl (on.out-right p (rules-step p plant steps) (goal_forms_of_plant p) goal depth trace first events few calm image right by);
    lasts = tt;
    asked = λ conflicts asked was. (trace, image, by, was);
  }

  pub safe-made : (depth k : ℕ) → depth ≤ 16 → IsExactSystemVerdict (system_of_plant p) (goal_forms_of_plant p) depth (system.Safe k) → SystemVerdictHoldsAtAnyLength (system_of_plant p) (goal_forms_of_plant p) (system.Safe k) →
      IsRightVerdictLiftedFrom p depth (system.Safe k) (Safe k)
  safe-made depth k few right never = record {
    right = inl (on.safe-right p (rules-step p plant steps) (goal_forms_of_plant p) goal depth k few right);
    lasts = safe-forever p (rules-step p plant steps) (goal_forms_of_plant p) goal never;
    asked = λ conflicts asked was. was;
  }

pub right-safe : (s : PlainSystem) (g : PlainGoalForms) (depth : ℕ) (verdict : SystemVerdict) (k : ℕ) → verdict ≡ system.Safe k → IsExactSystemVerdict s g depth verdict ⊎ (verdict ≡ system.Spent) → IsExactSystemVerdict s g depth (system.Safe k)
right-safe s g depth verdict k same (inl right) = subst (IsExactSystemVerdict s g depth) same right
right-safe s g depth verdict k same (inr spent) = let clash : system.Safe k ≡ system.Spent = sym same ∙ spent in absurd cc

pub over : (P : PlainSystem → PlainGoalForms → Type 0) (s t : PlainSystem) (g h : PlainGoalForms) → s ≡ t → g ≡ h → P s g → P t h
over P s t g h same also has = subst (λ (k : PlainGoalForms). P t k) also (subst (λ (u : PlainSystem). P u g) same has)

pub safe-lifted :
    (p : PlantLists) (plant : IsPlant p) (steps : SystemMatchesEvents p) (goal : GoalFormsMatchPlant p (goal_forms_of_plant p)) (depth k : ℕ)
    (found : SystemVerdict) → depth ≤ 16 →
    found ≡ system.Safe k → IsExactSystemVerdict (system_of_plant p) (goal_forms_of_plant p) depth found ⊎ (found ≡ system.Spent) →
    SystemVerdictHoldsAtAnyLength (system_of_plant p) (goal_forms_of_plant p) found → IsRightVerdictLiftedFrom p depth found (Safe k)
safe-lifted p plant steps goal depth k found few same right never =
    subst (λ (v : SystemVerdict). IsRightVerdictLiftedFrom p depth v (Safe k)) (sym same)
    (safe-made p plant steps goal depth k few (right-safe (system_of_plant p) (goal_forms_of_plant p) depth found k same right) (subst (SystemVerdictHoldsAtAnyLength (system_of_plant p) (goal_forms_of_plant p)) same never))
