-- The verdict on a plant with a strict table is safe with k = 1, or all conflicts are spent.
use Rattle.std.proofs.Common.{◌≡◌, ◌⊎◌, inl, inr, ℕ, zero, suc, ◌<◌, true, false, not, ◌&&◌, Option, Some, None, List, [], ◌∷◌, length, refl, sym, ap, ◌∙◌, subst, arith}
use Rattle.std.specs.Prelude.{is_some, is_none, option_and_then, option_map}
use Rattle.std.proofs.lemmas.Bool.{and_from, and_parts, false≢true}
use Rattle.std.proofs.lemmas.Option.{same_Some}
use Rattle.ilk_base.proofs.Options.{some-and}
use Rattle.ilk_plant.specs.ColumnRules.{column_rules_broken}
use Rattle.ilk_plant.specs.Plant.{IsPlant, PlantLists}
use Rattle.ilk_plant.specs.Shape.{HasShape}
use Rattle.ilk_plant.specs.Start.{start}
use Rattle.ilk_plant.specs.declared.state.State.{State}
use Rattle.ilk_model.specs.Event.{next}
use Rattle.ilk_model.specs.Hazard.{hazard}
use Rattle.ilk_model.specs.Meets.{Meets, meets_all_families}
use Rattle.ilk_model.specs.Run.{run}
use Rattle.ilk_model.specs.declared.event.Event.{Event}
use Rattle.ilk_strict.specs.IsStrict.{IsStrict}
use Rattle.ilk_strict.proofs.Invariant as invariant
use Rattle.ilk_strict.proofs.Strict.{strict_from_list}
use Rattle.ilk_unroll.specs.declared.queries.Wanted.TheVariants.{Hazard, Breach as BreachQuery, Step}
use Rattle.ilk_queries.specs.Asked.{HasQueriedRun, ends_in_breach, ends_in_hazard, first_breaks_invariant_at, leaves_invariant, meets_invariant}
use Rattle.ilk_queries.specs.Walk.{states_from}
use Rattle.ilk_queries.proofs.Walks.{none-is}
use Rattle.ilk_forever.specs.Forever.{AlwaysKeepsInvariant}
use Rattle.ilk_forever.proofs.StrictForever.{strict-forever}
use Rattle.ilk_engine.specs.Right.{IsRightVerdict}
use Rattle.ilk_engine.specs.declared.verdict.Verdict.{Verdict}
use Rattle.ilk_engine.specs.declared.verdict.Verdict.TheVariants.{Safe, Unsafe, Breach, NotInductive, Spent}

no-hazard : (p : PlantLists) → AlwaysKeepsInvariant p → (n : ℕ) → ¬ HasQueriedRun p (Hazard n)
no-hazard p safe n has =
    let Ends : State → Type 0 = λ s. ends_in_hazard p s has.events ≡ true in
    let last = some-and (run p (start p) has.events) (λ t. is_some (hazard p t)) (subst Ends has.run.0 has.run.2) in
    let meets = safe has.events last.0 last.1 in
    let none : is_some (hazard p last.0) ≡ false = ap is_some meets.no_hazard in
    absurd (false≢true (sym none ∙ last.2))

no-breach : (p : PlantLists) → AlwaysKeepsInvariant p → (n : ℕ) → ¬ HasQueriedRun p (BreachQuery n)
no-breach p safe n has =
    let Ends : State → Type 0 = λ s. ends_in_breach p s has.events ≡ true in
    let last = some-and (run p (start p) has.events) (λ t. is_none (hazard p t) && not (meets_all_families p t)) (subst Ends has.run.0 has.run.2) in
    let meets = safe has.events last.0 last.1 in
    let broken : not (meets_all_families p last.0) ≡ true = (and_parts (is_none (hazard p last.0)) (not (meets_all_families p last.0)) last.2).1 in
    let kept : not (meets_all_families p last.0) ≡ false = ap not meets.families_kept in
    absurd (false≢true (sym kept ∙ broken))

abbrev KeepsInvariant : PlantLists → Type 0
KeepsInvariant p = (s t : State) (event : Event) → Meets p s → next p s event ≡ Some t → Meets p t

meets-true : (p : PlantLists) (s : State) → Meets p s → meets_invariant p s ≡ true
meets-true p s m = and_from (is_none (hazard p s)) (meets_all_families p s) (ap is_none m.no_hazard) m.families_kept

meets-shaped : (p : PlantLists) (s : State) → HasShape p s → meets_invariant p s ≡ true → Meets p s
meets-shaped p s shape e =
    let parts = and_parts (is_none (hazard p s)) (meets_all_families p s) e in
    record { shape = shape; no_hazard = none-is (hazard p s) parts.0; families_kept = parts.1 }

leaves-two : (p : PlantLists) (s t : State) → first_breaks_invariant_at p 1 (s ∷ t ∷ []) ≡ true → (meets_invariant p s ≡ true) × (not (meets_invariant p t) ≡ true)
leaves-two p s t e =
    let parts = and_parts (meets_invariant p s && true) (not (meets_invariant p t)) e in
    ((and_parts (meets_invariant p s) true parts.0).0, parts.1)

no-step : (p : PlantLists) → KeepsInvariant p → ¬ HasQueriedRun p (Step 1)
no-step p law has = by_events has.events has.run.1 has.run.2
  where
    by_next : (event : Event) (o : Option State) → next p has.first event ≡ o → (states : List State) → option_map (λ more. has.first ∷ more) (option_and_then (λ t. Some (t ∷ [])) o) ≡ Some states → first_breaks_invariant_at p 1 states ≡ true → ⊥
    by_next event None goes states led e = absurd (cc)
    by_next event (Some t) goes states led e =
        let Leaves : List State → Type 0 = λ l. first_breaks_invariant_at p 1 l ≡ true in
        let two = leaves-two p has.first t (subst Leaves (sym (same_Some (has.first ∷ t ∷ []) states led)) e) in
        let kept : not (meets_invariant p t) ≡ false = ap not (meets-true p t (law has.first t event (meets-shaped p has.first has.shape two.0) goes)) in
        false≢true (sym kept ∙ two.1)

    by_events : (events : List Event) → length events ≡ 1 → leaves_invariant p has.first events ≡ true → ⊥
    by_events [] n e = absurd (omega (arith, n))
    by_events (event ∷ []) n e =
        let led = some-and (states_from p has.first (event ∷ [])) (first_breaks_invariant_at p 1) e in
        by_next event (next p has.first event) refl led.0 led.1 led.2
    by_events (event ∷ other ∷ rest) n e = absurd (omega (arith, n))

right-at_one : (p : PlantLists) (depth : ℕ) (verdict : Verdict) → 0 < depth → AlwaysKeepsInvariant p → ¬ HasQueriedRun p (Step 1) → IsRightVerdict p depth verdict → verdict ≡ Safe 1
right-at_one p depth (Unsafe events at) some safe none right = absurd (no-hazard p safe (length events) right.0.hazard.so)
right-at_one p depth (Breach events family) some safe none right = absurd (no-breach p safe (length events) right.0.breach.so)
right-at_one p depth (Safe zero) some safe none right = absurd (omega (arith, right.induction.so.0))
right-at_one p depth (Safe (suc zero)) some safe none right = refl
right-at_one p depth (Safe (suc (suc k))) some safe none right = absurd (right.induction.least 1 (omega arith) (omega arith, none))
right-at_one p depth (NotInductive first events) some safe none right = absurd (right.0.no_induction 1 (omega (arith, some)) (omega arith, none))
right-at_one p depth Spent some safe none right = absurd right

pub strict-verdict : (p : PlantLists) (depth : ℕ) (verdict : Verdict) → IsPlant p → IsStrict p → 0 < depth → IsRightVerdict p depth verdict ⊎ (verdict ≡ Spent) → (verdict ≡ Safe 1) ⊎ (verdict ≡ Spent)
strict-verdict p depth verdict plant strict some (inl right) =
    inl (right-at_one p depth verdict some (strict-forever p plant strict) (no-step p (invariant.meets-next p plant strict)) right)
strict-verdict p depth verdict plant strict some (inr spent) = inr spent

pub clean-verdict : (p : PlantLists) (depth : ℕ) (verdict : Verdict) → IsPlant p → column_rules_broken p ≡ [] → 0 < depth → IsRightVerdict p depth verdict ⊎ (verdict ≡ Spent) → (verdict ≡ Safe 1) ⊎ (verdict ≡ Spent)
clean-verdict p depth verdict plant none some right = strict-verdict p depth verdict plant (strict_from_list p none) some right
