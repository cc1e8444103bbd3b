-- The candidates contain every enabled automatic event, throughout the search and after an event.
use Rattle.std.proofs.Common.{◌≡◌, ℕ, ◌≤◌, Bool, true, false, ◌==◌, Option, Some, None, List, [], ◌∷◌, ◌++◌, length, slice_get, unwrap_or, is_some, inl, inr, sym, ap, ◌∙◌, subst, arith}
use Rattle.std.proofs.lemmas.Bool.{cases_Bool, eqb-true, false_from_ne_true}
use Rattle.std.proofs.lemmas.Option.{same_Some}
use Rattle.ilk_base.specs.Numbers.{has_number}
use Rattle.ilk_base.proofs.Lists.{slice_get-push_cases}
use Rattle.ilk_base.proofs.Tested.{list_any-none}
use Rattle.ilk_base.proofs.Truth.{either}
use Rattle.ilk_plant.specs.Plant.{IsPlant, PlantLists}
use Rattle.ilk_plant.specs.Shape.{HasShape}
use Rattle.ilk_plant.specs.declared.state.State.{State}
use Rattle.ilk_model.specs.Event.{next}
use Rattle.ilk_model.specs.declared.event.Event.{Event}
use Rattle.ilk_drive.specs.Awakening.{may_enable_automatic}
use Rattle.ilk_drive.specs.Commands.{is_command}
use Rattle.ilk_drive.specs.Drive.{automatic_events, first_automatic}
use Rattle.ilk_drive.specs.Places.{ContainsIndicesEventMayEnable, ContainsEnabledAutomaticIndices, ContainsEnabledAutomaticIndicesExcept, IsLowerBoundOfList, ListsIndicesEachEventMayEnable}
use Rattle.ilk_drive.proofs.Awakes.{awakes}
use Rattle.ilk_drive.proofs.Changes.{true-false}
use Rattle.ilk_drive.proofs.Found.{NoneBefore, first-none, left-alone}
use Rattle.ilk_drive.proofs.Turns.{automatic-own}

pub covers-on : (p : PlantLists) → IsPlant p → (s t : State) → HasShape p s → (event : Event) →
    next p s event ≡ Some t → (held : ℕ → Bool) →
    ((j : ℕ) (other : Event) → slice_get (automatic_events p) j ≡ Some other →
    is_some (next p s other) ≡ true → held j ≡ true) →
    (woken new : List ℕ) → ContainsIndicesEventMayEnable p event woken → ((j : ℕ) → held j ≡ true → has_number j new ≡ true) →
    ((j : ℕ) → has_number j woken ≡ true → has_number j new ≡ true) → ContainsEnabledAutomaticIndices p t new
covers-on p plant s t shape event e held covers woken new wakes keeps adds j other at enabled = elim (cases_Bool (may_enable_automatic p event other)) [
  | inl may ↦ adds j (wakes j other at may)
  | inr not_ ↦ keeps j (covers j other at (awakes p plant s t shape event e other (list_any-none is_command (automatic_events p) j other (automatic-own p) at) not_ enabled))
]

pub none-before : (p : PlantLists) (s : State) (place : ℕ) (places : List ℕ) → ContainsEnabledAutomaticIndicesExcept p s place places → IsLowerBoundOfList place places → NoneBefore p s place
none-before p s place places covers least j event before at =
    false_from_ne_true (is_some (next p s event)) (λ enabled. elim (either (place == j) (has_number j places) (covers j event at enabled)) [
      | inl here ↦ (let same : place ≡ j = eqb-true place j here in absurd (omega (arith, same, before)))
      | inr there ↦ (let after : place ≤ j = least j there in absurd (omega (arith, after, before)))
    ])

pub covers-without : (p : PlantLists) (s : State) (place : ℕ) (places : List ℕ) → ContainsEnabledAutomaticIndicesExcept p s place places → ((event : Event) → slice_get (automatic_events p) place ≡ Some event → is_some (next p s event) ≡ false) →
    ContainsEnabledAutomaticIndices p s places
covers-without p s place places covers none j event at enabled = elim (either (place == j) (has_number j places) (covers j event at enabled)) [
  | inl here ↦ true-false (is_some (next p s event)) enabled (none event (ap (slice_get (automatic_events p)) (eqb-true place j here) ∙ at))
  | inr there ↦ there
]

pub none-covered : (p : PlantLists) (s : State) (places : List ℕ) → ContainsEnabledAutomaticIndices p s places → ((j : ℕ) → has_number j places ≡ false) → first_automatic p s ≡ None
none-covered p s places covers none = first-none p s (λ j event at. false_from_ne_true (is_some (next p s event)) (λ enabled. true-false (has_number j places) (covers j event at enabled) (none j)))

pub wakes-more :
    (p : PlantLists) (events : List Event) (woken new : List (List ℕ)) (i : ℕ) (event : Event)
    (places : List ℕ) →
    length woken ≡ i → slice_get events i ≡ Some event → ContainsIndicesEventMayEnable p event places →
    new ≡ woken ++ places ∷ [] → ListsIndicesEachEventMayEnable p events woken → ListsIndicesEachEventMayEnable p events new
wakes-more p events woken new i event places long here wakes grown before k other listed at listed_at = elim (slice_get-push_cases woken places listed k (ap (λ (l : List (List ℕ)). slice_get l k) (sym grown) ∙ listed_at)) [
  | inl old ↦ before k other listed at old
  | inr last ↦
      (let same : event ≡ other = same_Some _ _ (sym here ∙ ap (slice_get events) (sym (last.0 ∙ long)) ∙ at) in
      subst (λ (l : List ℕ). ContainsIndicesEventMayEnable p other l) last.1 (subst (λ (e : Event). ContainsIndicesEventMayEnable p e places) same wakes))
]

pub done-is : (o : Option State) (s new : State) → is_some o ≡ true → new ≡ unwrap_or o s → o ≡ Some new
done-is None s new enabled is = cc
done-is (Some t) s new enabled is = ap Some (sym is)

pub stays-covered : (p : PlantLists) (s new : State) (event : Event) (place : ℕ) (places : List ℕ) →
    ContainsEnabledAutomaticIndicesExcept p s place places → slice_get (automatic_events p) place ≡ Some event →
    is_some (next p s event) ≡ false → new ≡ unwrap_or (next p s event) s → ContainsEnabledAutomaticIndices p new places
stays-covered p s new event place places covers at none is =
    subst (λ (u : State). ContainsEnabledAutomaticIndices p u places) (sym (left-alone p s new event none is)) (covers-without p s place places covers (λ other there.
    ap (λ (e : Event). is_some (next p s e)) (same_Some other event (sym there ∙ at)) ∙ none))
