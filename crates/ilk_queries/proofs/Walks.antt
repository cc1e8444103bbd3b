-- Runs of events, and runs of rules over their images.
use Rattle.std.proofs.Common.{◌≡◌, ℕ, zero, suc, Bool, true, false, Option, Some, None, List, [], ◌∷◌, length, map, slice_get, take, inl, inr, refl, sym, subst, ap, ◌∙◌}
use Rattle.std.specs.Prelude.{is_some, is_none, option_and_then, option_map}
use Rattle.std.specs.List.{list_all}
use Rattle.std.proofs.lemmas.Bool.{and_from, and_parts, cases_Bool, false≢true}
use Rattle.std.proofs.lemmas.Option.{same_Some}
use Rattle.ilk_base.specs.Option.{◌>>=◌, then_some}
use Rattle.ilk_base.proofs.Options.{bind_some, mapped-Some}
use Rattle.ilk_ir.specs.System.{after_rule_number}
use Rattle.ilk_ir.specs.Tree.{tree_holds}
use Rattle.ilk_plant.specs.Plant.{PlantLists}
use Rattle.ilk_plant.specs.Shape.{HasShape}
use Rattle.ilk_plant.specs.declared.state.State.{State}
use Rattle.ilk_model.specs.Event.{next}
use Rattle.ilk_model.specs.Hazard.{hazard}
use Rattle.ilk_model.specs.Run.{run, next_from_hazard_free}
use Rattle.ilk_model.specs.declared.event.Event.{Event}
use Rattle.ilk_model.specs.declared.hazards.HazardAt.{HazardAt}
use Rattle.ilk_layout.specs.Image.{image_of}
use Rattle.ilk_behave.specs.Behaviour.{system_of_plant}
use Rattle.ilk_unroll.specs.Goal.{PlainGoalForms}
use Rattle.ilk_unroll.specs.Run.{run_firing_rules}
use Rattle.ilk_queries.specs.Lifting.{AllHaveShape, GoalFormsMatchPlant, RulesStepLikeEvents, events_of_rule_numbers_or_none, form_holds_for_values, state_has_no_hazard}
use Rattle.ilk_queries.specs.Walk.{states_from}

pub none-is : {A : Type 0} (o : Option A) → is_none o ≡ true → o ≡ None
none-is None e = refl
none-is (Some x) e = absurd (false≢true e)

pub states-begin : (p : PlantLists) (s : State) (events : List Event) (states : List State) → states_from p s events ≡ Some states → (more : List State) × (states ≡ s ∷ more)
states-begin p s [] states e = ([], sym (same_Some (s ∷ []) states e))
states-begin p s (event ∷ events) states e =
    let outer = mapped-Some (λ more. s ∷ more) (option_and_then (λ t. states_from p t events) (next p s event)) states e in
    (outer.0, sym outer.2)

pub states-many : (p : PlantLists) (s : State) (events : List Event) (states : List State) → states_from p s events ≡ Some states → length states ≡ suc (length events)
states-many p s [] states e = ap length (sym (same_Some (s ∷ []) states e))
states-many p s (event ∷ events) states e =
    let outer = mapped-Some (λ more. s ∷ more) (option_and_then (λ t. states_from p t events) (next p s event)) states e in
    let inner = bind_some (next p s event) (λ t. states_from p t events) outer.0 outer.1 in
    ap length (sym outer.2) ∙ ap suc (states-many p inner.0 events outer.0 inner.2)

pub run-states : (p : PlantLists) (s t : State) (events : List Event) → run p s events ≡ Some t →
    (states : List State) × (states_from p s events ≡ Some states) ×
    (list_all (state_has_no_hazard p) (take (length events) states) ≡ true) ×
    (slice_get states (length events) ≡ Some t)
run-states p s t [] e = (s ∷ [], refl, refl, e)
run-states p s t (event ∷ events) e =
    let first = bound (next_from_hazard_free p s event) e in
    let safe = stepped first.0 first.1 in
    let rest = run-states p first.0 t events first.2 in
    (s ∷ rest.0, ap (λ o. option_map (λ more. s ∷ more) (option_and_then (λ u. states_from p u events) o)) safe.1 ∙ ap (option_map (λ more. s ∷ more)) rest.1, and_from _ _ safe.0 rest.2, rest.3)
  where
    bound : (o : Option State) → (o >>= (λ u. run p u events)) ≡ Some t → (u : State) × (o ≡ Some u) × (run p u events ≡ Some t)
    bound None e = absurd cc
    bound (Some u) e = (u, refl, e)

    stepped : (u : State) → next_from_hazard_free p s event ≡ Some u → (state_has_no_hazard p s ≡ true) × (next p s event ≡ Some u)
    stepped u e = by_safe (is_none (hazard p s)) refl e
      where
        by_safe : (b : Bool) → is_none (hazard p s) ≡ b → (then_some b s >>= (λ safe. next p safe event)) ≡ Some u → (state_has_no_hazard p s ≡ true) × (next p s event ≡ Some u)
        by_safe true h e = (h, e)
        by_safe false h e = absurd cc

pub states-run : (p : PlantLists) (s : State) (events : List Event) (states : List State) → states_from p s events ≡ Some states → list_all (state_has_no_hazard p) (take (length events) states) ≡ true →
    run p s events ≡ slice_get states (length events)
states-run p s [] states e safe = subst (λ (u : List State). Some s ≡ slice_get u 0) (same_Some (s ∷ []) states e) refl
states-run p s (event ∷ events) states e safe =
    let outer = mapped-Some (λ more. s ∷ more) (option_and_then (λ t. states_from p t events) (next p s event)) states e in
    let inner = bind_some (next p s event) (λ t. states_from p t events) outer.0 outer.1 in
    let all : list_all (state_has_no_hazard p) (s ∷ take (length events) outer.0) ≡ true = ap (λ (u : List State). list_all (state_has_no_hazard p) (take (suc (length events)) u)) outer.2 ∙ safe in
    let here : is_none (hazard p s) ≡ true = (and_parts (state_has_no_hazard p s) (list_all (state_has_no_hazard p) (take (length events) outer.0)) all).0 in
    let later = (and_parts (state_has_no_hazard p s) (list_all (state_has_no_hazard p) (take (length events) outer.0)) all).1 in
    let rest = states-run p inner.0 events outer.0 inner.2 later in
    let free : run p s (event ∷ events) ≡ (next p s event >>= (λ t. run p t events)) = ap (λ b. (then_some b s >>= (λ safe. next p safe event)) >>= (λ t. run p t events)) here in
    let whole : run p s (event ∷ events) ≡ slice_get (s ∷ outer.0) (suc (length events)) = free ∙ ap (λ o. o >>= (λ t. run p t events)) inner.1 ∙ rest in
    whole ∙ ap (λ (u : List State). slice_get u (suc (length events))) outer.2

module _ (p : PlantLists) (steps : RulesStepLikeEvents p) (g : PlainGoalForms) (goal : GoalFormsMatchPlant p g) where
  pub wellformed-state : (s : State) → HasShape p s → form_holds_for_values g.wellformed (image_of p s) ≡ state_has_no_hazard p s
  wellformed-state s shape = by_hazard (hazard p s) refl
    where
      by_hazard : (o : Option HazardAt) → hazard p s ≡ o → form_holds_for_values g.wellformed (image_of p s) ≡ is_none o
      by_hazard None none = (goal.wellformed (image_of p s) (goal.in_range s shape)).1 (record { state = s; calm = record { shape = shape; no_hazard = none }; image = refl })
      by_hazard (Some h) some =
          elim (cases_Bool (form_holds_for_values g.wellformed (image_of p s))) [
            | inl aye ↦ (let is = (goal.wellformed (image_of p s) (goal.in_range s shape)).0 aye in
                let held = goal.hazards is.state is.calm.shape in
                let none : tree_holds (image_of p is.state) g.hazard ≡ false = held ∙ ap is_some is.calm.no_hazard in
                let here : tree_holds (image_of p s) g.hazard ≡ true = goal.hazards s shape ∙ ap is_some some in
                let same : tree_holds (image_of p is.state) g.hazard ≡ tree_holds (image_of p s) g.hazard = ap (λ values. tree_holds values g.hazard) is.image in
                absurd (false≢true (sym none ∙ same ∙ here)))
            | inr nay ↦ nay
          ]

  pub wellformed-before : (n : ℕ) (states : List State) → AllHaveShape p states → list_all (form_holds_for_values g.wellformed) (take n (map (image_of p) states)) ≡ list_all (state_has_no_hazard p) (take n states)
  wellformed-before zero states shaped = refl
  wellformed-before (suc n) [] shaped = refl
  wellformed-before (suc n) (s ∷ states) shaped =
      let here = wellformed-state s shaped.0 in
      let rest = wellformed-before n states shaped.1 in
      rw (here, rest) refl

  pub states-shaped : (s : State) (events : List Event) (states : List State) → HasShape p s → states_from p s events ≡ Some states → AllHaveShape p states
  states-shaped s [] states shape e = subst (AllHaveShape p) (same_Some (s ∷ []) states e) (shape, tt)
  states-shaped s (event ∷ events) states shape e =
      let outer = mapped-Some (λ more. s ∷ more) (option_and_then (λ t. states_from p t events) (next p s event)) states e in
      let inner = bind_some (next p s event) (λ t. states_from p t events) outer.0 outer.1 in
      subst (AllHaveShape p) outer.2 (shape, states-shaped inner.0 events outer.0 (steps.keeps_shape s inner.0 event shape inner.1) inner.2)

  pub to-rules : (s : State) (events : List Event) (states : List State) → HasShape p s →
      states_from p s events ≡ Some states → list_all (state_has_no_hazard p) (take (length events) states) ≡ true →
      (rules : List ℕ) × (length rules ≡ length events) ×
      (run_firing_rules (system_of_plant p) (image_of p s) rules ≡ Some (map (image_of p) states))
  to-rules s [] states shape e safe = ([], refl, ap (λ (u : List State). Some (map (image_of p) u)) (same_Some (s ∷ []) states e))
  to-rules s (event ∷ events) states shape e safe =
      let outer = mapped-Some (λ more. s ∷ more) (option_and_then (λ t. states_from p t events) (next p s event)) states e in
      let inner = bind_some (next p s event) (λ t. states_from p t events) outer.0 outer.1 in
      let all : list_all (state_has_no_hazard p) (s ∷ take (length events) outer.0) ≡ true = ap (λ (u : List State). list_all (state_has_no_hazard p) (take (suc (length events)) u)) outer.2 ∙ safe in
      let here : hazard p s ≡ None = none-is (hazard p s) ((and_parts (state_has_no_hazard p s) (list_all (state_has_no_hazard p) (take (length events) outer.0)) all).0) in
      let later = (and_parts (state_has_no_hazard p s) (list_all (state_has_no_hazard p) (take (length events) outer.0)) all).1 in
      let fires = steps.enabled s inner.0 event shape here inner.1 in
      let rest = to-rules inner.0 events outer.0 (steps.keeps_shape s inner.0 event shape inner.1) inner.2 later in
      let these : run_firing_rules (system_of_plant p) (image_of p s) (fires.0 ∷ rest.0) ≡ Some (image_of p s ∷ map (image_of p) outer.0) =
      ap (λ o. option_map (λ run. image_of p s ∷ run) (option_and_then (λ next. run_firing_rules (system_of_plant p) next rest.0) o)) fires.2 ∙ ap (option_map (λ run. image_of p s ∷ run)) rest.2 in
      (fires.0 ∷ rest.0, ap suc rest.1, these ∙ ap (λ (u : List State). Some (map (image_of p) u)) outer.2)

  pub to-events : (s : State) (rules : List ℕ) (lists : List (List ℕ)) → HasShape p s →
      run_firing_rules (system_of_plant p) (image_of p s) rules ≡ Some lists →
      list_all (form_holds_for_values g.wellformed) (take (length rules) lists) ≡ true →
      (events : List Event) × (states : List State) × (events_of_rule_numbers_or_none p rules ≡ Some events) ×
      (length events ≡ length rules) × (states_from p s events ≡ Some states) ×
      (map (image_of p) states ≡ lists)
  to-events s [] lists shape e well = ([], s ∷ [], refl, refl, refl, same_Some (image_of p s ∷ []) lists e)
  to-events s (i ∷ rules) lists shape e well =
      let outer = mapped-Some (λ run. image_of p s ∷ run) (option_and_then (λ next. run_firing_rules (system_of_plant p) next rules) (after_rule_number (system_of_plant p) i (image_of p s))) lists e in
      let inner = bind_some (after_rule_number (system_of_plant p) i (image_of p s)) (λ next. run_firing_rules (system_of_plant p) next rules) outer.0 outer.1 in
      let all : list_all (form_holds_for_values g.wellformed) (image_of p s ∷ take (length rules) outer.0) ≡ true = ap (λ (u : List (List ℕ)). list_all (form_holds_for_values g.wellformed) (take (suc (length rules)) u)) outer.2 ∙ well in
      let here : hazard p s ≡ None = none-is (hazard p s) (sym (wellformed-state s shape) ∙ (and_parts (form_holds_for_values g.wellformed (image_of p s)) (list_all (form_holds_for_values g.wellformed) (take (length rules) outer.0)) all).0) in
      let later = (and_parts (form_holds_for_values g.wellformed (image_of p s)) (list_all (form_holds_for_values g.wellformed) (take (length rules) outer.0)) all).1 in
      let goes = steps.fired s i inner.0 shape here inner.1 in
      let t = goes.1 in
      let onward : run_firing_rules (system_of_plant p) (image_of p t) rules ≡ Some outer.0 = subst (λ (v : List ℕ). run_firing_rules (system_of_plant p) v rules ≡ Some outer.0) goes.4 inner.2 in
      let rest = to-events t rules outer.0 (steps.keeps_shape s t goes.0 shape goes.3) onward later in (
        goes.0 ∷ rest.0,
        s ∷ rest.1,
        ap (λ o. o >>= (λ event. events_of_rule_numbers_or_none p rules >>= (λ more. Some (event ∷ more)))) goes.2 ∙ ap (λ o. o >>= (λ more. Some (goes.0 ∷ more))) rest.2,
        ap suc rest.3,
        ap (λ o. option_map (λ more. s ∷ more) (option_and_then (λ u. states_from p u rest.0) o)) goes.3 ∙ ap (option_map (λ more. s ∷ more)) rest.4,
        ap (λ (u : List (List ℕ)). image_of p s ∷ u) rest.5 ∙ outer.2,
      )
