-- A query's demands on values and rules are its demands on states and events.
use Rattle.std.proofs.Common.{◌≡◌, ℕ, zero, suc, ◌+◌, ◌≤◌, true, not, ◌&&◌, Option, Some, None, List, [], ◌∷◌, ◌++◌, length, map, slice_get, take, refl, sym, subst, ap, ◌∙◌}
use Rattle.std.specs.Prelude.{is_some, is_none}
use Rattle.std.specs.List.{list_all}
use Rattle.std.proofs.lemmas.List.Folds.{list_all-append}
use Rattle.std.proofs.lemmas.List.{length-map}
use Rattle.std.proofs.lemmas.Option.{same_Some, slice_get-map}
use Rattle.std.proofs.Math.Bool.{and-true}
use Rattle.ilk_ir.specs.Tree.{all_of, negation, tree_holds, trees_from_list}
use Rattle.ilk_plant.specs.Plant.{PlantLists}
use Rattle.ilk_plant.specs.Shape.{HasShape}
use Rattle.ilk_plant.specs.declared.state.State.{State}
use Rattle.ilk_model.specs.Hazard.{hazard}
use Rattle.ilk_model.specs.declared.hazards.HazardAt.{HazardAt}
use Rattle.ilk_layout.specs.Image.{image_of}
use Rattle.ilk_unroll.specs.Goal.{CopyDemand, PlainGoalForms, demands_of, demand_form_fails_in_copy, form_demands_below_copy, demand_form_holds_in_copy}
use Rattle.ilk_unroll.specs.Run.{demand_is_met_by_run}
use Rattle.ilk_unroll.specs.declared.queries.Wanted.TheVariants.{Hazard, Breach, Step}
use Rattle.ilk_queries.specs.Asked.{first_breaks_invariant_at, meets_invariant}
use Rattle.ilk_queries.specs.Lifting.{AllHaveShape, GoalFormsMatchPlant, RulesStepLikeEvents, form_holds_for_values, state_has_no_hazard}
use Rattle.ilk_queries.proofs.Demands.{all-hold, below-met, fails-met, holds-met}
use Rattle.ilk_queries.proofs.Walks.{wellformed-before, wellformed-state}
use Rattle.ilk_model.specs.Meets.{meets_all_families}

pub shaped-at : (p : PlantLists) (states : List State) (n : ℕ) (t : State) → AllHaveShape p states → slice_get states n ≡ Some t → HasShape p t
shaped-at p [] n t shaped at = cc
shaped-at p (s ∷ states) zero t shaped at = subst (HasShape p) (same_Some s t at) shaped.0
shaped-at p (s ∷ states) (suc n) t shaped at = shaped-at p states n t shaped.1 at

module _ (p : PlantLists) (steps : RulesStepLikeEvents p) (g : PlainGoalForms) (goal : GoalFormsMatchPlant p g) where
  pub hazard-met : (n : ℕ) (states : List State) (s t : State) → AllHaveShape p states →
      slice_get states 0 ≡ Some s → slice_get states n ≡ Some t → n ≤ length states →
      list_all (demand_is_met_by_run (map (image_of p) states)) (demands_of g (Hazard n))
      ≡
      (form_holds_for_values g.start (image_of p s)
      && (list_all (state_has_no_hazard p) (take n states) && is_some (hazard p t)))
  hazard-met n states s t shaped first last within =
      let lists : List (List ℕ) = map (image_of p) states in
      let at0 : slice_get lists 0 ≡ Some (image_of p s) = slice_get-map (image_of p) states 0 ∙ rw first refl in
      let atn : slice_get lists n ≡ Some (image_of p t) = slice_get-map (image_of p) states n ∙ rw last refl in
      let long : n ≤ length lists = subst (λ k. n ≤ k) (sym (length-map states (image_of p))) within in
      let start = holds-met lists 0 (image_of p s) g.start at0 in
      let below = below-met lists g.wellformed n long ∙ wellformed-before p steps g goal n states shaped in
      let end = holds-met lists n (image_of p t) g.hazard atn ∙ goal.hazards t (shaped-at p states n t shaped last) in
      ap (λ b. b && list_all (demand_is_met_by_run lists) (form_demands_below_copy g.wellformed n ++ demand_form_holds_in_copy n g.hazard ∷ [])) start
      ∙ ap (λ b. form_holds_for_values g.start (image_of p s) && b) (list_all-append (demand_is_met_by_run lists) (form_demands_below_copy g.wellformed n) (demand_form_holds_in_copy n g.hazard ∷ [])
      ∙ ap (λ b. b && (demand_is_met_by_run lists (demand_form_holds_in_copy n g.hazard) && true)) below
      ∙ ap (λ b. list_all (state_has_no_hazard p) (take n states) && b) (and-true _ ∙ end))

  families-if-safe : (t : State) → HasShape p t → (state_has_no_hazard p t && list_all (tree_holds (image_of p t)) g.families) ≡ meets_invariant p t
  families-if-safe t shape = by_hazard (hazard p t) refl
    where
      by_hazard : (o : Option HazardAt) → hazard p t ≡ o → (is_none o && list_all (tree_holds (image_of p t)) g.families) ≡ (is_none o && meets_all_families p t)
      by_hazard None none = goal.kept t shape none
      by_hazard (Some h) some = refl

  kept-form : (t : State) → HasShape p t → form_holds_for_values (all_of (trees_from_list (g.wellformed ∷ g.families))) (image_of p t) ≡ meets_invariant p t
  kept-form t shape =
      all-hold (image_of p t) (g.wellformed ∷ g.families)
      ∙ ap (λ b. b && list_all (tree_holds (image_of p t)) g.families) (wellformed-state p steps g goal t shape)
      ∙ families-if-safe t shape

  kept-before : (n : ℕ) (states : List State) → AllHaveShape p states →
      list_all (form_holds_for_values (all_of (trees_from_list (g.wellformed ∷ g.families)))) (take n (map (image_of p) states))
      ≡ list_all (meets_invariant p) (take n states)
  kept-before zero states shaped = refl
  kept-before (suc n) [] shaped = refl
  kept-before (suc n) (s ∷ states) shaped =
      let here = kept-form s shaped.0 in
      let rest = kept-before n states shaped.1 in
      rw (here, rest) refl

  invariant-form : (t : State) → HasShape p t → form_holds_for_values (all_of (trees_from_list (negation g.hazard ∷ g.families))) (image_of p t) ≡ meets_invariant p t
  invariant-form t shape =
      all-hold (image_of p t) (negation g.hazard ∷ g.families)
      ∙ ap (λ b. not b && list_all (tree_holds (image_of p t)) g.families) (goal.hazards t shape)
      ∙ ap (λ b. b && list_all (tree_holds (image_of p t)) g.families) (none-or-some (hazard p t))
      ∙ families-if-safe t shape
    where
      none-or-some : (o : Option HazardAt) → not (is_some o) ≡ is_none o
      none-or-some None = refl
      none-or-some (Some h) = refl

  pub breach-met : (n : ℕ) (states : List State) (s t : State) → AllHaveShape p states →
      slice_get states 0 ≡ Some s → slice_get states n ≡ Some t → n + 1 ≤ length states →
      list_all (demand_is_met_by_run (map (image_of p) states)) (demands_of g (Breach n))
      ≡
      (form_holds_for_values g.start (image_of p s)
      &&
      (list_all (state_has_no_hazard p) (take (n + 1) states)
      && not (list_all (tree_holds (image_of p t)) g.families)))
  breach-met n states s t shaped first last within =
      let lists : List (List ℕ) = map (image_of p) states in
      let broken : CopyDemand = demand_form_fails_in_copy n (all_of (trees_from_list g.families)) in
      let at0 : slice_get lists 0 ≡ Some (image_of p s) = slice_get-map (image_of p) states 0 ∙ rw first refl in
      let atn : slice_get lists n ≡ Some (image_of p t) = slice_get-map (image_of p) states n ∙ rw last refl in
      let long : n + 1 ≤ length lists = subst (λ k. n + 1 ≤ k) (sym (length-map states (image_of p))) within in
      let start = holds-met lists 0 (image_of p s) g.start at0 in
      let below = below-met lists g.wellformed (n + 1) long ∙ wellformed-before p steps g goal (n + 1) states shaped in
      let end = fails-met lists n (image_of p t) (all_of (trees_from_list g.families)) atn ∙ ap not (all-hold (image_of p t) g.families) in
      ap (λ b. b && list_all (demand_is_met_by_run lists) (form_demands_below_copy g.wellformed (n + 1) ++ broken ∷ [])) start
      ∙ ap (λ b. form_holds_for_values g.start (image_of p s) && b) (list_all-append (demand_is_met_by_run lists) (form_demands_below_copy g.wellformed (n + 1)) (broken ∷ [])
      ∙ ap (λ b. b && (demand_is_met_by_run lists broken && true)) below
      ∙ ap (λ b. list_all (state_has_no_hazard p) (take (n + 1) states) && b) (and-true _ ∙ end))

  pub step-met : (n : ℕ) (states : List State) (t : State) → AllHaveShape p states → slice_get states n ≡ Some t → n ≤ length states → list_all (demand_is_met_by_run (map (image_of p) states)) (demands_of g
      (Step n)) ≡ first_breaks_invariant_at p n states
  step-met n states t shaped last within =
      let lists : List (List ℕ) = map (image_of p) states in
      let all = all_of (trees_from_list (g.wellformed ∷ g.families)) in
      let broken : CopyDemand = demand_form_fails_in_copy n (all_of (trees_from_list (negation g.hazard ∷ g.families))) in
      let atn : slice_get lists n ≡ Some (image_of p t) = slice_get-map (image_of p) states n ∙ rw last refl in
      let long : n ≤ length lists = subst (λ k. n ≤ k) (sym (length-map states (image_of p))) within in
      let below = below-met lists all n long ∙ kept-before n states shaped in
      let end = fails-met lists n (image_of p t) (all_of (trees_from_list (negation g.hazard ∷ g.families))) atn ∙ ap not (invariant-form t (shaped-at p states n t shaped last)) in
      let right : first_breaks_invariant_at p n states ≡ (list_all (meets_invariant p) (take n states) && not (meets_invariant p t)) = rw last refl in
      list_all-append (demand_is_met_by_run lists) (form_demands_below_copy all n) (broken ∷ [])
      ∙ ap (λ b. b && (demand_is_met_by_run lists broken && true)) below
      ∙ ap (λ b. list_all (meets_invariant p) (take n states) && b) (and-true _ ∙ end) ∙ sym right
