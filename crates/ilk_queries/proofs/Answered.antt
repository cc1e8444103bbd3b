-- Runs of events that a query asks for correspond to runs of rules that it asks for.
use Rattle.std.proofs.Common.{◌≡◌, ℕ, zero, suc, ◌+◌, ◌≤◌, true, not, ◌&&◌, Some, List, [], ◌∷◌, ◌++◌, length, map, slice_get, take, refl, sym, ap, ◌∙◌, arith}
use Rattle.std.specs.Prelude.{is_some, is_none, option_and_then}
use Rattle.std.specs.List.{list_all}
use Rattle.std.proofs.lemmas.Bool.{and_from, and_parts}
use Rattle.std.proofs.lemmas.List.Folds.{list_all-append}
use Rattle.std.proofs.lemmas.Option.{same_Some}
use Rattle.ilk_base.specs.Option.{is_some_and}
use Rattle.ilk_base.proofs.Options.{bind_some, mapped-Some, some-and}
use Rattle.ilk_base.proofs.Lists.{item_at, take-next}
use Rattle.ilk_base.proofs.Tested.{list_all-weaken}
use Rattle.ilk_ir.specs.System.{PlainSystem, after_rule_number}
use Rattle.ilk_ir.specs.Tree.{Tree, all_of, each_holds, negation, tree_holds, trees_from_list}
use Rattle.ilk_plant.specs.Plant.{PlantLists}
use Rattle.ilk_plant.specs.Shape.{HasShape}
use Rattle.ilk_plant.specs.Start.{start}
use Rattle.ilk_plant.specs.declared.state.State.{State}
use Rattle.ilk_model.specs.Hazard.{hazard}
use Rattle.ilk_model.specs.Run.{run}
use Rattle.ilk_model.specs.declared.event.Event.{Event}
use Rattle.ilk_layout.specs.Image.{image_of}
use Rattle.ilk_layout.specs.Laws.{AreImageOfSafeState}
use Rattle.ilk_behave.specs.Behaviour.{system_of_plant}
use Rattle.ilk_unroll.specs.Goal.{CopyDemand, PlainGoalForms, demands_of, demand_form_fails_in_copy, form_demands_below_copy, demand_form_holds_in_copy, query_step_count}
use Rattle.ilk_unroll.specs.Run.{is_wanted_run, demand_is_met_by_run, run_firing_rules}
use Rattle.ilk_unroll.specs.declared.queries.Wanted.{Wanted}
use Rattle.ilk_unroll.specs.declared.queries.Wanted.TheVariants.{Hazard, Breach, Step}
use Rattle.ilk_unroll.proofs.QueryLaw.{Wants, wanted-from, wants}
use Rattle.ilk_queries.specs.Asked.{IsRunForQuery, first_breaks_invariant_at, meets_invariant}
use Rattle.ilk_queries.specs.Lifting.{AllHaveShape, GoalFormsMatchPlant, RulesStepLikeEvents, events_of_rule_numbers_or_none, form_holds_for_values, state_has_no_hazard}
use Rattle.ilk_queries.specs.Walk.{states_from}
use Rattle.ilk_queries.proofs.Demands.{all-more, below-met, holds-met}
use Rattle.ilk_queries.proofs.Queries.{breach-met, hazard-met, shaped-at, step-met}
use Rattle.ilk_queries.proofs.Walks.{none-is, run-states, states-begin, states-many, states-run, states-shaped, to-events, to-rules}
use Rattle.ilk_model.specs.Meets.{meets_all_families}

run-many : (system : PlainSystem) (values : List ℕ) (rules : List ℕ) (lists : List (List ℕ)) → run_firing_rules system values rules ≡ Some lists → length lists ≡ suc (length rules)
run-many system values [] lists e = ap length (sym (same_Some (values ∷ []) lists e))
run-many system values (rule ∷ rules) lists e =
    let outer = mapped-Some (λ run. values ∷ run) (option_and_then (λ next. run_firing_rules system next rules) (after_rule_number system rule values)) lists e in
    let inner = bind_some (after_rule_number system rule values) (λ next. run_firing_rules system next rules) outer.0 outer.1 in
    ap length (sym outer.2) ∙ ap suc (run-many system inner.0 rules outer.0 inner.2)

safe-more : (p : PlantLists) (states : List State) (n : ℕ) (t : State) → slice_get states n ≡ Some t → list_all (state_has_no_hazard p) (take (n + 1) states) ≡ (list_all (state_has_no_hazard p) (take n states) && state_has_no_hazard p t)
safe-more p states n t at = ap (list_all (state_has_no_hazard p)) (take-next states n t at) ∙ all-more (state_has_no_hazard p) (take n states) t

module _ (p : PlantLists) (steps : RulesStepLikeEvents p) (g : PlainGoalForms) (goal : GoalFormsMatchPlant p g) where
  record Walked (s : State) (events : List Event) (states : List State) (n : ℕ) : Type 0 where
    shaped : AllHaveShape p states
    first : slice_get states 0 ≡ Some s
    many : length states ≡ suc n

  walked : (s : State) (events : List Event) (states : List State) (n : ℕ) → HasShape p s → states_from p s events ≡ Some states → length events ≡ n → Walked s events states n
  walked s events states n shape is count =
      let begin = states-begin p s events states is in
      record {
        shaped = states-shaped p steps g goal s events states shape is;
        first = ap (λ (u : List State). slice_get u 0) begin.1;
        many = states-many p s events states is ∙ ap suc count;
      }

  made : (q : Wanted) (s : State) (events : List Event) (states : List State) → HasShape p s →
      states_from p s events ≡ Some states → length events ≡ query_step_count q →
      list_all (state_has_no_hazard p) (take (query_step_count q) states) ≡ true →
      list_all (demand_is_met_by_run (map (image_of p) states)) (demands_of g q) ≡ true →
      (rules : List ℕ) × (is_wanted_run (system_of_plant p) g q (image_of p s) rules ≡ true)
  made q s events states shape is count safe met =
      let fires = to-rules p steps g goal s events states shape is (ap (λ n. list_all (state_has_no_hazard p) (take n states)) count ∙ safe) in
      (fires.0, wanted-from (system_of_plant p) g q (image_of p s) fires.0 (record { run = map (image_of p) states; is = fires.2; in_range = goal.in_range s shape; many = fires.1 ∙ count; met = met }))

  pub to-wanted : (q : Wanted) (s : State) (events : List Event) → HasShape p s → IsRunForQuery p q s events → (rules : List ℕ) × (is_wanted_run (system_of_plant p) g q (image_of p s) rules ≡ true)
  to-wanted (Hazard n) s events shape asked =
      let found = some-and (run p s events) (λ t. is_some (hazard p t)) asked.2 in
      let t = found.0 in
      let led = run-states p s t events found.1 in
      let w = walked s events led.0 n shape led.1 asked.1 in
      let many = w.many in
      let safe : list_all (state_has_no_hazard p) (take n led.0) ≡ true = ap (λ k. list_all (state_has_no_hazard p) (take k led.0)) (sym asked.1) ∙ led.2 in
      let last : slice_get led.0 n ≡ Some t = ap (slice_get led.0) (sym asked.1) ∙ led.3 in
      let begins = (goal.begins (image_of p s) (goal.in_range s shape)).1 (ap (image_of p) asked.0) in
      made (Hazard n) s events led.0 shape led.1 asked.1 safe (hazard-met p steps g goal n led.0 s t w.shaped w.first last (omega arith) ∙ and_from _ _ begins (and_from _ _ safe found.2))
  to-wanted (Breach n) s events shape asked =
      let found = some-and (run p s events) (λ t. is_none (hazard p t) && not (meets_all_families p t)) asked.2 in
      let t = found.0 in
      let parts = and_parts (is_none (hazard p t)) (not (meets_all_families p t)) found.2 in
      let led = run-states p s t events found.1 in
      let w = walked s events led.0 n shape led.1 asked.1 in
      let many = w.many in
      let safe : list_all (state_has_no_hazard p) (take n led.0) ≡ true = ap (λ k. list_all (state_has_no_hazard p) (take k led.0)) (sym asked.1) ∙ led.2 in
      let last : slice_get led.0 n ≡ Some t = ap (slice_get led.0) (sym asked.1) ∙ led.3 in
      let all : list_all (state_has_no_hazard p) (take (n + 1) led.0) ≡ true = safe-more p led.0 n t last ∙ and_from _ _ safe parts.0 in
      let begins = (goal.begins (image_of p s) (goal.in_range s shape)).1 (ap (image_of p) asked.0) in
      let broken : not (list_all (tree_holds (image_of p t)) g.families) ≡ true = ap not (goal.kept t (shaped-at p led.0 n t w.shaped last) (none-is (hazard p t) parts.0)) ∙ parts.1 in
      made (Breach n) s events led.0 shape led.1 asked.1 safe (breach-met p steps g goal n led.0 s t w.shaped w.first last (omega arith) ∙ and_from _ _ begins (and_from _ _ all broken))
  to-wanted (Step n) s events shape asked =
      let found = some-and (states_from p s events) (first_breaks_invariant_at p (length events)) asked.2 in
      let states = found.0 in
      let w = walked s events states n shape found.1 asked.1 in
      let many = w.many in
      let leaves : first_breaks_invariant_at p n states ≡ true = ap (λ k. first_breaks_invariant_at p k states) (sym asked.1) ∙ found.2 in
      let parts = and_parts (list_all (meets_invariant p) (take n states)) (is_some_and (slice_get states n) (λ t. not (meets_invariant p t))) leaves in
      let end = some-and (slice_get states n) (λ t. not (meets_invariant p t)) parts.1 in
      let safe : list_all (state_has_no_hazard p) (take n states) ≡ true = list_all-weaken (meets_invariant p) (state_has_no_hazard p) (λ t meets. (and_parts (state_has_no_hazard p t) (meets_all_families p t) meets).0) (take n states) parts.0 in
      made (Step n) s events states shape found.1 asked.1 safe (step-met p steps g goal n states end.0 w.shaped end.1 (omega arith) ∙ leaves)

  abbrev pub IsBeginning : Wanted → State → Type 0
  IsBeginning (Hazard n) s = s ≡ start p
  IsBeginning (Breach n) s = s ≡ start p
  IsBeginning (Step n) s = HasShape p s

  form-first : (form : Tree) (n : ℕ) (lists : List (List ℕ)) (more : List CopyDemand) → n ≤ length lists →
      list_all (demand_is_met_by_run lists) (form_demands_below_copy form n ++ more) ≡ true →
      list_all (form_holds_for_values form) (take n lists) ≡ true
  form-first form n lists more within met =
      sym (below-met lists form n within)
      ∙ (and_parts (list_all (demand_is_met_by_run lists) (form_demands_below_copy form n)) (list_all (demand_is_met_by_run lists) more)
      (sym (list_all-append (demand_is_met_by_run lists) (form_demands_below_copy form n) more) ∙ met)).0

  kept-first : (n : ℕ) (lists : List (List ℕ)) (more : List CopyDemand) → n ≤ length lists →
      list_all (demand_is_met_by_run lists) (form_demands_below_copy (all_of (trees_from_list (g.wellformed ∷ g.families))) n ++ more) ≡ true →
      list_all (form_holds_for_values g.wellformed) (take n lists) ≡ true
  kept-first n lists more within met =
      let all = all_of (trees_from_list (g.wellformed ∷ g.families)) in
      list_all-weaken (form_holds_for_values all) (form_holds_for_values g.wellformed)
      (λ values holds. (and_parts (form_holds_for_values g.wellformed values) (each_holds values (trees_from_list g.families)) holds).0)
      (take n lists) (form-first all n lists more within met)

  record Led (q : Wanted) (s : State) (rules : List ℕ) : Type 0 where
    events : List Event
    states : List State
    by_rules : events_of_rule_numbers_or_none p rules ≡ Some events
    count : length events ≡ query_step_count q
    is : states_from p s events ≡ Some states
    shaped : AllHaveShape p states
    first : slice_get states 0 ≡ Some s
    many : length states ≡ suc (query_step_count q)
    met : list_all (demand_is_met_by_run (map (image_of p) states)) (demands_of g q) ≡ true

  led : (q : Wanted) (s : State) (rules : List ℕ) → HasShape p s → (w : Wants (system_of_plant p) g q (image_of p s) rules) → list_all (form_holds_for_values g.wellformed) (take (query_step_count q) w.run) ≡ true → Led q s rules
  led q s rules shape w well =
      let goes = to-events p steps g goal s rules w.run shape w.is (ap (λ n. list_all (form_holds_for_values g.wellformed) (take n w.run)) w.many ∙ well) in
      let count : length goes.0 ≡ query_step_count q = goes.3 ∙ w.many in
      let known = walked s goes.0 goes.1 (query_step_count q) shape goes.4 count in
      record {
        events = goes.0;
        states = goes.1;
        by_rules = goes.2;
        count = count;
        is = goes.4;
        shaped = known.shaped;
        first = known.first;
        many = known.many;
        met = ap (λ (u : List (List ℕ)). list_all (demand_is_met_by_run u) (demands_of g q)) goes.5 ∙ w.met;
      }

  pub to-asked : (q : Wanted) (s : State) (rules : List ℕ) → HasShape p s → IsBeginning q s → is_wanted_run (system_of_plant p) g q (image_of p s) rules ≡ true → (events : List Event) × (events_of_rule_numbers_or_none p rules ≡ Some events) ×
      IsRunForQuery p q s events
  to-asked (Hazard n) s rules shape begins wanted =
      let w = wants (system_of_plant p) g (Hazard n) (image_of p s) rules wanted in
      let size = run-many (system_of_plant p) (image_of p s) rules w.run w.is in
      let count = w.many in
      let rest = (and_parts (demand_is_met_by_run w.run (demand_form_holds_in_copy 0 g.start)) (list_all (demand_is_met_by_run w.run) (form_demands_below_copy g.wellformed n ++ demand_form_holds_in_copy n g.hazard ∷ [])) w.met).1 in
      let l = led (Hazard n) s rules shape w (form-first g.wellformed n w.run (demand_form_holds_in_copy n g.hazard ∷ []) (omega arith) rest) in
      let many = l.many in
      let end = item_at l.states n (omega arith) in
      let parts = and_parts _ _ (sym (hazard-met p steps g goal n l.states s end.0 l.shaped l.first end.1 (omega arith)) ∙ l.met) in
      let inner = and_parts (list_all (state_has_no_hazard p) (take n l.states)) (is_some (hazard p end.0)) parts.1 in
      let ends : run p s l.events ≡ Some end.0 = states-run p s l.events l.states l.is (ap (λ k. list_all (state_has_no_hazard p) (take k l.states)) l.count ∙ inner.0) ∙ ap (slice_get l.states) l.count ∙ end.1 in
      (l.events, l.by_rules, (begins, l.count, ap (λ o. is_some_and o (λ t. is_some (hazard p t))) ends ∙ inner.1))
  to-asked (Breach n) s rules shape begins wanted =
      let w = wants (system_of_plant p) g (Breach n) (image_of p s) rules wanted in
      let size = run-many (system_of_plant p) (image_of p s) rules w.run w.is in
      let count = w.many in
      let broken : CopyDemand = demand_form_fails_in_copy n (all_of (trees_from_list g.families)) in
      let rest = (and_parts (demand_is_met_by_run w.run (demand_form_holds_in_copy 0 g.start)) (list_all (demand_is_met_by_run w.run) (form_demands_below_copy g.wellformed (n + 1) ++ broken ∷ [])) w.met).1 in
      let well = form-first g.wellformed (n + 1) w.run (broken ∷ []) (omega arith) rest in
      let found = item_at w.run n (omega arith) in
      let fewer =
      (and_parts (list_all (form_holds_for_values g.wellformed) (take n w.run)) (form_holds_for_values g.wellformed found.0)
      (sym
      (ap (list_all (form_holds_for_values g.wellformed)) (take-next w.run n found.0 found.1)
      ∙ all-more (form_holds_for_values g.wellformed) (take n w.run) found.0) ∙ well)).0 in
      let l = led (Breach n) s rules shape w fewer in
      let many = l.many in
      let end = item_at l.states n (omega arith) in
      let parts = and_parts _ _ (sym (breach-met p steps g goal n l.states s end.0 l.shaped l.first end.1 (omega arith)) ∙ l.met) in
      let inner = and_parts (list_all (state_has_no_hazard p) (take (n + 1) l.states)) (not (list_all (tree_holds (image_of p end.0)) g.families)) parts.1 in
      let safe = and_parts (list_all (state_has_no_hazard p) (take n l.states)) (state_has_no_hazard p end.0) (sym (safe-more p l.states n end.0 end.1) ∙ inner.0) in
      let kept : not (meets_all_families p end.0) ≡ true = ap not (sym (goal.kept end.0 (shaped-at p l.states n end.0 l.shaped end.1) (none-is (hazard p end.0) safe.1))) ∙ inner.1 in
      let ends : run p s l.events ≡ Some end.0 = states-run p s l.events l.states l.is (ap (λ k. list_all (state_has_no_hazard p) (take k l.states)) l.count ∙ safe.0) ∙ ap (slice_get l.states) l.count ∙ end.1 in
      (l.events, l.by_rules, (begins, l.count, ap (λ o. is_some_and o (λ t. is_none (hazard p t) && not (meets_all_families p t))) ends ∙ and_from _ _ safe.1 kept))
  to-asked (Step n) s rules shape begins wanted =
      let w = wants (system_of_plant p) g (Step n) (image_of p s) rules wanted in
      let size = run-many (system_of_plant p) (image_of p s) rules w.run w.is in
      let count = w.many in
      let broken : CopyDemand = demand_form_fails_in_copy n (all_of (trees_from_list (negation g.hazard ∷ g.families))) in
      let l = led (Step n) s rules shape w (kept-first n w.run (broken ∷ []) (omega arith) w.met) in
      let many = l.many in
      let end = item_at l.states n (omega arith) in
      let leaves : first_breaks_invariant_at p n l.states ≡ true = sym (step-met p steps g goal n l.states end.0 l.shaped end.1 (omega arith)) ∙ l.met in
      (l.events, l.by_rules, (shape, l.count, ap (λ o. is_some_and o (first_breaks_invariant_at p (length l.events))) l.is ∙ ap (λ k. first_breaks_invariant_at p k l.states) l.count ∙ leaves))

  run-begins : (first rules : List ℕ) (lists : List (List ℕ)) → run_firing_rules (system_of_plant p) first rules ≡ Some lists → (more : List (List ℕ)) × (lists ≡ first ∷ more)
  run-begins first [] lists e = ([], sym (same_Some (first ∷ []) lists e))
  run-begins first (rule ∷ rules) lists e =
      let outer = mapped-Some (λ run. first ∷ run) (option_and_then (λ next. run_firing_rules (system_of_plant p) next rules) (after_rule_number (system_of_plant p) rule first)) lists e in
      (outer.0, sym outer.2)

  abbrev pub Begins : Wanted → List ℕ → Type 0
  Begins (Hazard n) first = first ≡ image_of p (start p)
  Begins (Breach n) first = first ≡ image_of p (start p)
  Begins (Step zero) first = Unit {0}
  Begins (Step (suc n)) first = AreImageOfSafeState p first

  start-first : (q : Wanted) (first rules : List ℕ) (more : List CopyDemand) → demands_of g q ≡ demand_form_holds_in_copy 0 g.start ∷ more → is_wanted_run (system_of_plant p) g q first rules ≡ true → first ≡ image_of p (start p)
  start-first q first rules more same wanted =
      let w = wants (system_of_plant p) g q first rules wanted in
      let begin = run-begins first rules w.run w.is in
      let at0 : slice_get w.run 0 ≡ Some first = ap (λ (u : List (List ℕ)). slice_get u 0) begin.1 in
      let all : list_all (demand_is_met_by_run w.run) (demand_form_holds_in_copy 0 g.start ∷ more) ≡ true = ap (list_all (demand_is_met_by_run w.run)) (sym same) ∙ w.met in
      let here = (and_parts (demand_is_met_by_run w.run (demand_form_holds_in_copy 0 g.start)) (list_all (demand_is_met_by_run w.run) more) all).0 in
      (goal.begins first w.in_range).0 (sym (holds-met w.run 0 first g.start at0) ∙ here)

  pub first-values : (q : Wanted) (first rules : List ℕ) → is_wanted_run (system_of_plant p) g q first rules ≡ true → Begins q first
  first-values (Hazard n) first rules wanted = start-first (Hazard n) first rules (form_demands_below_copy g.wellformed n ++ demand_form_holds_in_copy n g.hazard ∷ []) refl wanted
  first-values (Breach n) first rules wanted = start-first (Breach n) first rules (form_demands_below_copy g.wellformed (n + 1) ++ demand_form_fails_in_copy n (all_of (trees_from_list g.families)) ∷ []) refl wanted
  first-values (Step zero) first rules wanted = tt
  first-values (Step (suc n)) first rules wanted =
      let w = wants (system_of_plant p) g (Step (suc n)) first rules wanted in
      let size = run-many (system_of_plant p) first rules w.run w.is in
      let count = w.many in
      let broken : CopyDemand = demand_form_fails_in_copy (suc n) (all_of (trees_from_list (negation g.hazard ∷ g.families))) in
      let well = kept-first (suc n) w.run (broken ∷ []) (omega arith) w.met in
      let begin = run-begins first rules w.run w.is in
      let here : list_all (form_holds_for_values g.wellformed) (first ∷ take n begin.0) ≡ true = ap (λ (u : List (List ℕ)). list_all (form_holds_for_values g.wellformed) (take (suc n) u)) (sym begin.1) ∙ well in
      (goal.wellformed first w.in_range).0 (and_parts (form_holds_for_values g.wellformed first) (list_all (form_holds_for_values g.wellformed) (take n begin.0)) here).0
