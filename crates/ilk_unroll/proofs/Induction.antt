-- Induction over k steps: no run from the start reaches a hazard or breaks a family, if no short
-- run does and no run of k steps leaves the invariant.
use Rattle.std.proofs.Common.{◌≡◌, ℕ, zero, suc, ◌+◌, ◌-◌, ◌≤◌, ◌<◌, Bool, true, false, not, cond, ◌&&◌, List, [], ◌∷◌, ◌++◌, length, take, drop, slice_get, Option, Some, refl, sym, ap, ◌∙◌, arith, inl, inr}
use Rattle.std.specs.List.{list_all}
use Rattle.std.proofs.lemmas.Bool.{and_from, and_parts}
use Rattle.std.proofs.lemmas.List.{length-drop, length-take-le}
use Rattle.std.proofs.lemmas.List.Folds.{list_all-append}
use Rattle.ilk_base.proofs.Truth.{fails}
use Rattle.ilk_base.proofs.Lists.{get-taken, get-dropped}
use Rattle.ilk_base.specs.Option.{is_some_and}
use Rattle.ilk_base.proofs.Ranges.{below_or_past}
use Rattle.ilk_base.proofs.Tested.{list_all-slice_get}
use Rattle.ilk_ir.specs.Tree.{Tree, all_of, negation, trees_from_list, tree_holds, each_holds}
use Rattle.ilk_ir.specs.System.{PlainSystem, rule_valid, in_ranges}
use Rattle.ilk_ir.proofs.Trees.{all_of-holds}
use Rattle.ilk_unroll.specs.declared.queries.Wanted.TheVariants.{Hazard, Breach, Step}
use Rattle.ilk_unroll.specs.Goal.{PlainGoalForms, CopyDemand, demand_form_holds_in_copy, demand_form_fails_in_copy, form_demands_below_copy}
use Rattle.ilk_unroll.specs.Run.{run_firing_rules, demand_is_met_by_run}
use Rattle.ilk_unroll.proofs.Runs.{run-is}
use Rattle.ilk_unroll.specs.Evidence.{HasRun}
use Rattle.ilk_unroll.proofs.QueryDemands.{below-each, below-from, one-demand, IsWanted, wanted-parts, wanted-from}
use Rattle.ilk_unroll.proofs.Middles.{middle}

met-at : (run : List (List ℕ)) (d : CopyDemand) (values : List ℕ) → slice_get run d.copy ≡ Some values → demand_is_met_by_run run d ≡ cond d.holds (tree_holds values d.form) (not (tree_holds values d.form))
met-at run d values at = ap (λ (o : Option (List ℕ)). is_some_and o (λ ws. cond d.holds (tree_holds ws d.form) (not (tree_holds ws d.form)))) at

met-same : (run other : List (List ℕ)) (i j : ℕ) (t : Tree) (holds : Bool) → slice_get run i ≡ slice_get other j → demand_is_met_by_run run (record { copy = i; form = t; holds = holds }) ≡ demand_is_met_by_run other (record {
  copy = j;
  form = t;
  holds = holds;
})
met-same run other i j t holds same = ap (λ (o : Option (List ℕ)). is_some_and o (λ ws. cond holds (tree_holds ws t) (not (tree_holds ws t)))) same

-- A run from the start through well-formed values.
record FromStart (s : PlainSystem) (g : PlainGoalForms) (n : ℕ) (first rules : List ℕ) : Type 0 where
  in_range : in_ranges first s.ranges ≡ true
  many : length rules ≡ n
  run : List (List ℕ)
  is : run_firing_rules s first rules ≡ Some run
  start : demand_is_met_by_run run (demand_form_holds_in_copy 0 g.start) ≡ true
  wellformed : (j : ℕ) → j < n → demand_is_met_by_run run (demand_form_holds_in_copy j g.wellformed) ≡ true

kept-before :
    (s : PlainSystem) (g : PlainGoalForms) (n : ℕ) (first rules : List ℕ) (w : FromStart s g n first rules) (j : ℕ)
    (values : List ℕ) → j < n →
    ¬ HasRun s g (Breach j) → slice_get w.run j ≡ Some values → list_all (tree_holds values) g.families ≡ true
kept-before s g n first rules w j values less none at = by_case (list_all (tree_holds values) g.families) refl
  where
    by_case : (b : Bool) → list_all (tree_holds values) g.families ≡ b → list_all (tree_holds values) g.families ≡ true
    by_case true e = e
    by_case false e =
        let m = middle s rules first w.run j (let many = w.many in omega arith) w.is in
        let run = take (suc j) w.run in
        let start : demand_is_met_by_run run (demand_form_holds_in_copy 0 g.start) ≡ true = met-same run w.run 0 0 g.start true (get-taken w.run (suc j) 0 (omega arith)) ∙ w.start in
        let wellformed : list_all (demand_is_met_by_run run) (form_demands_below_copy g.wellformed (j + 1)) ≡ true = below-from run
        g.wellformed (j + 1)
        (λ i low. met-same run w.run i i g.wellformed true (get-taken w.run (suc j) i (omega arith))
        ∙ w.wellformed i (omega arith)) in
        let last : demand_is_met_by_run run (demand_form_fails_in_copy j (all_of (trees_from_list g.families)))
        ≡ true = met-at run (demand_form_fails_in_copy j (all_of (trees_from_list g.families))) values (get-taken w.run (suc j) j (omega arith) ∙ at) ∙ ap not (all_of-holds values g.families ∙ e) in
        let met = and_from _ _ start (list_all-append (demand_is_met_by_run run) (form_demands_below_copy g.wellformed (j + 1)) (demand_form_fails_in_copy j (all_of (trees_from_list g.families)) ∷ [])
        ∙ and_from _ _ wellformed (and_from _ _ last refl)) in
        let wanted : IsWanted s g (Breach j) first (take j rules) = record { in_range = w.in_range; many = length-take-le j rules (let many = w.many in omega arith); run = run; is = m.before; met = met } in
        absurd (none (first, take j rules, wanted-from s g (Breach j) first (take j rules) wanted))

kept-later :
    (s : PlainSystem) (g : PlainGoalForms) (n : ℕ) (first rules : List ℕ) (w : FromStart s g n first rules) (m k : ℕ)
    → m + k ≡ n →
    ((j : ℕ) → j < n → ¬ HasRun s g (Breach j)) → (j : ℕ) → j < k →
    list_all (λ t. demand_is_met_by_run (drop m w.run) (demand_form_holds_in_copy j t)) g.families ≡ true
kept-later s g n first rules w m k whole none j less =
    let many = w.many in
    let here = middle s rules first w.run (m + j) (omega arith) w.is in
    let at : slice_get (drop m w.run) j ≡ Some here.values = get-dropped w.run m j ∙ here.at in
    ap (λ (o : Option (List ℕ)). list_all (λ t. is_some_and o (λ ws. tree_holds ws t)) g.families) at
    ∙ kept-before s g n first rules w (m + j) here.values (omega arith) (none (m + j) (omega arith)) here.at

last-steps : (s : PlainSystem) (g : PlainGoalForms) (k n : ℕ) (first rules : List ℕ) →
    list_all (rule_valid s.ranges) s.rules ≡ true → k ≤ n → (w : FromStart s g n first rules) →
    ((j : ℕ) → j < n → ¬ HasRun s g (Breach j)) →
    demand_is_met_by_run w.run (demand_form_fails_in_copy n (all_of (trees_from_list (negation g.hazard ∷ g.families)))) ≡ true → HasRun s g (Step k)
last-steps s g k n first rules valid le w none last =
    let many = w.many in
    let m = middle s rules first w.run (n - k) (omega arith) w.is in
    let run = drop (n - k) w.run in
    let far : (n - k) + k ≡ n = omega arith in
    let in_range : in_ranges m.values s.ranges ≡ true = list_all-slice_get (λ values. in_ranges values s.ranges) w.run (n - k) m.values (run-is s rules first w.run valid w.in_range w.is).in_range m.at in
    let same : (i : ℕ) (t : Tree) (holds : Bool) →
    demand_is_met_by_run run (record { copy = i; form = t; holds = holds })
    ≡ demand_is_met_by_run w.run (record { copy = (n - k) + i; form = t; holds = holds }) =
    λ i t holds. met-same run w.run i ((n - k) + i) t holds (get-dropped w.run (n - k) i) in
    let all = all_of (trees_from_list (g.wellformed ∷ g.families)) in
    let kept : list_all (demand_is_met_by_run run) (form_demands_below_copy all k) ≡ true = below-from run all k
    (λ j less. one-demand run g.wellformed g.families j
    ∙ and_from _ _ (same j g.wellformed true ∙ w.wellformed ((n - k) + j) (omega arith)) (kept-later s g n first rules w (n - k) k far none j less)) in
    let T = all_of (trees_from_list (negation g.hazard ∷ g.families)) in
    let ends : demand_is_met_by_run run (demand_form_fails_in_copy k T) ≡ true = same k T false ∙ ap (λ (i : ℕ). demand_is_met_by_run w.run (demand_form_fails_in_copy i T)) far ∙ last in
    let met = list_all-append (demand_is_met_by_run run) (form_demands_below_copy all k) (demand_form_fails_in_copy k T ∷ []) ∙ and_from _ _ kept (and_from _ _ ends refl) in
    let size = length-drop (n - k) rules in
    let wanted : IsWanted s g (Step k) m.values (drop (n - k) rules) = record { in_range = in_range; many = omega (arith, size, many, le); run = run; is = m.after; met = met } in
    (m.values, drop (n - k) rules, wanted-from s g (Step k) m.values (drop (n - k) rules) wanted)

hazard-steps : (s : PlainSystem) (g : PlainGoalForms) (k n : ℕ) → list_all (rule_valid s.ranges) s.rules ≡ true → k ≤ n → ((j : ℕ) → j < n → ¬ HasRun s g (Breach j)) → HasRun s g (Hazard n) → HasRun s g (Step k)
hazard-steps s g k n valid le none has =
    let w = wanted-parts s g (Hazard n) has.0 has.1 has.2 in
    let many : length has.1 ≡ n = w.many in
    let parts = and_parts (demand_is_met_by_run w.run (demand_form_holds_in_copy 0 g.start)) (list_all (demand_is_met_by_run w.run) (form_demands_below_copy g.wellformed n ++ demand_form_holds_in_copy n g.hazard ∷ [])) w.met in
    let rest = and_parts (list_all (demand_is_met_by_run w.run) (form_demands_below_copy g.wellformed n)) (demand_is_met_by_run w.run (demand_form_holds_in_copy n g.hazard) && true)
    (sym (list_all-append (demand_is_met_by_run w.run) (form_demands_below_copy g.wellformed n) (demand_form_holds_in_copy n g.hazard ∷ [])) ∙ parts.1) in
    let hazard = (and_parts (demand_is_met_by_run w.run (demand_form_holds_in_copy n g.hazard)) true rest.1).0 in
    let m = middle s has.1 has.0 w.run n (omega arith) w.is in
    let here : tree_holds m.values g.hazard ≡ true = sym (met-at w.run (demand_form_holds_in_copy n g.hazard) m.values m.at) ∙ hazard in
    let last = met-at w.run (demand_form_fails_in_copy n (all_of (trees_from_list (negation g.hazard ∷ g.families)))) m.values m.at ∙ ap (λ (b : Bool). not (not b && each_holds m.values (trees_from_list g.families))) here in
    last-steps s g k n has.0 has.1 valid le (record { in_range = w.in_range; many = w.many; run = w.run; is = w.is; start = parts.0; wellformed = λ j less. below-each w.run g.wellformed n j rest.0 less }) none last

and-false : (a : Bool) → (a && false) ≡ false
and-false true = refl
and-false false = refl

breach-steps : (s : PlainSystem) (g : PlainGoalForms) (k n : ℕ) → list_all (rule_valid s.ranges) s.rules ≡ true → k ≤ n → ((j : ℕ) → j < n → ¬ HasRun s g (Breach j)) → HasRun s g (Breach n) → HasRun s g (Step k)
breach-steps s g k n valid le none has =
    let w = wanted-parts s g (Breach n) has.0 has.1 has.2 in
    let many : length has.1 ≡ n = w.many in
    let T = all_of (trees_from_list g.families) in
    let parts = and_parts (demand_is_met_by_run w.run (demand_form_holds_in_copy 0 g.start)) (list_all (demand_is_met_by_run w.run) (form_demands_below_copy g.wellformed (n + 1) ++ demand_form_fails_in_copy n T ∷ [])) w.met in
    let rest = and_parts (list_all (demand_is_met_by_run w.run) (form_demands_below_copy g.wellformed (n + 1))) (demand_is_met_by_run w.run (demand_form_fails_in_copy n T) && true)
    (sym (list_all-append (demand_is_met_by_run w.run) (form_demands_below_copy g.wellformed (n + 1)) (demand_form_fails_in_copy n T ∷ [])) ∙ parts.1) in
    let broken = (and_parts (demand_is_met_by_run w.run (demand_form_fails_in_copy n T)) true rest.1).0 in
    let m = middle s has.1 has.0 w.run n (omega arith) w.is in
    let here : tree_holds m.values T ≡ false = fails (tree_holds m.values T) (sym (met-at w.run (demand_form_fails_in_copy n T) m.values m.at) ∙ broken) in
    let last = met-at w.run (demand_form_fails_in_copy n (all_of (trees_from_list (negation g.hazard ∷ g.families)))) m.values m.at ∙ ap
    (λ (b : Bool). not (not (tree_holds m.values g.hazard) && b)) here ∙ ap not (and-false (not (tree_holds m.values g.hazard))) in
    last-steps s g k n has.0 has.1 valid le (record { in_range = w.in_range; many = w.many; run = w.run; is = w.is; start = parts.0; wellformed = λ j less. below-each w.run g.wellformed (n + 1) j rest.0 (omega arith) }) none last

forever-to : (s : PlainSystem) (g : PlainGoalForms) (k : ℕ) → list_all (rule_valid s.ranges) s.rules ≡ true →
    ((n : ℕ) → n ≤ k → ¬ HasRun s g (Hazard n)) → ((n : ℕ) → n ≤ k → ¬ HasRun s g (Breach n)) →
    ¬ HasRun s g (Step k) → (bound n : ℕ) → n ≤ bound → (¬ HasRun s g (Hazard n)) × (¬ HasRun s g (Breach n))
forever-to s g k valid hazards breaches step zero n le = (hazards n (omega arith), breaches n (omega arith))
forever-to s g k valid hazards breaches step (suc bound) n le =
    elim (below_or_past k n) [
      | inl past ↦ (let none : (j : ℕ) → j < n → ¬ HasRun s g (Breach j) = λ j less. (forever-to s g k valid hazards breaches step bound j (omega arith)).1 in
          (λ has. step (hazard-steps s g k n valid (omega arith) none has), λ has. step (breach-steps s g k n valid (omega arith) none has)))
      | inr short ↦ (hazards n short, breaches n short)
    ]

pub forever : (s : PlainSystem) (g : PlainGoalForms) (k : ℕ) → list_all (rule_valid s.ranges) s.rules ≡ true →
    ((n : ℕ) → n ≤ k → ¬ HasRun s g (Hazard n)) → ((n : ℕ) → n ≤ k → ¬ HasRun s g (Breach n)) →
    ¬ HasRun s g (Step k) → (n : ℕ) → (¬ HasRun s g (Hazard n)) × (¬ HasRun s g (Breach n))
forever s g k valid hazards breaches step n = forever-to s g k valid hazards breaches step n n (omega arith)
