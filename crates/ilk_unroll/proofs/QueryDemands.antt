-- The demands of a query, copy by copy, and the parts of a run that it asks for.
use Rattle.std.proofs.Common.{◌≡◌, ℕ, zero, suc, ◌+◌, ◌≤◌, ◌<◌, Bool, true, ◌&&◌, ◌==◌, List, ◌∷◌, length, slice_get, Option, Some, None, refl, sym, ◌∙◌, arith}
use Rattle.std.specs.List.{list_all, range_with_len}
use Rattle.std.proofs.lemmas.Bool.{and_from, and_parts, eqb-true, eq-eqb}
use Rattle.std.proofs.lemmas.List.Folds.{list_all-map}
use Rattle.ilk_base.specs.Option.{is_some_and}
use Rattle.ilk_base.proofs.Options.{some-and}
use Rattle.ilk_base.proofs.Ranges.{range-at}
use Rattle.ilk_base.proofs.Tested.{list_all-slice_get}
use Rattle.ilk_ir.specs.Tree.{Tree, all_of, trees_from_list, tree_holds}
use Rattle.ilk_ir.proofs.Trees.{all_of-holds}
use Rattle.ilk_ir.specs.System.{PlainSystem, in_ranges}
use Rattle.ilk_unroll.specs.declared.queries.Wanted.{Wanted}
use Rattle.ilk_unroll.specs.Goal.{PlainGoalForms, demand_form_holds_in_copy, form_demands_below_copy, query_step_count, demands_of}
use Rattle.ilk_unroll.specs.Run.{run_firing_rules, demand_is_met_by_run, is_wanted_run}

pub below-each : (run : List (List ℕ)) (t : Tree) (n j : ℕ) → list_all (demand_is_met_by_run run) (form_demands_below_copy t n) ≡ true → j < n → demand_is_met_by_run run (demand_form_holds_in_copy j t) ≡ true
below-each run t n j h less =
    list_all-slice_get (λ i. demand_is_met_by_run run (demand_form_holds_in_copy i t)) (range_with_len 0 n) j j (sym (list_all-map (demand_is_met_by_run run) (λ i. demand_form_holds_in_copy i t) (range_with_len 0 n)) ∙ h) (range-at n j less)

range-from : (p : ℕ → Bool) (start k : ℕ) → ((j : ℕ) → start ≤ j → j < start + k → p j ≡ true) → list_all p (range_with_len start k) ≡ true
range-from p start zero h = refl
range-from p start (suc k) h =
    and_from _ _ (h start (omega arith) (omega arith)) (range-from p (start + 1) k (λ j low high. h j (omega arith) (omega arith)))

pub below-from : (run : List (List ℕ)) (t : Tree) (n : ℕ) → ((j : ℕ) → j < n → demand_is_met_by_run run (demand_form_holds_in_copy j t) ≡ true) → list_all (demand_is_met_by_run run) (form_demands_below_copy t n) ≡ true
below-from run t n h =
    list_all-map (demand_is_met_by_run run) (λ j. demand_form_holds_in_copy j t) (range_with_len 0 n)
    ∙ range-from (λ j. demand_is_met_by_run run (demand_form_holds_in_copy j t)) 0 n (λ j low high. h j (omega arith))

-- The forms hold in a copy of the run exactly if their And does.
pub one-demand : (run : List (List ℕ)) (t : Tree) (ts : List Tree) (j : ℕ) → demand_is_met_by_run run (demand_form_holds_in_copy j (all_of (trees_from_list (t ∷ ts))))
    ≡ list_all (λ u. demand_is_met_by_run run (demand_form_holds_in_copy j u)) (t ∷ ts)
one-demand run t ts j = by_case (slice_get run j)
  where
    by_case : (o : Option (List ℕ)) → is_some_and o (λ ws. tree_holds ws (all_of (trees_from_list (t ∷ ts)))) ≡ list_all (λ u. is_some_and o (λ ws. tree_holds ws u)) (t ∷ ts)
    by_case None = refl
    by_case (Some ws) = all_of-holds ws (t ∷ ts)

-- The parts of a run that a query asks for.
pub record IsWanted (s : PlainSystem) (g : PlainGoalForms) (q : Wanted) (first rules : List ℕ) : Type 0 where
  pub in_range : in_ranges first s.ranges ≡ true
  pub many : length rules ≡ query_step_count q
  pub run : List (List ℕ)
  pub is : run_firing_rules s first rules ≡ Some run
  pub met : list_all (demand_is_met_by_run run) (demands_of g q) ≡ true

pub wanted-parts : (s : PlainSystem) (g : PlainGoalForms) (q : Wanted) (first rules : List ℕ) → is_wanted_run s g q first rules ≡ true → IsWanted s g q first rules
wanted-parts s g q first rules h =
    let outer = and_parts (in_ranges first s.ranges && length rules == query_step_count q) (is_some_and (run_firing_rules s first rules) (λ run. list_all (demand_is_met_by_run run) (demands_of g q))) h in
    let inner = and_parts (in_ranges first s.ranges) (length rules == query_step_count q) outer.0 in
    let run = some-and (run_firing_rules s first rules) (λ run. list_all (demand_is_met_by_run run) (demands_of g q)) outer.1 in
    record { in_range = inner.0; many = eqb-true (length rules) (query_step_count q) inner.1; run = run.0; is = run.1; met = run.2 }

pub wanted-from : (s : PlainSystem) (g : PlainGoalForms) (q : Wanted) (first rules : List ℕ) → IsWanted s g q first rules → is_wanted_run s g q first rules ≡ true
wanted-from s g q first rules w =
    and_from _ _ (and_from _ _ w.in_range (eq-eqb (length rules) (query_step_count q) w.many)) (rw w.is w.met)
