-- The demands of a query on the value lists of a run: tests of the lists before the last, and of
-- the last.
use Rattle.std.proofs.Common.{◌≡◌, ℕ, zero, suc, ◌+◌, ◌≤◌, Bool, true, false, not, ◌&&◌, Some, List, [], ◌∷◌, ◌++◌, length, slice_get, take, refl, sym, ap, ◌∙◌, arith}
use Rattle.std.specs.List.{list_all, range_with_len}
use Rattle.std.proofs.lemmas.List.Folds.{list_all-append, list_all-map}
use Rattle.ilk_base.specs.Option.{is_some_and}
use Rattle.ilk_base.proofs.Ranges.{range-more}
use Rattle.ilk_base.proofs.Lists.{item_at, take-next}
use Rattle.ilk_ir.specs.Tree.{Tree, all_of, tree_holds, trees_from_list}
use Rattle.ilk_ir.proofs.Trees.{each_holds-trees_from_list}
use Rattle.ilk_unroll.specs.Goal.{demand_form_fails_in_copy, form_demands_below_copy, demand_form_holds_in_copy}
use Rattle.ilk_unroll.specs.Run.{demand_is_met_by_run}
use Rattle.ilk_queries.specs.Lifting.{form_holds_for_values}

pub all-more : {X : Type 0} (test : X → Bool) (xs : List X) (x : X) → list_all test (xs ++ x ∷ []) ≡ (list_all test xs && test x)
all-more test xs x = list_all-append test xs (x ∷ []) ∙ ap (λ b. list_all test xs && b) (and-end (test x))
  where
    and-end : (b : Bool) → (b && true) ≡ b
    and-end true = refl
    and-end false = refl

pub holds-met : (lists : List (List ℕ)) (n : ℕ) (v : List ℕ) (form : Tree) → slice_get lists n ≡ Some v → demand_is_met_by_run lists (demand_form_holds_in_copy n form) ≡ form_holds_for_values form v
holds-met lists n v form at = ap (λ o. is_some_and o (λ values. tree_holds values form)) at

pub fails-met : (lists : List (List ℕ)) (n : ℕ) (v : List ℕ) (form : Tree) → slice_get lists n ≡ Some v → demand_is_met_by_run lists (demand_form_fails_in_copy n form) ≡ not (form_holds_for_values form v)
fails-met lists n v form at = ap (λ o. is_some_and o (λ values. not (tree_holds values form))) at

pub below-met : (lists : List (List ℕ)) (form : Tree) (n : ℕ) → n ≤ length lists → list_all (demand_is_met_by_run lists) (form_demands_below_copy form n) ≡ list_all (form_holds_for_values form) (take n lists)
below-met lists form n within = list_all-map (demand_is_met_by_run lists) (λ j. demand_form_holds_in_copy j form) (range_with_len 0 n) ∙ counted n within
  where
    counted : (n : ℕ) → n ≤ length lists → list_all (λ j. demand_is_met_by_run lists (demand_form_holds_in_copy j form)) (range_with_len 0 n) ≡ list_all (form_holds_for_values form) (take n lists)
    counted zero within = refl
    counted (suc n) within =
        let found = item_at lists n (omega arith) in
        let same : suc n ≡ n + 1 = omega arith in
        let left : list_all (λ j. demand_is_met_by_run lists (demand_form_holds_in_copy j form)) (range_with_len 0 (n + 1)) ≡ (list_all (λ j. demand_is_met_by_run lists (demand_form_holds_in_copy j form)) (range_with_len 0 n) &&
        demand_is_met_by_run lists (demand_form_holds_in_copy n form)) =
        ap (list_all (λ j. demand_is_met_by_run lists (demand_form_holds_in_copy j form))) (range-more n) ∙ all-more (λ j. demand_is_met_by_run lists (demand_form_holds_in_copy j form)) (range_with_len 0 n) n in
        let right : list_all (form_holds_for_values form) (take (n + 1) lists) ≡ (list_all (form_holds_for_values form) (take n lists) && form_holds_for_values form found.0) =
        ap (list_all (form_holds_for_values form)) (take-next lists n found.0 found.1) ∙ all-more (form_holds_for_values form) (take n lists) found.0 in
        let rest = counted n (omega arith) in
        let here = holds-met lists n found.0 form found.1 in
        ap (λ k. list_all (λ j. demand_is_met_by_run lists (demand_form_holds_in_copy j form)) (range_with_len 0 k)) same ∙ left
        ∙ ap (λ b. b && demand_is_met_by_run lists (demand_form_holds_in_copy n form)) rest ∙ ap (λ b. list_all (form_holds_for_values form) (take n lists) && b) here
        ∙ sym right ∙ sym (ap (λ k. list_all (form_holds_for_values form) (take k lists)) same)

pub all-hold : (values : List ℕ) (forms : List Tree) → form_holds_for_values (all_of (trees_from_list forms)) values ≡ list_all (tree_holds values) forms
all-hold values forms = each_holds-trees_from_list values forms
