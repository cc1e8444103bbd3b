use Rattle.std.proofs.Common.{◌≡◌, ℕ, suc, Bool, true, false, List, [], ◌∷◌, length, slice_get, Option, Some, refl, sym, ap, ◌∙◌, subst}
use Rattle.std.specs.Prelude.{option_map, option_and_then}
use Rattle.std.specs.List.{list_all}
use Rattle.std.proofs.lemmas.Bool.{and_from}
use Rattle.std.proofs.lemmas.Option.{same_Some}
use Rattle.ilk_base.specs.Option.{then_some}
use Rattle.ilk_base.proofs.Options.{mapped-Some, bind_some}
use Rattle.ilk_base.proofs.Tested.{list_all-slice_get}
use Rattle.ilk_ir.specs.Tree.{tree_holds}
use Rattle.ilk_ir.specs.System.{PlainRule, PlainSystem, rule_valid, in_ranges, after_settings, after_rule, after_rule_number}
use Rattle.ilk_ir.proofs.Ranges.{in_ranges-after_settings}
use Rattle.ilk_step.specs.Step.{values_after_rule_number}
use Rattle.ilk_step.proofs.RulesLaw.{rule_valid-settings}
use Rattle.ilk_unroll.specs.Run.{run_firing_rules}
use Rattle.ilk_unroll.proofs.CopiesLaw.{all_in_ranges}
use Rattle.ilk_unroll.proofs.StepsLaw.{Joined}

after_rule-in_ranges : (ranges ws xs : List ℕ) (r : PlainRule) → rule_valid ranges r ≡ true → in_ranges ws ranges ≡ true → after_rule r ws ≡ Some xs → in_ranges xs ranges ≡ true
after_rule-in_ranges ranges ws xs r valid h is = by_case (tree_holds ws r.guard) is
  where
    by_case : (b : Bool) → then_some b (after_settings ws r.sets) ≡ Some xs → in_ranges xs ranges ≡ true
    by_case true k = subst (λ (u : List ℕ). in_ranges u ranges ≡ true) (same_Some (after_settings ws r.sets) xs k) (in_ranges-after_settings r.sets ws ranges h (rule_valid-settings ranges r valid))
    by_case false k = absurd cc

step-in_ranges : (ranges ws xs : List ℕ) (rules : List PlainRule) (rule : ℕ) → list_all (rule_valid ranges) rules ≡ true → in_ranges ws ranges ≡ true → values_after_rule_number rules ws rule ≡ Some xs → in_ranges xs ranges ≡ true
step-in_ranges ranges ws xs rules rule valid h is =
    let at = bind_some (slice_get rules rule) (λ r. after_rule r ws) xs is in
    after_rule-in_ranges ranges ws xs at.0 (list_all-slice_get (rule_valid ranges) rules rule at.0 valid at.1) h at.2

pub record IsRunOf (s : PlainSystem) (first : List ℕ) (chosen : List ℕ) (run : List (List ℕ)) : Type 0 where
  pub rest : List (List ℕ)
  pub begins : run ≡ first ∷ rest
  pub many : length run ≡ suc (length chosen)
  pub joined : Joined s.rules run chosen
  pub in_range : all_in_ranges s.ranges run ≡ true

pub run-is : (s : PlainSystem) (chosen first : List ℕ) (run : List (List ℕ)) → list_all (rule_valid s.ranges) s.rules ≡ true → in_ranges first s.ranges ≡ true → run_firing_rules s first chosen ≡ Some run → IsRunOf s first chosen run
run-is s [] first run valid h is =
    let e : first ∷ [] ≡ run = same_Some (first ∷ []) run is in
    record {
      rest = [];
      begins = sym e;
      many = ap length (sym e);
      joined = subst (λ (u : List (List ℕ)). Joined s.rules u []) e refl;
      in_range = subst (λ (u : List (List ℕ)). all_in_ranges s.ranges u ≡ true) e (and_from _ _ h refl);
    }
run-is s (rule ∷ chosen) first run valid h is =
    let outer = mapped-Some (λ (u : List (List ℕ)). first ∷ u) (option_and_then (λ next. run_firing_rules s next chosen) (after_rule_number s rule first)) run is in
    let inner = bind_some (after_rule_number s rule first) (λ next. run_firing_rules s next chosen) outer.0 outer.1 in
    let next = inner.0 in
    let rec = run-is s chosen next outer.0 valid (step-in_ranges s.ranges first next s.rules rule valid h inner.1) inner.2 in
    let e : first ∷ outer.0 ≡ run = outer.2 in
    let split : first ∷ next ∷ rec.rest ≡ run = ap (λ (u : List (List ℕ)). first ∷ u) (sym rec.begins) ∙ e in
    let joined : Joined s.rules (next ∷ rec.rest) chosen = subst (λ (u : List (List ℕ)). Joined s.rules u chosen) rec.begins rec.joined in
    record {
      rest = outer.0;
      begins = sym e;
      many = ap length (sym e) ∙ ap suc rec.many;
      joined = subst (λ (u : List (List ℕ)). Joined s.rules u (rule ∷ chosen)) split (inner.1, joined);
      in_range = subst (λ (u : List (List ℕ)). all_in_ranges s.ranges u ≡ true) e (and_from _ _ h rec.in_range);
    }

pub joined-run : (s : PlainSystem) (run : List (List ℕ)) (first : List ℕ) (chosen : List ℕ) → Joined s.rules (first ∷ run) chosen → run_firing_rules s first chosen ≡ Some (first ∷ run)
joined-run s [] first [] h = refl
joined-run s [] first (rule ∷ chosen) h = absurd cc
joined-run s (next ∷ run) first [] h = absurd h
joined-run s (next ∷ run) first (rule ∷ chosen) h =
    ap (λ (o : Option (List ℕ)). option_map (λ u. first ∷ u) (option_and_then (λ xs. run_firing_rules s xs chosen) o)) h.0
    ∙ ap (λ (o : Option (List (List ℕ))). option_map (λ u. first ∷ u) o) (joined-run s run next chosen h.1)

pub joined-many : (rules : List PlainRule) (run : List (List ℕ)) (first : List ℕ) (chosen : List ℕ) → Joined rules (first ∷ run) chosen → length run ≡ length chosen
joined-many rules [] first [] h = refl
joined-many rules [] first (rule ∷ chosen) h = absurd cc
joined-many rules (next ∷ run) first [] h = absurd h
joined-many rules (next ∷ run) first (rule ∷ chosen) h = ap suc (joined-many rules run next chosen h.1)
