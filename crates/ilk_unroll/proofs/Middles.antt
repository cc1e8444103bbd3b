-- The parts of a run before and after one of its value lists are runs.
use Rattle.std.proofs.Common.{◌≡◌, ℕ, zero, suc, ◌≤◌, List, [], ◌∷◌, length, take, drop, slice_get, Option, Some, sym, ap, ◌∙◌, arith}
use Rattle.std.specs.Prelude.{option_map, option_and_then}
use Rattle.std.proofs.lemmas.Option.{same_Some}
use Rattle.ilk_base.proofs.Options.{mapped-Some, bind_some}
use Rattle.ilk_ir.specs.System.{PlainSystem, after_rule_number}
use Rattle.ilk_unroll.specs.Run.{run_firing_rules}

-- The values with number `j`, the run up to them, and the run from them.
pub record IsMiddle (s : PlainSystem) (first rules : List ℕ) (run : List (List ℕ)) (j : ℕ) : Type 0 where
  pub values : List ℕ
  pub at : slice_get run j ≡ Some values
  pub before : run_firing_rules s first (take j rules) ≡ Some (take (suc j) run)
  pub after : run_firing_rules s values (drop j rules) ≡ Some (drop j run)

begins : (s : PlainSystem) (first rules : List ℕ) (run : List (List ℕ)) → run_firing_rules s first rules ≡ Some run → (rest : List (List ℕ)) × (first ∷ rest ≡ run)
begins s first [] run is = ([], same_Some (first ∷ []) run is)
begins s first (rule ∷ rules) run is =
    let outer = mapped-Some (λ (u : List (List ℕ)). first ∷ u) (option_and_then (λ next. run_firing_rules s next rules) (after_rule_number s rule first)) run is in
    (outer.0, outer.2)

pub middle : (s : PlainSystem) (rules first : List ℕ) (run : List (List ℕ)) (j : ℕ) → j ≤ length rules → run_firing_rules s first rules ≡ Some run → IsMiddle s first rules run j
middle s rules first run zero h is =
    let b = begins s first rules run is in
    record {
      values = first;
      at = ap (λ (u : List (List ℕ)). slice_get u 0) (sym b.1);
      before = ap (λ (u : List (List ℕ)). Some (take 1 u)) b.1;
      after = is;
    }
middle s [] first run (suc j) h is = absurd (omega arith)
middle s (rule ∷ rules) first run (suc j) h is =
    let outer = mapped-Some (λ (u : List (List ℕ)). first ∷ u) (option_and_then (λ next. run_firing_rules s next rules) (after_rule_number s rule first)) run is in
    let inner = bind_some (after_rule_number s rule first) (λ next. run_firing_rules s next rules) outer.0 outer.1 in
    let m = middle s rules inner.0 outer.0 j (omega arith) inner.2 in
    let e : first ∷ outer.0 ≡ run = outer.2 in
    record {
      values = m.values;
      at = ap (λ (u : List (List ℕ)). slice_get u (suc j)) (sym e) ∙ m.at;
      before = ap (λ (o : Option (List ℕ)). option_map (λ u. first ∷ u) (option_and_then (λ xs. run_firing_rules s xs (take j rules)) o)) inner.1
          ∙ ap (λ (o : Option (List (List ℕ))). option_map (λ u. first ∷ u) o) m.before
          ∙ ap (λ (u : List (List ℕ)). Some (take (suc (suc j)) u)) e;
      after = m.after ∙ ap (λ (u : List (List ℕ)). Some (drop (suc j) u)) e;
    }
