-- The queries of the order are valid.
use Rattle.std.proofs.Common.{◌≡◌, ℕ, zero, suc, ◌+◌, ◌-◌, ◌≤◌, true, List, ◌∷◌, map, Option, Some, None, refl, sym, ap, ◌∙◌, arith}
use Rattle.std.specs.Prelude.{IfSome}
use Rattle.std.specs.List.{list_all, range_with_len}
use Rattle.std.proofs.lemmas.Bool.{and_from, and_parts, le-leb, lt-ltb}
use Rattle.std.proofs.lemmas.List.Folds.{list_all-append, list_all-map}
use Rattle.ilk_base.proofs.Ranges.{listed_all-more}
use Rattle.ilk_ir.specs.System.{PlainSystem}
use Rattle.ilk_lines.specs.Lines.{Bytes}
use Rattle.ilk_unroll.specs.declared.queries.Wanted.TheVariants.{Hazard, Breach}
use Rattle.ilk_unroll.specs.Goal.{PlainGoalForms, step_count_is_allowed}
use Rattle.ilk_unroll.specs.Query.{query_formula}
use Rattle.ilk_unroll.specs.Satisfied.{IsSatisfiable}
use Rattle.ilk_certificate.specs.declared.asked.Asked.{Asked}
use Rattle.ilk_induct.specs.Order.{queries_of_length, queries_below, queries_to_depth_given_breach, IsPrefix}
use Rattle.ilk_induct.specs.Spent.{IsSpentText}

queries_of_length-valid : (n : ℕ) → n ≤ 16 → list_all step_count_is_allowed (queries_of_length n) ≡ true
queries_of_length-valid zero low = refl
queries_of_length-valid (suc n) low = rw (le-leb (suc n) 16 low, lt-ltb 0 (suc n) (omega arith)) refl

queries_below-valid : (n : ℕ) → n ≤ 17 → list_all step_count_is_allowed (queries_below n) ≡ true
queries_below-valid zero low = refl
queries_below-valid (suc n) low =
    let one : suc n ≡ n + 1 = omega arith in
    ap (λ (k : ℕ). list_all step_count_is_allowed (queries_below k)) one
    ∙ ap (list_all step_count_is_allowed) (listed_all-more queries_of_length n)
    ∙ list_all-append step_count_is_allowed (queries_below n) (queries_of_length n)
    ∙ and_from _ _ (queries_below-valid n (omega arith)) (queries_of_length-valid n (omega arith))

hazards-valid : (a n : ℕ) → a + n ≤ 17 → list_all step_count_is_allowed (map Hazard (range_with_len a n)) ≡ true
hazards-valid a zero low = refl
hazards-valid a (suc n) low = and_from _ _ (le-leb a 16 (omega arith)) (hazards-valid (a + 1) n (omega arith))

order-valid : (breach : Option ℕ) (depth : ℕ) → depth ≤ 16 → IfSome breach (λ b. b ≤ depth) → list_all step_count_is_allowed (queries_to_depth_given_breach breach depth) ≡ true
order-valid None depth low within = queries_below-valid (depth + 1) (omega arith)
order-valid (Some b) depth low within =
    let base : step_count_is_allowed (Hazard b) ≡ true = le-leb b 16 (omega (arith, low, within)) in
    let later = hazards-valid (b + 1) (depth - b) (omega (arith, low, within)) in
    list_all-append step_count_is_allowed (queries_below b) (Hazard b ∷ Breach b ∷ map Hazard (range_with_len (b + 1) (depth - b)))
    ∙ and_from _ _ (queries_below-valid b (omega (arith, low, within))) (and_from _ _ base (and_from _ _ base later))

pub prefix-valid : (asked : List Asked) (breach : Option ℕ) (depth : ℕ) → depth ≤ 16 →
    IfSome breach (λ b. b ≤ depth) →
    IsPrefix (map (λ (a : Asked). a.query) asked) (queries_to_depth_given_breach breach depth) →
    list_all (λ (a : Asked). step_count_is_allowed a.query) asked ≡ true
prefix-valid asked breach depth low within p =
    let queries = map (λ (a : Asked). a.query) asked in
    let all = sym (list_all-append step_count_is_allowed queries p.0) ∙ ap (list_all step_count_is_allowed) p.1 ∙ order-valid breach depth low within in
    sym (list_all-map step_count_is_allowed (λ (a : Asked). a.query) asked) ∙ (and_parts (list_all step_count_is_allowed queries) (list_all step_count_is_allowed p.0) all).0

pub spent-valid : (s : PlainSystem) (g : PlainGoalForms) (depth n : ℕ) (bytes : Bytes) → depth ≤ 16 → (t : IsSpentText s g depth n bytes) → list_all (λ (a : Asked). step_count_is_allowed a.query) t.asked ≡ true
spent-valid s g depth n bytes low t =
    let are = t.given_up.1 in
    prefix-valid t.asked t.breach depth low (within t.breach are.found) are.order
  where
    within : (breach : Option ℕ) → IfSome breach (λ b. (b ≤ depth) × IsSatisfiable (query_formula s g (Breach b))) → IfSome breach (λ b. b ≤ depth)
    within None found = tt
    within (Some b) found = found.0
