use Rattle.std.proofs.Common.{◌≡◌, ℕ, ◌+◌, ◌<◌, ◌≤◌, inl, inr, true, false, eqb, List, [], ◌∷◌, ◌++◌, length, map, refl, sym, ◌∙◌, arith}
use Rattle.std.specs.List.{list_any, IsDistinct, AllByRecursion}
use Rattle.std.proofs.lemmas.List.{length-map}
use Rattle.std.proofs.lemmas.List.Folds.{list_any-append}
use Rattle.std.proofs.lemmas.Bool.{and_parts, and_from, or_cases, or_parts, or_from, eqb-true, eqb-false, ne_eqb, not-true, not_from_false}
use Rattle.std.proofs.lemmas.Map.Keys.{IsDistinct-cons}
use Rattle.std.proofs.lemmas.Map.Steps.{length-le_from_distinct_below}
use Rattle.ilk_cnf.specs.Literal.{Literal, has_var, has_distinct_vars}
use Rattle.ilk_cnf.specs.Formula.{is_lit_over, is_clause_over}
use Rattle.ilk_cnf.proofs.Literals.{is_lit_over-parts}

pub has_distinct_vars-front : (ls : List Literal) (l : Literal) → has_distinct_vars (ls ++ l ∷ []) ≡ true → (has_distinct_vars ls ≡ true) × (has_var l.var ls ≡ false)
has_distinct_vars-front [] l h = (refl, refl)
has_distinct_vars-front (m ∷ ls) l h =
    let p = and_parts _ _ h in
    let away = or_parts (has_var m.var ls) _ (sym (list_any-append (λ (x : Literal). eqb x.var m.var) ls (l ∷ [])) ∙ not-true (has_var m.var (ls ++ l ∷ [])) p.0) in
    let r = has_distinct_vars-front ls l p.1 in
    let other : eqb m.var l.var ≡ false = ne_eqb m.var l.var (λ e. eqb-false l.var m.var (or_parts _ _ away.1).0 (sym e)) in
    (and_from _ _ (not_from_false _ away.0) r.0, or_from _ _ other r.1)

pub is_clause_over-push : (n : ℕ) (ls : List Literal) (l : Literal) → is_clause_over n ls ≡ true → is_lit_over n l ≡ true → is_clause_over n (ls ++ l ∷ []) ≡ true
is_clause_over-push n [] l h k = and_from _ _ k refl
is_clause_over-push n (m ∷ ls) l h k = (let p = and_parts _ _ h in and_from _ _ p.0 (is_clause_over-push n ls l p.1 k))

pub is_clause_over-front : (n : ℕ) (ls : List Literal) (l : Literal) → is_clause_over n (ls ++ l ∷ []) ≡ true → (is_clause_over n ls ≡ true) × (is_lit_over n l ≡ true)
is_clause_over-front n [] l h = (refl, (and_parts _ _ h).0)
is_clause_over-front n (m ∷ ls) l h =
    let p = and_parts _ _ h in
    let r = is_clause_over-front n ls l p.1 in
    (and_from _ _ p.0 r.0, r.1)

vars_of : List Literal → List ℕ
vars_of ls = map (λ (l : Literal). l.var) ls

all_other : (v : ℕ) (ls : List Literal) → has_var v ls ≡ false → AllByRecursion (λ y. eqb v y ≡ false) (map (λ (l : Literal). l.var) ls)
all_other v [] h = tt
all_other v (l ∷ ls) h =
    let p = or_parts _ _ h in
    (ne_eqb v l.var (λ e. eqb-false l.var v p.0 (sym e)), all_other v ls p.1)

vars_apart : (ls : List Literal) → has_distinct_vars ls ≡ true → IsDistinct eqb (map (λ (l : Literal). l.var) ls)
unfolding IsDistinct
vars_apart [] h = tt
vars_apart (l ∷ ls) h =
    let p = and_parts _ _ h in
    IsDistinct-cons eqb l.var (map (λ (m : Literal). m.var) ls) (all_other l.var ls (not-true (has_var l.var ls) p.0)) (vars_apart ls p.1)

var_below : (n q : ℕ) (ls : List Literal) → is_clause_over n ls ≡ true → list_any (eqb q) (map (λ (l : Literal). l.var) ls) ≡ true → q < n + 1
var_below n q [] h s = absurd (cc)
var_below n q (l ∷ ls) h s =
    let p = and_parts _ _ h in
    elim (or_cases (eqb q l.var) _ s) [
      | inl e ↦ (let w = is_lit_over-parts n l p.0 in omega (arith, eqb-true q l.var e, w.1))
      | inr r ↦ var_below n q ls p.1 r
    ]

pub count_of_vars : (n : ℕ) (ls : List Literal) → is_clause_over n ls ≡ true → has_distinct_vars ls ≡ true → length ls ≤ n + 1
count_of_vars n ls h d =
    let vs : List ℕ = map (λ (l : Literal). l.var) ls in
    let b : length vs ≤ n + 1 = length-le_from_distinct_below vs (n + 1) (vars_apart ls d) (λ q s. var_below n q ls h s) in
    let e : length vs ≡ length ls = length-map ls (λ (l : Literal). l.var) in
    omega (arith, b, e)
