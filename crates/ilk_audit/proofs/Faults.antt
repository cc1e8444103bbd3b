-- The literals of a step, from the last to the first.
use Rattle.std.proofs.Common.{◌≡◌, ℕ, ◌+◌, ◌<◌, ◌≤◌, inl, inr, Bool, true, false, ◌&&◌, ◌||◌, not, eqb, List, [], ◌∷◌, drop, get_or, length, refl, sym, ap, ◌∙◌, arith, suc, zero}
use Rattle.std.proofs.lemmas.List.{drop_more}
use Rattle.std.proofs.lemmas.Bool.{cases_Bool, and_parts, and_from, not-true, true≢false}
use Rattle.ilk_base.proofs.Lists.{drop_at as item-drop}
use Rattle.ilk_cnf.specs.Literal.{Literal, has_lit, has_var, negated_lit, has_distinct_vars}
use Rattle.ilk_cnf.specs.Formula.{is_clause_over, is_lit_over}
use Rattle.ilk_cnf.proofs.SameLiterals.{has-var}
use Rattle.ilk_log.specs.Derived.{negated_clause}
use Rattle.ilk_log.specs.Propagation.{is_false}
use Rattle.ilk_audit.specs.Hinted.{status_of_hinted_clause}
use Rattle.ilk_audit.specs.Taken.{why_hints_reach_no_conflict, has_hint_left}
use Rattle.ilk_audit.specs.declared.hinted.ClauseStatus.{ClauseStatus}
use Rattle.ilk_cnf.proofs.Gates.{negated_lit-negated_lit}
use Rattle.ilk_audit.proofs.Scans.{by_found, hints-found}
use Rattle.ilk_audit.proofs.Tables.{var-unset}

abbrev pub is_clause : ℕ → List Literal → Bool
is_clause n c = is_clause_over n c && has_distinct_vars c

pub negated_clause-vars : (v : ℕ) (c : List Literal) → has_var v (negated_clause c) ≡ has_var v c
negated_clause-vars v [] = refl
negated_clause-vars v (l ∷ c) = ap (λ b. eqb l.var v || b) (negated_clause-vars v c)

pub clause-more : (n : ℕ) (l : Literal) (c : List Literal) → is_clause n c ≡ true → is_lit_over n l ≡ true → has_var l.var c ≡ false → is_clause n (l ∷ c) ≡ true
clause-more n l c h w u = (let p = and_parts (is_clause_over n c) (has_distinct_vars c) h in rw (w, u, p.0, p.1) refl)

pub clause-bad : (n : ℕ) (l : Literal) (c : List Literal) → (is_lit_over n l && not (has_var l.var c)) ≡ false → is_clause n (l ∷ c) ≡ false
clause-bad n l c h = elim (cases_Bool (is_clause n (l ∷ c))) [
  | inl t ↦ (let p = and_parts (is_lit_over n l && is_clause_over n c) (not (has_var l.var c) && has_distinct_vars c) t in
      let a = and_parts (is_lit_over n l) (is_clause_over n c) p.0 in
      let b = and_parts (not (has_var l.var c)) (has_distinct_vars c) p.1 in
      absurd (true≢false (sym (and_from (is_lit_over n l) (not (has_var l.var c)) a.0 b.0) ∙ h)))
  | inr f ↦ f
]

clause-end : (n : ℕ) (c : List Literal) (i : ℕ) → is_clause n c ≡ true → is_clause n (drop i c) ≡ true
clause-end n c zero h = h
clause-end n [] (suc i) h = refl
clause-end n (l ∷ c) (suc i) h =
    let p = and_parts (is_lit_over n l && is_clause_over n c) (not (has_var l.var c) && has_distinct_vars c) h in
    let a = and_parts (is_lit_over n l) (is_clause_over n c) p.0 in
    let b = and_parts (not (has_var l.var c)) (has_distinct_vars c) p.1 in
    clause-end n c i (and_from (is_clause_over n c) (has_distinct_vars c) a.1 b.1)

pub clause-bad_end : (n : ℕ) (c : List Literal) (i : ℕ) → is_clause n (drop i c) ≡ false → is_clause n c ≡ false
clause-bad_end n c i h = elim (cases_Bool (is_clause n c)) [
  | inl t ↦ absurd (true≢false (sym (clause-end n c i t) ∙ h))
  | inr f ↦ f
]

pub unset-is : (l : Literal) (set : List Literal) → (not (is_false set l) && not (is_false set (negated_lit l))) ≡ not (has_var l.var set)
unset-is l set =
    elim (cases_Bool (is_false set l)) [
      | inl t ↦ rw (t, has-var (negated_lit l) set t) refl
      | inr f ↦ elim (cases_Bool (is_false set (negated_lit l))) [
        | inl t ↦ (let h : has_lit l set ≡ true = ap (λ (m : Literal). has_lit m set) (sym (negated_lit-negated_lit l)) ∙ t in rw (f, t, has-var l set h) refl)
        | inr g ↦ (let h : has_lit l set ≡ false = ap (λ (m : Literal). has_lit m set) (sym (negated_lit-negated_lit l)) ∙ g in rw (f, g, var-unset l set h f) refl)
      ]
    ]

pub next-literal : (n : ℕ) (c : List Literal) (i : ℕ) (l : Literal) → i < length c → l ≡ get_or c i l →
    is_clause n (drop (i + 1) c) ≡ true →
    (is_lit_over n l && not (has_var l.var (negated_clause (drop (i + 1) c)))) ≡ true →
    (is_clause n (drop i c) ≡ true) × (negated_clause (drop i c) ≡ negated_lit l ∷ negated_clause (drop (i + 1) c))
next-literal n c i l at is h new =
    let e = item-drop c i l at is in
    let p = and_parts (is_lit_over n l) (not (has_var l.var (negated_clause (drop (i + 1) c)))) new in
    let u : has_var l.var (drop (i + 1) c) ≡ false = sym (negated_clause-vars l.var (drop (i + 1) c)) ∙ not-true (has_var l.var (negated_clause (drop (i + 1) c))) p.1 in
    (ap (is_clause n) e ∙ clause-more n l (drop (i + 1) c) h p.0 u, ap negated_clause e)

pub bad-literal : (n : ℕ) (c : List Literal) (i : ℕ) (l : Literal) → i < length c → l ≡ get_or c i l → (is_lit_over n l && not (has_var l.var (negated_clause (drop (i + 1) c)))) ≡ false → is_clause n c ≡ false
bad-literal n c i l at is bad =
    let e = item-drop c i l at is in
    let o : (is_lit_over n l && not (has_var l.var (drop (i + 1) c))) ≡ false = ap (λ b. is_lit_over n l && not b) (sym (negated_clause-vars l.var (drop (i + 1) c))) ∙ bad in
    clause-bad_end n c i (ap (is_clause n) e ∙ clause-bad n l (drop (i + 1) c) o)

pub record AtHints (clauses : List (List Literal)) (start : List Literal) (whole : List ℕ) (set : List Literal) (rest : List ℕ) : Type 0 where
  pub fault : why_hints_reach_no_conflict clauses set rest ≡ why_hints_reach_no_conflict clauses start whole

pub hint-next :
    (clauses : List (List Literal)) (start : List Literal) (whole : List ℕ) (set : List Literal) (i h : ℕ)
    (found : ClauseStatus) →
    AtHints clauses start whole set (drop i whole) → i < length whole → h ≡ get_or whole i 0 →
    found ≡ status_of_hinted_clause clauses set h →
    by_found clauses set (drop (i + 1) whole) found ≡ why_hints_reach_no_conflict clauses start whole
hint-next clauses start whole set i h found a at is e =
    ap (by_found clauses set (drop (i + 1) whole)) e
    ∙ sym (hints-found clauses set h (drop (i + 1) whole))
    ∙ ap (λ k. why_hints_reach_no_conflict clauses set (k ∷ drop (i + 1) whole)) is
    ∙ sym (ap (why_hints_reach_no_conflict clauses set) (drop_more whole i 0 at))
    ∙ a.fault

pub some-left_drop : (hints : List ℕ) (i : ℕ) → i < length hints → has_hint_left (drop i hints) ≡ true
some-left_drop [] i h = absurd (omega arith)
some-left_drop (k ∷ hints) zero h = refl
some-left_drop (k ∷ hints) (suc i) h = some-left_drop hints i (omega arith)

pub none-left_drop : (hints : List ℕ) (i : ℕ) → length hints ≤ i → has_hint_left (drop i hints) ≡ false
none-left_drop [] zero h = refl
none-left_drop [] (suc i) h = refl
none-left_drop (k ∷ hints) zero h = absurd (omega arith)
none-left_drop (k ∷ hints) (suc i) h = none-left_drop hints i (omega arith)
