use Rattle.std.proofs.Common.{◌≡◌, ◌⊎◌, ℕ, inl, inr, Bool, true, false, ◌||◌, not, eqb, List, [], ◌∷◌, ◌++◌, refl, sym, ap, ◌∙◌}
use Rattle.std.specs.List.{filter}
use Rattle.std.proofs.lemmas.Bool.{and_parts, and_from, or_cases, or_parts, or_from, or_left, or_right, cases_Bool, eqb-true, eqb-false, ne_eqb, cond_both, not-true, not_from_false, true≢false}
use Rattle.std.proofs.lemmas.List.Folds.{list_any-append}
use Rattle.ilk_cnf.specs.Literal.{Literal, same_lit, has_lit, has_var, has_distinct_vars}
use Rattle.ilk_cnf.specs.Formula.{is_lit_over, is_clause_over}
use Rattle.ilk_cnf.proofs.Literals.{has_distinct_vars-push}
use Rattle.ilk_trail.proofs.Literals.{is_clause_over-push}
use Rattle.ilk_learn.specs.Resolvent.{without_variable, with_lit_of_new_var, with_lits_of_new_vars}
use Rattle.ilk_cnf.proofs.SameLiterals.{same-lit, lit-is, has-var, is_lit_over-clause}

abbrev pub Has : Literal → List Literal → Type 0
Has l c = has_lit l c ≡ true

pub var-of : (c : List Literal) (v : ℕ) → has_var v c ≡ true → (l : Literal) × (l.var ≡ v) × (has_lit l c ≡ true)
var-of [] v h = absurd (cc)
var-of (m ∷ c) v h =
    elim (or_cases (eqb m.var v) (has_var v c) h) [
      | inl e ↦ (m, eqb-true m.var v e, or_left (same_lit m m) (has_lit m c) (same-lit m))
      | inr r ↦ (let f = var-of c v r in (f.0, f.1, or_right (same_lit f.0 m) (has_lit f.0 c) f.2))
    ]

pub no-var : (c : List Literal) (l : Literal) → has_var l.var c ≡ false → has_lit l c ≡ true → ⊥
no-var c l n h = true≢false (sym (has-var l c h) ∙ n)

pub same-var : (c : List Literal) (a b : Literal) → has_distinct_vars c ≡ true → has_lit a c ≡ true → has_lit b c ≡ true → a.var ≡ b.var → a ≡ b
same-var [] a b d h k e = absurd (cc)
same-var (m ∷ c) a b d h k e =
    let p = and_parts (not (has_var m.var c)) (has_distinct_vars c) d in
    let away : has_var m.var c ≡ false = not-true (has_var m.var c) p.0 in
    elim (or_cases (same_lit a m) (has_lit a c) h) [
      | inl x ↦ elim (or_cases (same_lit b m) (has_lit b c) k) [
        | inl y ↦ lit-is a m x ∙ sym (lit-is b m y)
        | inr y ↦ absurd (no-var c b (ap (λ (v : ℕ). has_var v c) (sym e ∙ ap (λ (l : Literal). l.var) (lit-is a m x)) ∙ away) y)
      ]
      | inr x ↦ elim (or_cases (same_lit b m) (has_lit b c) k) [
        | inl y ↦ absurd (no-var c a (ap (λ (v : ℕ). has_var v c) (e ∙ ap (λ (l : Literal). l.var) (lit-is b m y)) ∙ away) x)
        | inr y ↦ same-var c a b p.1 x y e
      ]
    ]

pub kept-from : (p : Literal → Bool) (c : List Literal) (l : Literal) → has_lit l (filter p c) ≡ true → (has_lit l c ≡ true) × (p l ≡ true)
kept-from p [] l h = absurd (cc)
kept-from p (m ∷ c) l h =
    elim (cases_Bool (p m)) [
      | inl t ↦ (let k : (same_lit l m || has_lit l (filter p c)) ≡ true = rw t at h in
          elim (or_cases (same_lit l m) (has_lit l (filter p c)) k) [
            | inl e ↦ (or_left (same_lit l m) (has_lit l c) e, ap p (lit-is l m e) ∙ t)
            | inr r ↦ (let q = kept-from p c l r in (or_right (same_lit l m) (has_lit l c) q.0, q.1))
          ])
      | inr t ↦ (let q = kept-from p c l (rw t at h) in (or_right (same_lit l m) (has_lit l c) q.0, q.1))
    ]

pub kept-at : (p : Literal → Bool) (c : List Literal) (l : Literal) → has_lit l c ≡ true → p l ≡ true → has_lit l (filter p c) ≡ true
kept-at p [] l h k = absurd (cc)
kept-at p (m ∷ c) l h k =
    elim (or_cases (same_lit l m) (has_lit l c) h) [
      | inl e ↦ (let t : p m ≡ true = ap p (sym (lit-is l m e)) ∙ k in rw t (or_left (same_lit l m) (has_lit l (filter p c)) e))
      | inr r ↦ (let q = kept-at p c l r k in
          elim (cases_Bool (p m)) [ inl t ↦ rw t (or_right (same_lit l m) (has_lit l (filter p c)) q) | inr t ↦ rw t q ])
    ]

pub var-kept : (p : Literal → Bool) (c : List Literal) (v : ℕ) → has_var v c ≡ false → has_var v (filter p c) ≡ false
var-kept p [] v h = refl
var-kept p (m ∷ c) v h =
    let q = or_parts (eqb m.var v) (has_var v c) h in
    elim (cases_Bool (p m)) [
      | inl t ↦ rw t (or_from (eqb m.var v) (has_var v (filter p c)) q.0 (var-kept p c v q.1))
      | inr t ↦ rw t (var-kept p c v q.1)
    ]

pub differ-kept : (p : Literal → Bool) (c : List Literal) → has_distinct_vars c ≡ true → has_distinct_vars (filter p c) ≡ true
differ-kept p [] h = refl
differ-kept p (m ∷ c) h =
    let q = and_parts (not (has_var m.var c)) (has_distinct_vars c) h in
    elim (cases_Bool (p m)) [
      | inl t ↦ rw t (and_from (not (has_var m.var (filter p c))) (has_distinct_vars (filter p c)) (not_from_false (has_var m.var (filter p c)) (var-kept p c m.var (not-true (has_var m.var c) q.0))) (differ-kept p c q.1))
      | inr t ↦ rw t (differ-kept p c q.1)
    ]

pub within-kept : (n : ℕ) (p : Literal → Bool) (c : List Literal) → is_clause_over n c ≡ true → is_clause_over n (filter p c) ≡ true
within-kept n p [] h = refl
within-kept n p (m ∷ c) h =
    let q = and_parts (is_lit_over n m) (is_clause_over n c) h in
    elim (cases_Bool (p m)) [
      | inl t ↦ rw t (and_from (is_lit_over n m) (is_clause_over n (filter p c)) q.0 (within-kept n p c q.1))
      | inr t ↦ rw t (within-kept n p c q.1)
    ]

pub from-without : (v : ℕ) (c : List Literal) (l : Literal) → has_lit l (without_variable v c) ≡ true → (has_lit l c ≡ true) × (l.var ≡ v → ⊥)
from-without v c l h =
    let q = kept-from (λ m. not (eqb m.var v)) c l h in
    (q.0, eqb-false l.var v (not-true (eqb l.var v) q.1))

pub in-without : (v : ℕ) (c : List Literal) (l : Literal) → has_lit l c ≡ true → (l.var ≡ v → ⊥) → has_lit l (without_variable v c) ≡ true
in-without v c l h n = kept-at (λ m. not (eqb m.var v)) c l h (not_from_false (eqb l.var v) (ne_eqb l.var v n))

pub none-without : (v : ℕ) (c : List Literal) → has_var v (without_variable v c) ≡ false
none-without v [] = refl
none-without v (m ∷ c) =
    elim (cases_Bool (eqb m.var v)) [
      | inl t ↦ rw t (none-without v c)
      | inr t ↦ rw t (or_from (eqb m.var v) (has_var v (without_variable v c)) t (none-without v c))
    ]

pub with_lit_of_new_var-both : (P : List Literal → Type 0) (c : List Literal) (l : Literal) → (has_var l.var c ≡ true → P c) → (has_var l.var c ≡ false → P (c ++ l ∷ [])) → P (with_lit_of_new_var c l)
with_lit_of_new_var-both P c l f g = cond_both (has_var l.var c) c (c ++ l ∷ []) P f g

has-left : (m : Literal) (c d : List Literal) → has_lit m c ≡ true → has_lit m (c ++ d) ≡ true
has-left m c d h = list_any-append (same_lit m) c d ∙ or_left (has_lit m c) (has_lit m d) h

pub var-push : (v : ℕ) (c : List Literal) (l : Literal) → has_var v (c ++ l ∷ []) ≡ (has_var v c || (eqb l.var v || false))
var-push v c l = list_any-append (λ (m : Literal). eqb m.var v) c (l ∷ [])

pub joined-left : (m : Literal) (c d : List Literal) → has_lit m c ≡ true → has_lit m (with_lits_of_new_vars c d) ≡ true
joined-left m c [] h = h
joined-left m c (l ∷ d) h =
    joined-left m (with_lit_of_new_var c l) d (with_lit_of_new_var-both (λ x. has_lit m x ≡ true) c l (λ _. h) (λ _. has-left m c (l ∷ []) h))

pub joined-from : (m : Literal) (c d : List Literal) → has_lit m (with_lits_of_new_vars c d) ≡ true → (has_lit m c ≡ true) ⊎ (has_lit m d ≡ true)
joined-from m c [] h = inl h
joined-from m c (l ∷ d) h =
    elim (joined-from m (with_lit_of_new_var c l) d h) [
      | inl k ↦ with_lit_of_new_var-both (λ x. has_lit m x ≡ true → (has_lit m c ≡ true) ⊎ (has_lit m (l ∷ d) ≡ true)) c l (λ _ k. inl k)
          (λ _ k. elim (or_cases (has_lit m c) (same_lit m l || false) (sym (list_any-append (same_lit m) c (l ∷ [])) ∙ k)) [
            | inl a ↦ inl a
            | inr a ↦ elim (or_cases (same_lit m l) false a) [ inl e ↦ inr (or_left (same_lit m l) (has_lit m d) e) | inr n ↦ absurd (cc) ]
          ]) k
      | inr k ↦ inr (or_right (same_lit m l) (has_lit m d) k)
    ]

pub joined-var-left : (v : ℕ) (c d : List Literal) → has_var v c ≡ true → has_var v (with_lits_of_new_vars c d) ≡ true
joined-var-left v c d h =
    let f = var-of c v h in
    ap (λ (w : ℕ). has_var w (with_lits_of_new_vars c d)) (sym f.1) ∙ has-var f.0 (with_lits_of_new_vars c d) (joined-left f.0 c d f.2)

pub joined-var-right : (v : ℕ) (c d : List Literal) → has_var v d ≡ true → has_var v (with_lits_of_new_vars c d) ≡ true
joined-var-right v c [] h = absurd (cc)
joined-var-right v c (l ∷ d) h =
    elim (or_cases (eqb l.var v) (has_var v d) h) [
      | inl e ↦ joined-var-left v (with_lit_of_new_var c l) d
          (with_lit_of_new_var-both (λ x. has_var v x ≡ true) c l
          (λ t. ap (λ (w : ℕ). has_var w c) (sym (eqb-true l.var v e)) ∙ t)
          (λ _. var-push v c l
          ∙ or_right (has_var v c) (eqb l.var v || false) (or_left (eqb l.var v) false e)))
      | inr r ↦ joined-var-right v (with_lit_of_new_var c l) d r
    ]

pub joined-differ : (c d : List Literal) → has_distinct_vars c ≡ true → has_distinct_vars (with_lits_of_new_vars c d) ≡ true
joined-differ c [] h = h
joined-differ c (l ∷ d) h = joined-differ (with_lit_of_new_var c l) d (with_lit_of_new_var-both (λ x. has_distinct_vars x ≡ true) c l (λ _. h) (λ n. has_distinct_vars-push c l h n))

pub joined-within : (n : ℕ) (c d : List Literal) → is_clause_over n c ≡ true → is_clause_over n d ≡ true → is_clause_over n (with_lits_of_new_vars c d) ≡ true
joined-within n c [] h k = h
joined-within n c (l ∷ d) h k =
    let p = and_parts (is_lit_over n l) (is_clause_over n d) k in
    joined-within n (with_lit_of_new_var c l) d (with_lit_of_new_var-both (λ x. is_clause_over n x ≡ true) c l (λ _. h) (λ _. is_clause_over-push n c l h p.0)) p.1

pub front-from : (l m : Literal) (c : List Literal) → has_lit l c ≡ true → has_lit m (l ∷ without_variable l.var c) ≡ true → has_lit m c ≡ true
front-from l m c h k =
    elim (or_cases (same_lit m l) (has_lit m (without_variable l.var c)) k) [
      | inl e ↦ ap (λ (x : Literal). has_lit x c) (lit-is m l e) ∙ h
      | inr r ↦ (from-without l.var c m r).0
    ]

pub front-has : (l m : Literal) (c : List Literal) → has_distinct_vars c ≡ true → has_lit l c ≡ true → has_lit m c ≡ true → has_lit m (l ∷ without_variable l.var c) ≡ true
front-has l m c d h k =
    elim (cases_Bool (eqb m.var l.var)) [
      | inl e ↦ or_left (same_lit m l) (has_lit m (without_variable l.var c)) (ap (λ (x : Literal). same_lit m x) (sym (same-var c m l d k h (eqb-true m.var l.var e))) ∙ same-lit m)
      | inr e ↦ or_right (same_lit m l) (has_lit m (without_variable l.var c)) (in-without l.var c m k (eqb-false m.var l.var e))
    ]

pub front-differ : (l : Literal) (c : List Literal) → has_distinct_vars c ≡ true → has_distinct_vars (l ∷ without_variable l.var c) ≡ true
front-differ l c d =
    and_from (not (has_var l.var (without_variable l.var c))) (has_distinct_vars (without_variable l.var c)) (not_from_false (has_var l.var (without_variable l.var c)) (none-without l.var c)) (differ-kept (λ m. not (eqb m.var l.var)) c d)

pub each-within : (n : ℕ) (c d : List Literal) → ((m : Literal) → has_lit m c ≡ true → has_lit m d ≡ true) → is_clause_over n d ≡ true → is_clause_over n c ≡ true
each-within n [] d f h = refl
each-within n (m ∷ c) d f h =
    and_from (is_lit_over n m) (is_clause_over n c) (is_lit_over-clause n d m h (f m (or_left (same_lit m m) (has_lit m c) (same-lit m)))) (each-within n c d (λ x k. f x (or_right (same_lit x m) (has_lit x c) k)) h)
