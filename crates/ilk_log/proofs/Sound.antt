-- Every assignment that satisfies the clauses satisfies the derived steps.
use Rattle.std.proofs.Common.{◌≡◌, ℕ, zero, suc, Bool, true, false, ◌&&◌, not, cond, List, [], ◌∷◌, ◌++◌, refl, sym, ap, ◌∙◌, subst, inl, inr, Some}
use Rattle.std.specs.List.{filter, list_all}
use Rattle.std.proofs.lemmas.Bool.{and_parts, and_from, or_cases, or_parts, or_from, or_left, or_right, cases_Bool, true≢false}
use Rattle.std.proofs.lemmas.Option.{cond_some, same_Some}
use Rattle.ilk_base.specs.Option.{◌>>=◌}
use Rattle.ilk_base.proofs.Tested.{list_any-at, list_all-slice_get, list_all-more}
use Rattle.ilk_base.proofs.Options.{some-and, bind_some}
use Rattle.ilk_cnf.specs.Literal.{Literal, negated_lit, same_lit, has_lit, has_distinct_vars}
use Rattle.ilk_cnf.specs.Formula.{Formula, is_clause_over}
use Rattle.ilk_cnf.specs.Truth.{value, is_true, is_clause_true, satisfies}
use Rattle.ilk_log.specs.declared.step.Step.{Step}
use Rattle.ilk_log.specs.Propagation.{is_false, is_falsified, only_lit_if_unset, unit_lit, clause_numbered, after_hint}
use Rattle.ilk_log.specs.Derived.{negated_clause, hints_end_in_conflict, is_derived, each_derived, is_derived_log, is_empty_clause, only_last_clause_is_empty, is_refutation}
use Rattle.ilk_cnf.proofs.SameLiterals.{lit-is}

set-true : (a : List Bool) (set : List Literal) (l : Literal) → list_all (is_true a) set ≡ true → has_lit l set ≡ true → is_true a l ≡ true
set-true a set l h s =
    let k = list_any-at (same_lit l) set s in
    let e : l ≡ k.1 = lit-is l k.1 k.3 in
    ap (is_true a) e ∙ list_all-slice_get (is_true a) set k.0 k.1 h k.2

negated_lit-true : (a : List Bool) (l : Literal) → is_true a (negated_lit l) ≡ true → is_true a l ≡ false
negated_lit-true a l h = go l.positive (value a l.var) h
  where
    go : (b w : Bool) → cond (not b) w (not w) ≡ true → cond b w (not w) ≡ false
    go true true h = absurd (cc)
    go true false h = refl
    go false true h = refl
    go false false h = absurd (cc)

negated_lit-false : (a : List Bool) (l : Literal) → is_true a l ≡ false → is_true a (negated_lit l) ≡ true
negated_lit-false a l h = go l.positive (value a l.var) h
  where
    go : (b w : Bool) → cond b w (not w) ≡ false → cond (not b) w (not w) ≡ true
    go true true h = absurd (cc)
    go true false h = refl
    go false true h = refl
    go false false h = absurd (cc)

true-open : (a : List Bool) (set : List Literal) (l : Literal) → list_all (is_true a) set ≡ true → is_true a l ≡ true → is_false set l ≡ false
true-open a set l h t =
    elim (cases_Bool (is_false set l)) [
      | inl f ↦ absurd (true≢false (sym t ∙ negated_lit-true a l (set-true a set (negated_lit l) h f)))
      | inr f ↦ f
    ]

falsified : (a : List Bool) (set c : List Literal) → list_all (is_true a) set ≡ true → is_falsified set c ≡ true → is_clause_true a c ≡ false
falsified a set [] h f = refl
falsified a set (l ∷ c) h f =
    let p = and_parts (is_false set l) (is_falsified set c) f in
    or_from (is_true a l) (is_clause_true a c) (negated_lit-true a l (set-true a set (negated_lit l) h p.0)) (falsified a set c h p.1)

open-true : (a : List Bool) (set c : List Literal) → list_all (is_true a) set ≡ true → is_clause_true a c ≡ true → is_clause_true a (filter (λ l. not (is_false set l)) c) ≡ true
open-true a set [] h t = absurd (cc)
open-true a set (l ∷ c) h t =
    elim (or_cases (is_true a l) (is_clause_true a c) t) [
      | inl q ↦ (let o : is_false set l ≡ false = true-open a set l h q in rw o (or_left (is_true a l) _ q))
      | inr q ↦ (let r = open-true a set c h q in
          elim (cases_Bool (is_false set l)) [ inl f ↦ rw f r | inr f ↦ rw f (or_right (is_true a l) _ r) ])
    ]

lone-true : (a : List Bool) (set ls : List Literal) (l : Literal) → only_lit_if_unset set ls ≡ Some l → is_clause_true a ls ≡ true → is_true a l ≡ true
lone-true a set [] l h t = absurd (cc)
lone-true a set (m ∷ []) l h t =
    let e = cond_some (not (has_lit m set)) m l h in
    elim (or_cases (is_true a m) false t) [ inl q ↦ ap (is_true a) (sym e.1) ∙ q | inr q ↦ absurd (cc) ]
lone-true a set (m ∷ (n ∷ ls)) l h t = absurd (cc)

clause-true : (a : List Bool) (clauses : List (List Literal)) (h : ℕ) (c : List Literal) → satisfies a clauses ≡ true → clause_numbered clauses h ≡ Some c → is_clause_true a c ≡ true
clause-true a clauses zero c s n = absurd (cc)
clause-true a clauses (suc i) c s n = list_all-slice_get (is_clause_true a) clauses i c s n

hint-true : (a : List Bool) (clauses : List (List Literal)) (set next : List Literal) (h : ℕ) → satisfies a clauses ≡ true → list_all (is_true a) set ≡ true → after_hint clauses set h ≡ Some next → list_all (is_true a) next ≡ true
hint-true a clauses set next h s t e =
    let b = bind_some (clause_numbered clauses h) (λ (c : List Literal). unit_lit set c >>= (λ (l : Literal). Some (l ∷ set))) next e in
    let d = bind_some (unit_lit set b.0) (λ (l : Literal). Some (l ∷ set)) next b.2 in
    let l : is_true a d.0 ≡ true = lone-true a set (filter (λ m. not (is_false set m)) b.0) d.0 d.1 (open-true a set b.0 t (clause-true a clauses h b.0 s b.1)) in
    let q : d.0 ∷ set ≡ next = same_Some (d.0 ∷ set) next d.2 in
    let P : List Literal → Type 0 = λ xs. list_all (is_true a) xs ≡ true in
    subst P q (and_from (is_true a d.0) (list_all (is_true a) set) l t)

no-end : (a : List Bool) (clauses : List (List Literal)) (set : List Literal) (hints : List ℕ) → satisfies a clauses ≡ true → list_all (is_true a) set ≡ true → hints_end_in_conflict clauses set hints ≡ true → ⊥
no-end a clauses set [] s t e = absurd (cc)
no-end a clauses set (h ∷ []) s t e =
    let r = some-and (clause_numbered clauses h) (is_falsified set) e in
    true≢false (sym (clause-true a clauses h r.0 s r.1) ∙ falsified a set r.0 t r.2)
no-end a clauses set (h ∷ (k ∷ hints)) s t e =
    let r = some-and (after_hint clauses set h) (λ next. hints_end_in_conflict clauses next (k ∷ hints)) e in
    no-end a clauses r.0 (k ∷ hints) s (hint-true a clauses set r.0 h s t r.1) r.2

denied-true : (a : List Bool) (c : List Literal) → is_clause_true a c ≡ false → list_all (is_true a) (negated_clause c) ≡ true
denied-true a [] h = refl
denied-true a (l ∷ c) h =
    let p = or_parts (is_true a l) (is_clause_true a c) h in
    and_from (is_true a (negated_lit l)) _ (negated_lit-false a l p.0) (denied-true a c p.1)

pub step-true : (a : List Bool) (n : ℕ) (clauses : List (List Literal)) (s : Step) → satisfies a clauses ≡ true → is_derived n clauses s ≡ true → is_clause_true a s.clause ≡ true
step-true a n clauses s h d =
    let p = and_parts (is_clause_over n s.clause && has_distinct_vars s.clause) _ d in
    elim (cases_Bool (is_clause_true a s.clause)) [
      | inl t ↦ t
      | inr f ↦ absurd (no-end a clauses (negated_clause s.clause) s.hints h (denied-true a s.clause f) p.1)
    ]

log-refutes : (a : List Bool) (n : ℕ) (clauses : List (List Literal)) (log : List Step) → satisfies a clauses ≡ true → each_derived n clauses log ≡ true → only_last_clause_is_empty log ≡ true → ⊥
log-refutes a n clauses [] h d e = absurd (cc)
log-refutes a n clauses (s ∷ []) h d e =
    let p = and_parts (is_derived n clauses s) _ d in
    none s.clause e (step-true a n clauses s h p.0)
  where
    none : (c : List Literal) → is_empty_clause c ≡ true → is_clause_true a c ≡ true → ⊥
    none [] e t = absurd (cc)
    none (l ∷ c) e t = absurd (cc)
log-refutes a n clauses (s ∷ (t ∷ log)) h d e =
    let p = and_parts (is_derived n clauses s) _ d in
    let q = and_parts (not (is_empty_clause s.clause)) _ e in
    log-refutes a n (clauses ++ s.clause ∷ []) (t ∷ log) (list_all-more (is_clause_true a) clauses s.clause h (step-true a n clauses s h p.0)) p.1 q.1

pub refutation_refutes : (a : List Bool) (f : Formula) (log : List Step) → is_refutation f log ≡ true → satisfies a f.clauses ≡ false
refutation_refutes a f log r =
    let p = and_parts (is_derived_log f log) (only_last_clause_is_empty log) r in
    elim (cases_Bool (satisfies a f.clauses)) [
      | inl h ↦ absurd (log-refutes a f.vars f.clauses log h p.0 p.1)
      | inr h ↦ h
    ]
