-- A step is taken exactly if it follows.
use Rattle.std.proofs.Common.{◌≡◌, ℕ, inl, inr, true, false, not, cond, List, [], ◌∷◌, refl, ap, ◌∙◌, Option, Some, None}
use Rattle.std.specs.Prelude.{is_none}
use Rattle.std.specs.List.{filter}
use Rattle.std.specs.Option.{option_map_or}
use Rattle.std.proofs.lemmas.Bool.{cases_Bool, and_parts}
use Rattle.ilk_base.specs.Option.{◌>>=◌, is_some_and, then_some}
use Rattle.ilk_cnf.specs.Literal.{Literal, has_distinct_vars}
use Rattle.ilk_cnf.specs.Formula.{is_clause_over}
use Rattle.ilk_log.specs.declared.step.Step.{Step}
use Rattle.ilk_log.specs.Propagation.{clause_numbered, is_false, is_falsified, only_lit_if_unset, unit_lit}
use Rattle.ilk_log.specs.Derived.{hints_end_in_conflict, is_derived, is_empty_clause, negated_clause}
use Rattle.ilk_audit.specs.Audited.{AuditState}
use Rattle.ilk_audit.specs.Taken.{step_answer_from_fault_if_any, why_step_not_derived, why_hints_reach_no_conflict, is_taken, has_hint_left, step_answer}
use Rattle.ilk_audit.specs.declared.taken.Why.{Why}
use Rattle.ilk_audit.specs.declared.taken.Why.TheVariants.{BadHint, NotUnit, NotFalse}

pub none-open : (set c : List Literal) → is_falsified set c ≡ true → filter (λ l. not (is_false set l)) c ≡ []
none-open set [] f = refl
none-open set (l ∷ c) f = (let p = and_parts (is_false set l) (is_falsified set c) f in rw p.0 (none-open set c p.1))

no-unit : (set c : List Literal) → is_falsified set c ≡ true → unit_lit set c ≡ None
no-unit set c f = ap (only_lit_if_unset set) (none-open set c f)

abbrev in_clause : List (List Literal) → List Literal → List ℕ → List Literal → Option Why
in_clause clauses set hints c =
    cond (is_falsified set c) (then_some (has_hint_left hints) NotFalse) (option_map_or (λ l. why_hints_reach_no_conflict clauses (l ∷ set) hints) (unit_lit set c) (Some NotUnit))

last-clause : (clauses : List (List Literal)) (set c : List Literal) → is_none (in_clause clauses set [] c) ≡ is_falsified set c
last-clause clauses set c =
    elim (cases_Bool (is_falsified set c)) [
      | inl t ↦ rw t refl
      | inr f ↦ rw f (go (unit_lit set c))
    ]
  where
    go : (o : Option Literal) → is_none (option_map_or (λ l. why_hints_reach_no_conflict clauses (l ∷ set) []) o (Some NotUnit)) ≡ false
    go None = refl
    go (Some l) = refl

pub hints-derived : (clauses : List (List Literal)) (set : List Literal) (hints : List ℕ) → is_none (why_hints_reach_no_conflict clauses set hints) ≡ hints_end_in_conflict clauses set hints
hints-derived clauses set [] = refl
hints-derived clauses set (h ∷ []) = go (clause_numbered clauses h)
  where
    go : (o : Option (List Literal)) → is_none (option_map_or (in_clause clauses set []) o (Some BadHint)) ≡ is_some_and o (is_falsified set)
    go None = refl
    go (Some c) = last-clause clauses set c
hints-derived clauses set (h ∷ (k ∷ hints)) = go (λ l. hints-derived clauses (l ∷ set) (k ∷ hints)) (clause_numbered clauses h)
  where
    by_unit :
        ((l : Literal) →
        is_none (why_hints_reach_no_conflict clauses (l ∷ set) (k ∷ hints)) ≡ hints_end_in_conflict clauses (l ∷ set) (k ∷ hints)) →
        (o : Option Literal) →
        is_none (option_map_or (λ l. why_hints_reach_no_conflict clauses (l ∷ set) (k ∷ hints)) o (Some NotUnit))
        ≡ is_some_and (o >>= (λ l. Some (l ∷ set))) (λ s. hints_end_in_conflict clauses s (k ∷ hints))
    by_unit next None = refl
    by_unit next (Some l) = next l

    go :
        ((l : Literal) →
        is_none (why_hints_reach_no_conflict clauses (l ∷ set) (k ∷ hints)) ≡ hints_end_in_conflict clauses (l ∷ set) (k ∷ hints)) →
        (o : Option (List Literal)) →
        is_none (option_map_or (in_clause clauses set (k ∷ hints)) o (Some BadHint))
        ≡ is_some_and (o >>= (λ c. unit_lit set c >>= (λ l. Some (l ∷ set))))
        (λ s. hints_end_in_conflict clauses s (k ∷ hints))
    go next None = refl
    go next (Some c) =
        elim (cases_Bool (is_falsified set c)) [
          | inl t ↦ rw (t, no-unit set c t) refl
          | inr f ↦ rw f (by_unit next (unit_lit set c))
        ]

step_answer_from_fault_if_any-taken : (s : Step) (o : Option Why) → is_taken (step_answer_from_fault_if_any s o) ≡ is_none o
step_answer_from_fault_if_any-taken s (Some why) = refl
step_answer_from_fault_if_any-taken s None = elim (cases_Bool (is_empty_clause s.clause)) [ inl t ↦ rw t refl | inr f ↦ rw f refl ]

pub fault-derived : (n : ℕ) (clauses : List (List Literal)) (s : Step) → is_none (why_step_not_derived n clauses s) ≡ is_derived n clauses s
fault-derived n clauses s =
    elim (cases_Bool (is_clause_over n s.clause)) [
      | inl a ↦ elim (cases_Bool (has_distinct_vars s.clause)) [
        | inl b ↦ rw (a, b) (hints-derived clauses (negated_clause s.clause) s.hints)
        | inr b ↦ rw (a, b) refl
      ]
      | inr a ↦ rw a refl
    ]

pub taken_derived : (a : AuditState) (s : Step) → is_taken (step_answer a s) ≡ is_derived a.vars a.clauses s
taken_derived a s = step_answer_from_fault_if_any-taken s (why_step_not_derived a.vars a.clauses s) ∙ fault-derived a.vars a.clauses s
