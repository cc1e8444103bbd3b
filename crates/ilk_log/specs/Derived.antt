-- The steps that follow from a formula, and refutations.
use Rattle.std.specs.Prelude.{ℕ, Bool, true, false, ◌&&◌, not, List, [], ◌∷◌, ◌++◌, map}
use Rattle.ilk_base.specs.Option.{is_some_and}
use Rattle.ilk_cnf.specs.Literal.{Literal, negated_lit, has_distinct_vars}
use Rattle.ilk_cnf.specs.Formula.{Formula, is_clause_over}
use Rattle.ilk_log.specs.declared.step.Step.{Step}
use Rattle.ilk_log.specs.Propagation.{is_falsified, clause_numbered, after_hint}

-- Returns the opposites of a clause's literals. If they are true, the clause is false.
abbrev pub negated_clause : List Literal → List Literal
negated_clause c = map negated_lit c

-- Returns whether each hint but the last forces a literal, from the true literals `set` on, and the
-- last then names a false clause.
abbrev pub hints_end_in_conflict : List (List Literal) → List Literal → List ℕ → Bool
hints_end_in_conflict clauses set [] = false
hints_end_in_conflict clauses set (h ∷ []) = is_some_and (clause_numbered clauses h) (is_falsified set)
hints_end_in_conflict clauses set (h ∷ (k ∷ hints)) = is_some_and (after_hint clauses set h) (λ next. hints_end_in_conflict clauses next (k ∷ hints))

-- Returns whether step `s` follows from `clauses` by its hints. Its clause is over different
-- variables of 1 to `n`; if its literals are false, the hints end at a false clause.
abbrev pub is_derived : ℕ → List (List Literal) → Step → Bool
is_derived n clauses s = is_clause_over n s.clause && has_distinct_vars s.clause && hints_end_in_conflict clauses (negated_clause s.clause) s.hints

abbrev pub step_clauses : List Step → List (List Literal)
step_clauses steps = map (λ (s : Step). s.clause) steps

-- Returns whether each step follows from `clauses` and the steps before it.
abbrev pub each_derived : ℕ → List (List Literal) → List Step → Bool
each_derived n clauses [] = true
each_derived n clauses (s ∷ steps) = is_derived n clauses s && each_derived n (clauses ++ s.clause ∷ []) steps

-- Returns whether each step of a log follows from the formula and the steps before it.
abbrev pub is_derived_log : Formula → List Step → Bool
is_derived_log f log = each_derived f.vars f.clauses log

-- Returns whether a clause has no literals.
abbrev pub is_empty_clause : List Literal → Bool
is_empty_clause [] = true
is_empty_clause (l ∷ ls) = false

-- Returns whether the last step, and no other, has the empty clause.
abbrev pub only_last_clause_is_empty : List Step → Bool
only_last_clause_is_empty [] = false
only_last_clause_is_empty (s ∷ []) = is_empty_clause s.clause
only_last_clause_is_empty (s ∷ (t ∷ steps)) = not (is_empty_clause s.clause) && only_last_clause_is_empty (t ∷ steps)

-- Returns whether a log refutes the formula: its steps are derived, and only the last has the empty
-- clause.
abbrev pub is_refutation : Formula → List Step → Bool
is_refutation f log = is_derived_log f log && only_last_clause_is_empty log
