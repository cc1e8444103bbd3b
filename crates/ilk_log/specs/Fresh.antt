-- The clauses that propagation alone does not give (fresh clauses).
use Rattle.std.specs.Prelude.{ℕ, ◌≡◌, false, not, List, [], ◌++◌, Some, IsTrue, ◌∷◌}
use Rattle.std.specs.List.{filter, list_any}
use Rattle.ilk_cnf.specs.Literal.{Literal, same_lit, has_lit, has_var}
use Rattle.ilk_cnf.specs.Formula.{Formula}
use Rattle.ilk_log.specs.declared.step.Step.{Step}
use Rattle.ilk_log.specs.Propagation.{is_falsified, after_hints}
use Rattle.ilk_log.specs.Derived.{negated_clause, hints_end_in_conflict, is_derived, is_empty_clause, step_clauses}

-- Returns the literals of clause `c` other than `l`.
abbrev pub other_lits : Literal → List Literal → List Literal
other_lits l c = filter (λ m. not (same_lit l m)) c

-- Holds if propagation can't set `l` when the other literals of clause `c` are false. After any
-- hints, its variable is unset and no clause is false.
abbrev pub LitStaysUndetermined : List (List Literal) → List Literal → Literal → Type 0
LitStaysUndetermined clauses c l = (hints : List ℕ) (set : List Literal) → after_hints clauses (negated_clause (other_lits l c)) hints ≡ Some set → (has_var l.var set ≡ false) × (list_any (is_falsified set) clauses ≡ false)

-- Holds if a clause is fresh: propagation can't set some literal of it when its other literals are
-- false.
abbrev pub IsEmpowering : List (List Literal) → List Literal → Type 0
IsEmpowering clauses c = (l : Literal) × IsTrue (has_lit l c) × LitStaysUndetermined clauses c l

-- Holds if each step with a literal is fresh (`IsEmpowering`) over `clauses` and the steps before
-- it.
abbrev pub EachEmpowering : List (List Literal) → List Step → Type 0
EachEmpowering clauses [] = Unit {0}
EachEmpowering clauses (s ∷ steps) = (is_empty_clause s.clause ≡ false → IsEmpowering clauses s.clause) × EachEmpowering (clauses ++ s.clause ∷ []) steps

-- Holds if no list of hints derives the empty clause from the formula and the log, but some fresh
-- clause can still be derived.
pub record CanLearnButNotRefute (f : Formula) (log : List Step) : Type 0 where
  pub unrefuted : (hints : List ℕ) → hints_end_in_conflict (f.clauses ++ step_clauses log) [] hints ≡ false
  pub next : (s : Step) × IsTrue (is_derived f.vars (f.clauses ++ step_clauses log) s) × IsEmpowering (f.clauses ++ step_clauses log) s.clause
