-- Used only in private contracts and proofs: the fields of the working clause, and the clause that
-- they store.
use Rattle.std.specs.Prelude.{ℕ, ◌≡◌, ◌+◌, ◌-◌, ◌<◌, ◌&&◌, Bool, false, not, List, [], ◌∷◌, Option, Some, None, length, reverse, slice_index_or, IsTrue}
use Rattle.std.specs.List.{filter, list_all}
use Rattle.ilk_watches.specs.Reasons.{nth_clause_or_empty, is_conflict, HasReasons}
use Rattle.ilk_cnf.specs.Literal.{Literal, negated_lit, has_var, has_distinct_vars}
use Rattle.ilk_cnf.specs.Formula.{Formula, is_lit_over, is_clause_over}
use Rattle.ilk_log.specs.declared.step.Step.{Step}
use Rattle.ilk_trail.specs.declared.entry.Entry.{Entry}
use Rattle.ilk_trail.specs.Trail.{TrailList, level_of, entries_up_to}
use Rattle.ilk_trail.specs.Laws.{is_set, lits_of}
use Rattle.ilk_learn.specs.declared.hand.WorkingClause.{WorkingClause}
use Rattle.ilk_learn.specs.Levels.{is_current, with_highest_first}
use Rattle.ilk_learn.specs.Learning.{learned_step}

-- Returns whether the literals of `c` are over the variables of the trail, and set.
abbrev pub are_in_range_and_set : TrailList → List Literal → Bool
are_in_range_and_set t c = list_all (λ l. is_lit_over t.vars l && is_set t.entries l.var) c

-- Holds if these fields store clause `c`: `marks` its variables, `current` the number of its
-- literals of the current level, and `lower` its other literals.
pub record FieldsHoldClause (t : TrailList) (marks : List Bool) (current : ℕ) (lower : List Literal) (c : List Literal) : Type 0 where
  pub sized : length marks ≡ t.vars + 1
  pub marked : (v : ℕ) → slice_index_or marks v false ≡ has_var v c
  pub counted : current ≡ length (filter (is_current t.entries) c)
  pub rest : lower ≡ filter (λ l. not (is_current t.entries l)) c
  pub differ : IsTrue (has_distinct_vars c)
  pub within : IsTrue (is_clause_over t.vars c)

-- Holds if the fields of working clause `h` store clause `c`.
abbrev pub WorkingClauseHolds : TrailList → WorkingClause → List Literal → Type 0
WorkingClauseHolds t h c = FieldsHoldClause t h.marks.items h.current h.lower.items c

-- Holds if working clause `h` stores the clause of step `s`, and its hints in reverse order.
pub record WorkingClauseHoldsStepFields (t : TrailList) (h : WorkingClause) (s : Step) : Type 0 where
  pub holds : FieldsHoldClause t h.marks.items h.current h.lower.items s.clause
  pub hinted : s.hints ≡ reverse h.hints.items

-- Returns the learned clause: the opposite of the implication point `l`, then the literals `lower`,
-- one of the highest level first. Returns the empty clause if there is no point.
abbrev pub clause_at_point_or_empty : List Entry → Option Literal → List Literal → List Literal
clause_at_point_or_empty entries None lower = []
clause_at_point_or_empty entries (Some l) lower = negated_lit l ∷ with_highest_first entries lower

-- Holds if the walk from clause `c`, which is false, has ended at `point`, so that working clause
-- `h` gives the learned step.
pub record ConflictWalkEndedAt (t : TrailList) (clauses : List (List Literal)) (c : ℕ) (h : WorkingClause) (point : Option Literal) : Type 0 where
  pub set : IsTrue (are_in_range_and_set t h.lower.items)
  pub is : learned_step clauses t.entries c ≡ record { clause = clause_at_point_or_empty t.entries point h.lower.items; hints = reverse h.hints.items }

-- Returns the step from which the walk starts: clause `c`, with itself as its hint.
abbrev pub step_from_conflict_clause : List (List Literal) → ℕ → Step
step_from_conflict_clause clauses c = record { clause = nth_clause_or_empty clauses c; hints = (c + 1) ∷ [] }

-- Holds if clause `c` is false, but not at the level below the current one, if there is one. Each
-- forced entry has a reason.
pub record IsConflictOfCurrentLevel (f : Formula) (t : TrailList) (c : ℕ) : Type 0 where
  pub vars : f.vars ≡ t.vars
  pub reasons : HasReasons f.clauses t.entries
  pub conflict : IsTrue (is_conflict f.clauses (lits_of t.entries) c)
  pub below : 0 < level_of t.entries → is_conflict f.clauses (lits_of (entries_up_to (level_of t.entries - 1) t.entries)) c ≡ false
