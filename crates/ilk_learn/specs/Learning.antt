-- The clause learned from a conflict, with the hints that derive it.
use Rattle.std.specs.Prelude.{ℕ, ◌+◌, ◌==◌, Bool, ◌&&◌, nat_lt, List, [], ◌∷◌, length, reverse, unwrap_or, if◌then◌else◌}
use Rattle.std.specs.List.{filter}
use Rattle.ilk_base.specs.Option.{◌>>=◌, then_some}
use Rattle.ilk_watches.specs.Reasons.{nth_clause_or_empty}
use Rattle.ilk_cnf.specs.Literal.{Literal, negated_lit, has_var}
use Rattle.ilk_log.specs.declared.step.Step.{Step}
use Rattle.ilk_trail.specs.declared.entry.Entry.{Entry}
use Rattle.ilk_trail.specs.Trail.{level_of}
use Rattle.ilk_learn.specs.Resolvent.{without_variable, resolvent}
use Rattle.ilk_learn.specs.Levels.{is_current, with_highest_first}

-- Returns whether the current level is above 0, and exactly one literal of clause `c` was set at
-- it.
abbrev pub has_one_current : List Entry → List Literal → Bool
has_one_current entries c = nat_lt 0 (level_of entries) && (length (filter (is_current entries) c) == 1)

-- Returns whether clause `c` has the variable of `l`, and exactly one literal of the current level,
-- which is above 0.
abbrev pub has_var_and_one_current : List Entry → Literal → List Literal → Bool
has_var_and_one_current entries l c = has_var l.var c && has_one_current entries c

-- Returns clause `c` with the opposite of `l` first, then a literal of the highest level of the
-- others, then the rest.
abbrev pub clause_in_asserting_order : List Entry → Literal → List Literal → List Literal
clause_in_asserting_order entries l c = negated_lit l ∷ with_highest_first entries (without_variable l.var c)

-- Returns step `s` resolved with the reason of entry `e`, with one more hint. Returns `s` itself if
-- it lacks the variable of `e`, or `e` has no reason.
abbrev pub resolved_with_reason_if_needed : List (List Literal) → Entry → Step → Step
resolved_with_reason_if_needed clauses e s = unwrap_or (do
  r ← e.reason
  then_some (has_var e.lit.var s.clause) (record { clause = resolvent e.lit.var s.clause (nth_clause_or_empty clauses r); hints = (r + 1) ∷ s.hints })) s

-- Returns step `s` resolved with the reasons of the entries, latest first, until only one literal
-- is of the current level. Its clause then is in asserting order; if the entries end before, it is
-- empty.
abbrev pub resolved_to_point : List (List Literal) → List Entry → List Entry → Step → Step
resolved_to_point clauses entries [] s = record s { clause = [] }
resolved_to_point clauses entries (e ∷ rest) s = if has_var_and_one_current entries e.lit s.clause then record s { clause = clause_in_asserting_order entries e.lit s.clause } else resolved_to_point clauses entries rest
    (resolved_with_reason_if_needed clauses e s)

-- Returns the step learned from clause `c`, whose literals are all false.
abbrev pub learned_step : List (List Literal) → List Entry → ℕ → Step
learned_step clauses entries c = resolved_to_point clauses entries (reverse entries) (record { clause = nth_clause_or_empty clauses c; hints = (c + 1) ∷ [] })
