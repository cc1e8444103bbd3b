use Rattle.std.specs.Prelude.{ℕ, Bool, true, false, ◌&&◌, List, [], ◌∷◌, Option, Some, None, if◌then◌else◌}
use Rattle.std.specs.Option.{option_map_or}
use Rattle.ilk_base.specs.Option.{then_some}
use Rattle.ilk_cnf.specs.Literal.{Literal, has_distinct_vars}
use Rattle.ilk_cnf.specs.Formula.{is_clause_over}
use Rattle.ilk_log.specs.declared.step.Step.{Step}
use Rattle.ilk_log.specs.Propagation.{is_falsified, clause_numbered, unit_lit}
use Rattle.ilk_log.specs.Derived.{is_empty_clause, negated_clause}
use Rattle.ilk_audit.specs.Audited.{AuditState, with_step}
use Rattle.ilk_audit.specs.declared.taken.Taken.{Taken}
use Rattle.ilk_audit.specs.declared.taken.Taken.TheVariants.{Good, Closed, Bad}
use Rattle.ilk_audit.specs.declared.taken.Why.{Why}
use Rattle.ilk_audit.specs.declared.taken.Why.TheVariants.{BadHint, NotUnit, NotFalse, BadLiteral}

-- Returns whether the list has a hint.
abbrev pub has_hint_left : List ℕ → Bool
has_hint_left [] = false
has_hint_left (h ∷ hints) = true

-- The reason why the hints, taken in turn, do not end at a clause with all literals false, or
-- `None` if they do. The literals `set` are true before.
abbrev pub why_hints_reach_no_conflict : List (List Literal) → List Literal → List ℕ → Option Why
why_hints_reach_no_conflict clauses set [] = Some NotFalse
-- Checked in this order: no clause has the hint's number; all its literals are false, but hints are
-- left; a literal is true or two are unset. Otherwise its one unset literal is set.
why_hints_reach_no_conflict clauses set (h ∷ hints) =
    option_map_or (λ c.
    if is_falsified set c then then_some (has_hint_left hints) NotFalse else
    option_map_or (λ l. why_hints_reach_no_conflict clauses (l ∷ set) hints) (unit_lit set c) (Some NotUnit))
    (clause_numbered clauses h) (Some BadHint)

-- The reason why a step does not follow from clauses over the variables 1 to `n`, or `None` if it
-- does. Its literals are checked first, then its hints.
abbrev pub why_step_not_derived : ℕ → List (List Literal) → Step → Option Why
why_step_not_derived n clauses s =
    if is_clause_over n s.clause && has_distinct_vars s.clause then why_hints_reach_no_conflict clauses (negated_clause s.clause) s.hints else Some BadLiteral

-- The checker's answer to a step, from the reason why it does not follow, if there is one.
abbrev pub step_answer_from_fault_if_any : Step → Option Why → Taken
step_answer_from_fault_if_any s (Some why) = Bad why
step_answer_from_fault_if_any s None = if is_empty_clause s.clause then Closed else Good

-- The checker's answer to a step in this state.
abbrev pub step_answer : AuditState → Step → Taken
step_answer a s = step_answer_from_fault_if_any s (why_step_not_derived a.vars a.clauses s)

-- Returns whether the answer says that the step is taken.
abbrev pub is_taken : Taken → Bool
is_taken Good = true
is_taken Closed = true
is_taken (Bad why) = false

-- The checker's state after a step; unchanged if the step is not taken.
abbrev pub after_step : AuditState → Step → AuditState
after_step a s = if is_taken (step_answer a s) then with_step a s else a
