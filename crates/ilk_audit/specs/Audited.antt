use Rattle.std.specs.Prelude.{ℕ, Bool, List, [], ◌∷◌, ◌++◌}
use Rattle.ilk_cnf.specs.Literal.{Literal}
use Rattle.ilk_log.specs.declared.step.Step.{Step}
use Rattle.ilk_log.specs.Derived.{is_empty_clause}

-- The state of a checker of steps: the clauses of the formula and of the steps taken so far, over
-- the variables 1 to `vars`. `closed` says whether the empty clause was taken; no step is taken
-- after it.
pub record AuditState : Type 0 where
  pub vars : ℕ
  pub clauses : List (List Literal)
  pub closed : Bool

-- The checker's state after a step was taken: its clause is added, and `closed` is set if that is
-- empty.
abbrev pub with_step : AuditState → Step → AuditState
with_step a s = record { vars = a.vars; clauses = a.clauses ++ s.clause ∷ []; closed = is_empty_clause s.clause }
