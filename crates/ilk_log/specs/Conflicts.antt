use Rattle.std.specs.Prelude.{ℕ, not, List, count_by}
use Rattle.ilk_log.specs.declared.step.Step.{Step}
use Rattle.ilk_log.specs.Derived.{is_empty_clause}

-- Returns the number of learned clauses: the steps whose clause isn't empty.
abbrev pub count_learned_clauses : List Step → ℕ
count_learned_clauses log = count_by (λ s. not (is_empty_clause s.clause)) log
