-- For private contracts and proofs: the status of a clause. The literals `set` are true.
use Rattle.std.specs.Prelude.{ℕ, ◌≡◌, false, not, List, [], ◌∷◌, IsTrue, if◌then◌else◌}
use Rattle.std.specs.List.{filter}
use Rattle.std.specs.Option.{option_map_or}
use Rattle.ilk_cnf.specs.Formula.{is_lit_over}
use Rattle.ilk_cnf.specs.Literal.{Literal, has_lit, has_var}
use Rattle.ilk_log.specs.Propagation.{clause_numbered, is_false}
use Rattle.ilk_audit.specs.declared.hinted.ClauseStatus.{ClauseStatus}
use Rattle.ilk_audit.specs.declared.hinted.ClauseStatus.TheVariants.{Missing, AllFalse, OneUnset, Other}

-- The literals of clause `c` that are not false if `set` are true.
abbrev pub unfalsified_lits : List Literal → List Literal → List Literal
unfalsified_lits set c = filter (λ l. not (is_false set l)) c

-- The status of a clause, from those of its literals that are not false.
abbrev pub status_from_unfalsified : List Literal → List Literal → ClauseStatus
status_from_unfalsified set [] = AllFalse
status_from_unfalsified set (l ∷ []) = if has_lit l set then Other else OneUnset l
status_from_unfalsified set (l ∷ (m ∷ ls)) = Other

-- The status of clause `c` if the literals `set` are true.
abbrev pub clause_status : List Literal → List Literal → ClauseStatus
clause_status set c = status_from_unfalsified set (unfalsified_lits set c)

-- The status of the clause that hint `h` names if the literals `set` are true.
abbrev pub status_of_hinted_clause : List (List Literal) → List Literal → ℕ → ClauseStatus
status_of_hinted_clause clauses set h = option_map_or (clause_status set) (clause_numbered clauses h) Missing

-- Holds if the one unset literal that the status names, if any, is over an unset variable from 1 to
-- `n`.
abbrev pub AnyUnitLitIsSettable : ℕ → List Literal → ClauseStatus → Type 0
AnyUnitLitIsSettable n set Missing = Unit {0}
AnyUnitLitIsSettable n set AllFalse = Unit {0}
AnyUnitLitIsSettable n set (OneUnset l) = IsTrue (is_lit_over n l) × (has_var l.var set ≡ false)
AnyUnitLitIsSettable n set Other = Unit {0}
