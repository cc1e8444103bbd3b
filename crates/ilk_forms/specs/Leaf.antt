-- The literals of a copy (time frame) that say which value a variable has.
use Rattle.std.specs.Prelude.{ℕ, Bool, List, map, length, slice_get, unwrap_or, option_and_then, ◌&&◌}
use Rattle.std.specs.List.{list_all}
use Rattle.ilk_cnf.specs.Literal.{Literal, positive_lit}
use Rattle.ilk_cnf.specs.Formula.{is_clause_over}
use Rattle.ilk_forms.specs.declared.copy.VarValueAndBoundLits.{VarValueAndBoundLits}

-- The literal of the copy that says that variable `v` has the value `c`; a literal of variable 0 if
-- there is none.
abbrev pub value_lit : List VarValueAndBoundLits → ℕ → ℕ → Literal
value_lit columns v c = unwrap_or (option_and_then (λ column. slice_get column.values c) (slice_get columns v)) (positive_lit 0)

-- The range (number of values) of each variable of a copy, by the copy's literals.
abbrev pub ranges_of_copy_lits : List VarValueAndBoundLits → List ℕ
ranges_of_copy_lits columns = map (λ column. length column.values) columns

-- Returns whether all literals of the copy are over the variables 1 to `n`.
abbrev pub has_lits_within_vars : ℕ → List VarValueAndBoundLits → Bool
has_lits_within_vars n columns = list_all (λ column. is_clause_over n column.values && is_clause_over n column.bounds) columns
