use Rattle.std.specs.Prelude.{ℕ, ◌≤◌, ◌^◌, nat_lt, nat_le, Bool, false, List, [], ◌∷◌, ◌++◌, ◌&&◌, ◌||◌, IsTrue, if◌then◌else◌}
use Rattle.std.specs.List.{list_all}
use Rattle.ilk_cnf.specs.Literal.{Literal, negated_lit, has_lit, has_distinct_vars}

-- The variables 1 to `vars`, and clauses over them.
pub record Formula : Type 0 where
  pub vars : ℕ
  pub clauses : List (List Literal)

-- Returns whether the variable of `l` is one of 1 to `n`.
abbrev pub is_lit_over : ℕ → Literal → Bool
is_lit_over n l = nat_lt 0 l.var && nat_le l.var n

-- Returns whether each variable of clause `c` is one of 1 to `n`.
abbrev pub is_clause_over : ℕ → List Literal → Bool
is_clause_over n c = list_all (is_lit_over n) c

-- Returns whether each variable of each clause is one of 1 to `n`.
abbrev pub are_clauses_over : ℕ → List (List Literal) → Bool
are_clauses_over n cs = list_all (is_clause_over n) cs

-- Holds for every formula: it has at most 2^62 variables, and each clause is over different ones of
-- them.
pub record IsFormula (f : Formula) : Type 0 where
  pub numbered : f.vars ≤ 2 ^ 62
  pub within : IsTrue (are_clauses_over f.vars f.clauses)
  pub differ : IsTrue (list_all has_distinct_vars f.clauses)

-- Returns the formula `f` with `n` variables, and with the clauses `cs` added at the end.
abbrev pub with_var_count_and_clauses : Formula → ℕ → List (List Literal) → Formula
with_var_count_and_clauses f n cs = record { vars = n; clauses = f.clauses ++ cs }

-- Returns the clauses of `f` as a formula with `n` variables.
abbrev pub with_var_count : Formula → ℕ → Formula
with_var_count f n = record { vars = n; clauses = f.clauses }

-- Returns the literals without duplicates, the last occurrence of each kept.
abbrev pub deduped_lits : List Literal → List Literal
deduped_lits [] = []
deduped_lits (l ∷ ls) = if has_lit l ls then deduped_lits ls else l ∷ deduped_lits ls

-- Returns whether the list has both literals of some variable, so that one of them is always true.
abbrev pub is_tautology : List Literal → Bool
is_tautology [] = false
is_tautology (l ∷ ls) = has_lit (negated_lit l) ls || is_tautology ls

-- Returns the clause of these literals, each once, as a list. Returns an empty list if it has both
-- literals of some variable.
abbrev pub clause_unless_tautology : List Literal → List (List Literal)
clause_unless_tautology ls = if is_tautology ls then [] else deduped_lits ls ∷ []
