use Rattle.std.specs.Prelude.{ℕ, ◌==◌, not, List, [], ◌∷◌, ◌++◌, if◌then◌else◌}
use Rattle.std.specs.List.{filter}
use Rattle.ilk_cnf.specs.Literal.{Literal, has_var}

-- Returns clause `c` without the literals of variable `v`.
abbrev pub without_variable : ℕ → List Literal → List Literal
without_variable v c = filter (λ l. not (l.var == v)) c

-- Returns clause `c` with literal `l` at its end, unless it has a literal of this variable.
abbrev pub with_lit_of_new_var : List Literal → Literal → List Literal
with_lit_of_new_var c l = if has_var l.var c then c else c ++ l ∷ []

-- Returns clause `c` followed by the literals of `d` over variables that it doesn't have.
abbrev pub with_lits_of_new_vars : List Literal → List Literal → List Literal
with_lits_of_new_vars c [] = c
with_lits_of_new_vars c (l ∷ d) = with_lits_of_new_vars (with_lit_of_new_var c l) d

-- Returns the resolvent of clauses `c` and `d` on variable `v`, of which they have opposite
-- literals.
abbrev pub resolvent : ℕ → List Literal → List Literal → List Literal
resolvent v c d = without_variable v (with_lits_of_new_vars c d)
