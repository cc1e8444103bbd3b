-- The variables and clauses that one call adds to a formula.
use Rattle.std.specs.Prelude.{ℕ, ◌+◌, List, [], ◌∷◌, ◌++◌, map}
use Rattle.ilk_cnf.specs.Literal.{Literal, positive_lit, negative_lit, negated_lit}
use Rattle.ilk_cnf.specs.Formula.{Formula, with_var_count_and_clauses, clause_unless_tautology}

-- Variables and clauses that are added to a formula: the number of variables afterwards, and the
-- literals of each clause, perhaps with duplicates.
pub record FormulaPart : Type 0 where
  pub vars : ℕ
  pub clauses : List (List Literal)

-- Returns a clause for each list of literals, each literal once. A list with both literals of some
-- variable gives none.
abbrev pub clauses_from_lists : List (List Literal) → List (List Literal)
clauses_from_lists [] = []
clauses_from_lists (ls ∷ lss) = clause_unless_tautology ls ++ clauses_from_lists lss

-- Returns formula `f` with the variables and clauses of part `p` added.
abbrev pub with_part : Formula → FormulaPart → Formula
with_part f p = with_var_count_and_clauses f p.vars (clauses_from_lists p.clauses)

-- Returns the part that adds nothing to `n` variables.
abbrev pub empty_part : ℕ → FormulaPart
empty_part n = record { vars = n; clauses = [] }

-- Returns part `p` followed by `q`, which is given the number of variables after `p`.
abbrev pub and_then : FormulaPart → (ℕ → FormulaPart) → FormulaPart
and_then p q = record { vars = (q p.vars).vars; clauses = p.clauses ++ (q p.vars).clauses }

-- Returns clauses that make literal `g` true if and only if all of `ls` are.
abbrev pub and_gate_clauses : Literal → List Literal → List (List Literal)
and_gate_clauses g ls = map (λ l. negated_lit g ∷ l ∷ []) ls ++ (g ∷ map negated_lit ls) ∷ []

-- Returns the part that adds variable `n + 1`, which is true if and only if all of `ls` are.
abbrev pub and_gate_part : List Literal → ℕ → FormulaPart
and_gate_part ls n = record { vars = n + 1; clauses = and_gate_clauses (positive_lit (n + 1)) ls }

-- Returns the part that adds variable `n + 1`, which is true if and only if at least one of `ls`
-- is.
abbrev pub or_gate_part : List Literal → ℕ → FormulaPart
or_gate_part ls n = record { vars = n + 1; clauses = and_gate_clauses (negative_lit (n + 1)) (map negated_lit ls) }
