-- Satisfaction. An assignment is a list of truth values; entry v - 1 is the value of variable v.
use Rattle.std.specs.Prelude.{ℕ, Bool, false, List, ◌∷◌, slice_index_or, not, if◌then◌else◌}
use Rattle.std.specs.List.{list_any, list_all}
use Rattle.ilk_cnf.specs.Literal.{Literal}

-- Returns the value of variable `v`, or `false` if the assignment doesn't reach it.
abbrev pub value : List Bool → ℕ → Bool
value a v = slice_index_or (false ∷ a) v false

-- Returns whether literal `l` is true under assignment `a`.
abbrev pub is_true : List Bool → Literal → Bool
is_true a l = if l.positive then value a l.var else not (value a l.var)

-- Returns whether some literal of clause `c` is true under assignment `a`.
abbrev pub is_clause_true : List Bool → List Literal → Bool
is_clause_true a c = list_any (is_true a) c

-- Returns whether assignment `a` makes some literal of each clause true.
abbrev pub satisfies : List Bool → List (List Literal) → Bool
satisfies a cs = list_all (is_clause_true a) cs
