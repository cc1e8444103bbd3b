use Rattle.std.specs.Prelude.{ℕ, ◌==◌, Bool, List, [], ◌∷◌, Option, Some, None, option_map, unwrap_or, max}
use Rattle.std.specs.List.{find}
use Rattle.ilk_cnf.specs.Literal.{Literal}
use Rattle.ilk_trail.specs.declared.entry.Entry.{Entry}
use Rattle.ilk_trail.specs.Trail.{entry_of, level_of}
use Rattle.ilk_learn.specs.Resolvent.{without_variable}

-- Returns the level at which the variable of `l` was set, or 0 if it is unset.
abbrev pub level_of_literal : List Entry → Literal → ℕ
level_of_literal entries l = unwrap_or (option_map (λ (e : Entry). e.level) (entry_of entries l.var)) 0

-- Returns whether the variable of `l` was set at the current level.
abbrev pub is_current : List Entry → Literal → Bool
is_current entries l = level_of_literal entries l == level_of entries

-- Returns the highest level of the literals, or 0 if there are none.
abbrev pub highest_level : List Entry → List Literal → ℕ
highest_level entries [] = 0
highest_level entries (l ∷ ls) = max (level_of_literal entries l) (highest_level entries ls)

-- Returns the literals with this one moved to the front, if one is given.
abbrev pub with_lit_first : Option Literal → List Literal → List Literal
with_lit_first None ls = ls
with_lit_first (Some l) ls = l ∷ without_variable l.var ls

-- Returns the literals with the first of the highest level moved to the front.
abbrev pub with_highest_first : List Entry → List Literal → List Literal
with_highest_first entries ls = with_lit_first (find (λ l. level_of_literal entries l == highest_level entries ls) ls) ls
