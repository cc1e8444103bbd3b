-- The trail as a list of entries, and queries on it.
use Rattle.std.specs.Prelude.{ℕ, ◌+◌, Bool, ◌==◌, List, [], ◌∷◌, ◌++◌, Option, Some, None, nat_le}
use Rattle.std.specs.Bool.{beq}
use Rattle.std.specs.List.{find, filter}
use Rattle.std.specs.Option.{option_map}
use Rattle.ilk_cnf.specs.Literal.{Literal}
use Rattle.ilk_trail.specs.declared.entry.Entry.{Entry}

-- The content of a trail: the entries in the order of assignment, over the variables 1 to `vars`.
pub record TrailList : Type 0 where
  pub vars : ℕ
  pub entries : List Entry

-- Returns the entry that sets variable `v`, or `None` if it is unset.
abbrev pub entry_of : List Entry → ℕ → Option Entry
entry_of entries v = find (λ e. e.lit.var == v) entries

-- Returns whether literal `l` is true, or `None` if its variable is unset.
abbrev pub value_of_literal : List Entry → Literal → Option Bool
value_of_literal entries l = option_map (λ e. beq e.lit.positive l.positive) (entry_of entries l.var)

-- Returns the level of the last entry, or `k` if there are no entries.
abbrev pub last_level_or : ℕ → List Entry → ℕ
last_level_or k [] = k
last_level_or k (e ∷ es) = last_level_or e.level es

-- Returns the current level: that of the last entry, or 0 if there are no entries.
abbrev pub level_of : List Entry → ℕ
level_of entries = last_level_or 0 entries

-- Returns the entries after literal `l` is decided, which opens the next level.
abbrev pub with_decision : List Entry → Literal → List Entry
with_decision entries l = entries ++ record { lit = l; level = level_of entries + 1; reason = None } ∷ []

-- Returns the entries after clause `c` forces literal `l` at the current level.
abbrev pub with_assignment : List Entry → Literal → ℕ → List Entry
with_assignment entries l c = entries ++ record { lit = l; level = level_of entries; reason = Some c } ∷ []

-- Returns the entries of the levels 0 to `k`.
abbrev pub entries_up_to : ℕ → List Entry → List Entry
entries_up_to k entries = filter (λ e. nat_le e.level k) entries
