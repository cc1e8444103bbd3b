use Rattle.std.specs.Prelude.{ℕ, ◌==◌, Bool, true, false, ◌&&◌, nat_lt, List, [], ◌∷◌}
use Rattle.ilk_cnf.specs.Literal.{Literal}
use Rattle.ilk_log.specs.Propagation.{is_falsified}
use Rattle.ilk_trail.specs.declared.entry.Entry.{Entry}
use Rattle.ilk_trail.specs.Trail.{level_of}
use Rattle.ilk_trail.specs.Laws.{lits_of}
use Rattle.ilk_learn.specs.Levels.{level_of_literal, is_current, highest_level}

-- Returns the level to go back to: the highest level of the literals after the first.
abbrev pub back_level : List Entry → List Literal → ℕ
back_level entries [] = 0
back_level entries (l ∷ ls) = highest_level entries ls

-- Returns whether the first of these literals was set at level `k`. Returns `true` if there are
-- none.
abbrev pub is_first_lit_at_level : List Entry → ℕ → List Literal → Bool
is_first_lit_at_level entries k [] = true
is_first_lit_at_level entries k (l ∷ ls) = level_of_literal entries l == k

-- Returns whether all literals of a clause are false, the first since the current level and the
-- others at lower levels. The second, if there is one, must have the highest of these.
abbrev pub is_false_in_asserting_order : List Entry → List Literal → Bool
is_false_in_asserting_order entries [] = false
is_false_in_asserting_order entries (l ∷ ls) =
    is_falsified (lits_of entries) (l ∷ ls) && is_current entries l && nat_lt (highest_level entries ls) (level_of entries) && is_first_lit_at_level entries (highest_level entries ls) ls
