-- Properties of every trail.
use Rattle.std.specs.Prelude.{ℕ, ◌+◌, ◌≤◌, ◌^◌, Bool, true, ◌&&◌, ◌==◌, cond, List, [], ◌∷◌, map, IsTrue, is_some}
use Rattle.ilk_cnf.specs.Literal.{Literal, has_var, has_distinct_vars}
use Rattle.ilk_cnf.specs.Formula.{is_clause_over}
use Rattle.ilk_trail.specs.declared.entry.Entry.{Entry}
use Rattle.ilk_trail.specs.Trail.{TrailList}

-- Returns the literals of the entries: those that are set to true.
abbrev pub lits_of : List Entry → List Literal
lits_of entries = map (λ (e : Entry). e.lit) entries

-- Returns whether some entry sets variable `v`.
abbrev pub is_set : List Entry → ℕ → Bool
is_set entries v = has_var v (lits_of entries)

-- Returns whether entry `e` may follow one of level `k`. A forced entry stays at level `k`; a
-- decision opens the next.
abbrev pub may_follow_level : ℕ → Entry → Bool
may_follow_level k e = e.level == cond (is_some e.reason) k (k + 1)

-- Returns whether each entry may follow the one before it (`may_follow_level`), and the first may
-- follow level `k`.
abbrev pub each_may_follow_level : ℕ → List Entry → Bool
each_may_follow_level k [] = true
each_may_follow_level k (e ∷ es) = may_follow_level k e && each_may_follow_level e.level es

-- Holds if each literal of the trail is over its variables, no variable is set twice, and each
-- level from 1 begins with its decision.
pub record IsTrail (t : TrailList) : Type 0 where
  pub few : t.vars ≤ 2 ^ 62
  pub within : IsTrue (is_clause_over t.vars (lits_of t.entries))
  pub once : IsTrue (has_distinct_vars (lits_of t.entries))
  pub climbing : IsTrue (each_may_follow_level 0 t.entries)
