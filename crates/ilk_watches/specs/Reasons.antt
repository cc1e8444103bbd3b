-- Relations between the entries of a trail and the clauses.
use Rattle.std.specs.Prelude.{ℕ, ◌≡◌, ◌&&◌, Bool, List, [], Some, IsTrue, length, take, is_some, nat_lt, slice_get, slice_index_or}
use Rattle.ilk_cnf.specs.Literal.{Literal, has_lit}
use Rattle.ilk_log.specs.Fresh.{other_lits}
use Rattle.ilk_log.specs.Propagation.{is_falsified, unit_lit}
use Rattle.ilk_trail.specs.declared.entry.Entry.{Entry}
use Rattle.ilk_trail.specs.Laws.{lits_of}

-- Returns clause `c`, counted from 0, or the empty clause if there is none.
abbrev pub nth_clause_or_empty : List (List Literal) → ℕ → List Literal
nth_clause_or_empty clauses c = slice_index_or clauses c []

-- Returns whether clause `c` exists and is false: the opposite of each of its literals is in `set`.
abbrev pub is_conflict : List (List Literal) → List Literal → ℕ → Bool
is_conflict clauses set c = nat_lt c (length clauses) && is_falsified set (nth_clause_or_empty clauses c)

-- Returns whether one literal of clause `c` is unset and all others are false, if those in `set`
-- are true.
abbrev pub is_unit : List (List Literal) → List Literal → ℕ → Bool
is_unit clauses set c = is_some (unit_lit set (nth_clause_or_empty clauses c))

-- Returns whether clause `c` forces literal `l`: it has `l`, and all its other literals are false
-- if those in `set` are true.
abbrev pub clause_forces_lit : List (List Literal) → List Literal → Literal → ℕ → Bool
clause_forces_lit clauses set l c = has_lit l (nth_clause_or_empty clauses c) && is_falsified set (other_lits l (nth_clause_or_empty clauses c))

-- Holds if the reason of each forced entry is a clause that forces its literal under the entries
-- before it.
abbrev pub HasReasons : List (List Literal) → List Entry → Type 0
HasReasons clauses entries = (i : ℕ) (e : Entry) (c : ℕ) → slice_get entries i ≡ Some e → e.reason ≡ Some c → IsTrue (clause_forces_lit clauses (lits_of (take i entries)) e.lit c)
