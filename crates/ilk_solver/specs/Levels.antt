use Rattle.std.specs.Prelude.{ℕ, ◌<◌, List, IsTrue}
use Rattle.ilk_cnf.specs.Literal.{Literal}
use Rattle.ilk_log.specs.Propagation.{is_saturated}
use Rattle.ilk_trail.specs.declared.entry.Entry.{Entry}
use Rattle.ilk_trail.specs.Trail.{level_of, entries_up_to}
use Rattle.ilk_trail.specs.Laws.{lits_of}

-- Holds if propagation is complete at each level below the current one: over the entries up to it,
-- no clause is false or forces a literal.
abbrev pub LowerLevelsAreSaturated : List (List Literal) → List Entry → Type 0
LowerLevelsAreSaturated clauses entries = (k : ℕ) → k < level_of entries → IsTrue (is_saturated clauses (lits_of (entries_up_to k entries)))
