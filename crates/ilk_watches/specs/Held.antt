-- Used only in proofs: storage of the clauses.
use Rattle.std.specs.Prelude.{ℕ, ◌≡◌, List}
use Rattle.ilk_arena.specs.Arena.{ArenaContent}
use Rattle.ilk_watches.specs.Chained.{AreValidNumberedClauses}

-- Holds if `references` has the references of the arena's valid clauses, by number.
pub record AreClauseReferences (a : ArenaContent) (references : List ℕ) : Type 0 where
  pub row : references ≡ a.references
  pub clauses : AreValidNumberedClauses a
