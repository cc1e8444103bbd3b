use Rattle.std.specs.Prelude.{ℕ, ◌≡◌, false, eqb, List, length}
use Rattle.std.specs.List.{IsDistinct}
use Rattle.ilk_cnf.specs.Literal.{Literal}
use Rattle.ilk_cnf.specs.Formula.{Formula, IsFormula}
use Rattle.ilk_arena.specs.Arena.{ArenaContent, with_clause_added, contains_reference}
use Rattle.ilk_arena.specs.Chains.{EachLongClauseWatchesTwo}

-- Returns the formula of the arena's clauses.
abbrev pub formula_of : ArenaContent → Formula
formula_of a = record { vars = a.vars; clauses = a.clauses }

-- Holds if the arena is valid, its clauses are a formula, and each has its own reference.
pub record AreValidNumberedClauses (a : ArenaContent) : Type 0 where
  pub formula : IsFormula (formula_of a)
  pub arena : EachLongClauseWatchesTwo a
  pub paired : length a.references ≡ length a.clauses
  pub once : IsDistinct eqb a.references

-- Holds if both arenas have the same clauses at the same references. Watches and cursors may
-- differ.
pub record SameClauses (a b : ArenaContent) : Type 0 where
  pub vars : b.vars ≡ a.vars
  pub references : b.references ≡ a.references
  pub clauses : b.clauses ≡ a.clauses

-- Holds if `new` is `old` with `clause` added at a new reference.
pub record IsClauseAdded (old : ArenaContent) (clause : List Literal) (new : ArenaContent) : Type 0 where
  pub reference : ℕ
  pub fresh : contains_reference reference old.references ≡ false
  pub is : new ≡ with_clause_added old clause reference new.spare
