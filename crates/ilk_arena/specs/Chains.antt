use Rattle.std.specs.Prelude.{ℕ, ◌≡◌, ◌≢◌, ◌<◌, ◌≤◌, ◌↔◌, ◌⊎◌, false, eqb, length, IsTrue}
use Rattle.std.specs.List.{IsDistinct}
use Rattle.ilk_cnf.specs.Literal.{Literal, has_lit}
use Rattle.ilk_arena.specs.Arena.{ArenaContent, chain_of, contains_reference, literals_of}

-- Holds if clause `c` is in exactly two chains: those of `x` and `y`, two different literals of its
-- own.
pub record WatchesTwo (a : ArenaContent) (c : ℕ) (x y : Literal) : Type 0 where
  pub differ : x ≢ y
  pub first : IsTrue (has_lit x (literals_of a c))
  pub second : IsTrue (has_lit y (literals_of a c))
  pub exactly : (l : Literal) → IsTrue (contains_reference c (chain_of a l)) ↔ ((l ≡ x) ⊎ (l ≡ y))

-- Holds if each clause of two or more literals is in exactly two chains, those of two of its
-- literals. Shorter clauses are in none. A chain has only references of clauses, each once.
pub record EachLongClauseWatchesTwo (a : ArenaContent) : Type 0 where
  pub long : (c : ℕ) → IsTrue (contains_reference c a.references) → 2 ≤ length (literals_of a c) → (x y : Literal) × WatchesTwo a c x y
  pub short : (c : ℕ) → IsTrue (contains_reference c a.references) → length (literals_of a c) < 2 → (l : Literal) → contains_reference c (chain_of a l) ≡ false
  pub once : (l : Literal) → IsDistinct eqb (chain_of a l)
  pub held : (l : Literal) (c : ℕ) → IsTrue (contains_reference c (chain_of a l)) → IsTrue (contains_reference c a.references)
