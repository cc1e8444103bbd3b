-- Used only in private contracts and proofs: the relation between the fields of a search and the
-- search.
use Rattle.std.specs.Prelude.{ℕ, ◌≡◌, ◌≤◌, List, length, take}
use Rattle.ilk_cnf.specs.Formula.{Formula}
use Rattle.ilk_log.specs.declared.step.Step.{Step}
use Rattle.ilk_arena.specs.Arena.{ArenaContent}
use Rattle.ilk_watches.specs.Chained.{formula_of}
use Rattle.ilk_watches.specs.Watched.{IsPropagationInvariant}
use Rattle.ilk_solver.specs.View.{TrailAndWeights}
use Rattle.ilk_solver.specs.Search.{FormulaLogAndView, IsSearch, all_clauses}

-- Returns the search with these clauses, log and view. The first `given` clauses are those of the
-- formula.
abbrev pub search_with_log_and_view : Formula → ℕ → List Step → TrailAndWeights → FormulaLogAndView
search_with_log_and_view clauses given log view = record { formula = record { vars = clauses.vars; clauses = take given clauses.clauses }; log = log; view = view }

-- Holds if the clauses, the log and the view are those of a search. The first `given` clauses are
-- those of its formula.
pub record HoldsSearch (clauses : Formula) (given : ℕ) (log : List Step) (view : TrailAndWeights) : Type 0 where
  pub first : given ≤ length clauses.clauses
  pub laid : clauses.clauses ≡ all_clauses (search_with_log_and_view clauses given log view)
  pub search : IsSearch (search_with_log_and_view clauses given log view)

-- Holds if the arena's clauses, the log and the view are those of a search, and propagation has
-- progressed to entry `head` and clause `settled`.
pub record HoldsSearchPropagatedTo (clauses : ArenaContent) (head settled given : ℕ) (log : List Step) (view : TrailAndWeights) : Type 0 where
  pub search : HoldsSearch (formula_of clauses) given log view
  pub queue : IsPropagationInvariant clauses view.trail.entries head settled
