use Rattle.std.specs.Prelude.{ℕ, ◌≡◌, [], ◌∷◌, List, ◌++◌, IsTrue, count_by, replicate}
use Rattle.ilk_cnf.specs.Literal.{Literal, has_var, positive_lit}
use Rattle.ilk_cnf.specs.Formula.{Formula, is_lit_over}
use Rattle.ilk_log.specs.declared.step.Step.{Step}
use Rattle.ilk_log.specs.Derived.{step_clauses}
use Rattle.ilk_trail.specs.declared.entry.Entry.{Entry}
use Rattle.ilk_watches.specs.Reasons.{HasReasons}
use Rattle.ilk_solver.specs.View.{TrailAndWeights, weight_of, with_trail_entries}
use Rattle.ilk_solver.specs.Levels.{LowerLevelsAreSaturated}

-- The content of a search: the formula, the steps so far, and the view.
pub record FormulaLogAndView : Type 0 where
  pub formula : Formula
  pub log : List Step
  pub view : TrailAndWeights

-- Returns the clauses of the formula, then those of the steps.
abbrev pub all_clauses : FormulaLogAndView → List (List Literal)
all_clauses s = s.formula.clauses ++ step_clauses s.log

-- Returns the search for `f` at its start: no steps, nothing set, and all weights 0.
abbrev pub new_search : Formula → FormulaLogAndView
new_search f = record { formula = f; log = []; view = record { trail = record { vars = f.vars; entries = [] }; weights = replicate f.vars 0 } }

-- Returns the search with `entries` on its trail.
abbrev pub with_trail : FormulaLogAndView → List Entry → FormulaLogAndView
with_trail s entries = record s { view = with_trail_entries s.view entries }

-- Holds if the weight of each variable is the number of steps in `log` whose clause contains it.
abbrev pub WeightsCountStepsWithVar : List Step → TrailAndWeights → Type 0
WeightsCountStepsWithVar log view = (v : ℕ) → IsTrue (is_lit_over view.trail.vars (positive_lit v)) → weight_of view v ≡ count_by (has_var v) (step_clauses log)

-- Holds for every search between calls. Each forced entry has a reason, propagation is complete at
-- each level below the current one, and the weights count the steps.
pub record IsSearch (s : FormulaLogAndView) : Type 0 where
  pub vars : s.view.trail.vars ≡ s.formula.vars
  pub reasons : HasReasons (all_clauses s) s.view.trail.entries
  pub closed : LowerLevelsAreSaturated (all_clauses s) s.view.trail.entries
  pub weighed : WeightsCountStepsWithVar s.log s.view

-- Holds if `new` is `old` with `step` at the end of its log. Only the weights may differ otherwise.
pub record HasStepAdded (old : FormulaLogAndView) (step : Step) (new : FormulaLogAndView) : Type 0 where
  pub formula : new.formula ≡ old.formula
  pub log : new.log ≡ old.log ++ step ∷ []
  pub trail : new.view.trail ≡ old.view.trail
