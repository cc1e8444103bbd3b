-- Used only in private contracts and proofs: the step learned from a conflict.
use Rattle.std.specs.Prelude.{ℕ, ◌≡◌, IsTrue, ◌++◌, ◌∷◌, []}
use Rattle.ilk_log.specs.declared.step.Step.{Step}
use Rattle.ilk_log.specs.Derived.{is_derived}
use Rattle.ilk_log.specs.Fresh.{IsEmpowering}
use Rattle.ilk_learn.specs.Asserting.{back_level, is_false_in_asserting_order}
use Rattle.ilk_solver.specs.Search.{FormulaLogAndView, all_clauses}

-- Holds if `step` was learned from a conflict. It is derived and fresh, and all its literals are
-- false. After going back to `level` it forces its first literal.
pub record IsLearnedAssertingStep (s : FormulaLogAndView) (step : Step) (level : ℕ) : Type 0 where
  pub derived : IsTrue (is_derived s.formula.vars (all_clauses s) step)
  pub fresh : IsEmpowering (all_clauses s) step.clause
  pub asserting : IsTrue (is_false_in_asserting_order s.view.trail.entries step.clause)
  pub back : level ≡ back_level s.view.trail.entries step.clause

-- Holds if `new` has the formula of `old`, and its log with `step` at the end.
pub record HasOneStepMore (old : FormulaLogAndView) (step : Step) (new : FormulaLogAndView) : Type 0 where
  pub formula : new.formula ≡ old.formula
  pub log : new.log ≡ old.log ++ step ∷ []
