-- The meaning of the answer of a search, and the properties of its log.
use Rattle.std.specs.Prelude.{ℕ, ◌≡◌, ◌≤◌, ◌<◌, ◌^◌, Bool, not, List, IsTrue, count_by, length}
use Rattle.std.specs.List.{list_all}
use Rattle.ilk_cnf.specs.Formula.{Formula}
use Rattle.ilk_cnf.specs.Truth.{satisfies}
use Rattle.ilk_log.specs.declared.step.Step.{Step}
use Rattle.ilk_log.specs.Derived.{is_derived_log, is_empty_clause, is_refutation}
use Rattle.ilk_log.specs.Fresh.{EachEmpowering, CanLearnButNotRefute}
use Rattle.ilk_solver.specs.declared.answer.Answer.{Answer}
use Rattle.ilk_solver.specs.declared.answer.Answer.TheVariants.{Sat, Unsat, Spent}

abbrev pub has_no_empty_step : List Step → Bool
has_no_empty_step log = list_all (λ s. not (is_empty_clause s.clause)) log

-- Holds for the log of a search with a budget. Each step is derived, each with a literal is fresh
-- (not implied by propagation alone), and at most `budget` have one.
pub record IsEmpoweringLogWithinBudget (f : Formula) (budget : ℕ) (log : List Step) : Type 0 where
  pub derived : IsTrue (is_derived_log f log)
  pub fresh : EachEmpowering f.clauses log
  pub few : count_by (λ s. not (is_empty_clause s.clause)) log ≤ budget

-- Holds if assignment `a` gives each variable of the formula a value, and satisfies it.
pub record IsSolution (f : Formula) (a : List Bool) : Type 0 where
  pub values : length a ≡ f.vars
  pub satisfies : IsTrue (satisfies a f.clauses)

-- Holds for the log of a search that has spent its budget: exactly `budget` steps, each with a
-- literal. Propagation doesn't refute the formula with them, and another fresh clause could be
-- derived. Over n variables the budget is below 3^n.
pub record IsSpentLog (f : Formula) (budget : ℕ) (log : List Step) : Type 0 where
  pub steps : length log ≡ budget
  pub unfinished : IsTrue (has_no_empty_step log)
  pub stuck : CanLearnButNotRefute f log
  pub small : budget < 3 ^ f.vars

-- Holds if the answer is right. `Sat`: its assignment satisfies the formula. `Unsat`: the log
-- refutes it. `Spent`: the log has spent the budget.
abbrev pub IsAnswer : Formula → ℕ → Answer → List Step → Type 0
IsAnswer f budget (Sat a) log = IsSolution f a
IsAnswer f budget Unsat log = IsTrue (is_refutation f log)
IsAnswer f budget Spent log = IsSpentLog f budget log
