use Rattle.std.specs.Prelude.{List}
use Rattle.ilk_cnf.specs.Formula.{Formula}
use Rattle.ilk_cnf.specs.Literal.{Literal}
use Rattle.ilk_rup.specs.declared.base.DerivationState.{DerivationState}

-- The content of a checker: the formula, and the stored clauses. These are those of the formula and
-- those derived so far.
pub record FormulaAndStoredClauses : Type 0 where
  pub formula : Formula
  pub clauses : List (List Literal)

abbrev pub formula_and_clauses_of_base : DerivationState → FormulaAndStoredClauses
formula_and_clauses_of_base k = record { formula = k.formula.now; clauses = k.clauses.clauses }
