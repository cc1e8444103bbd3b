use Rattle.std.specs.Prelude.{◌≡◌, Bool, List, IsTrue, length}
use Rattle.ilk_cnf.specs.Formula.{Formula}
use Rattle.ilk_cnf.specs.Truth.{satisfies}

-- Holds if some assignment of its variables satisfies formula `f`.
pub record IsSatisfiable (f : Formula) : Type 0 where
  pub assignment : List Bool
  pub size : length assignment ≡ f.vars
  pub satisfied : IsTrue (satisfies assignment f.clauses)
