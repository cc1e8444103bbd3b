use Rattle.std.proofs.Common.{◌≡◌, ◌-◌, length, ap, sym}
use Rattle.ilk_base.proofs.Tested.{list_all-slice_get}
use Rattle.ilk_cnf.specs.Formula.{Formula, is_clause_over}
use Rattle.ilk_cnf.specs.Literal.{has_distinct_vars}
use Rattle.ilk_cnf.proofs.cnf.Cnf.clause.Goals as goal

pub returns-clause-within : goal.returns-clause-within
returns-clause-within c =
    let vars : length c.self.inside.marks.items ≡ c.args.self.now.vars = ap (λ (f : Formula). f.vars) c.self.view_is in
    rw (sym vars) (list_all-slice_get (is_clause_over (length c.self.inside.marks.items)) c.self.inside.clauses (c.args.n - 1) c.at.result.now c.self.invariant.within c.at.ensures)

pub returns-clause-differ : goal.returns-clause-differ
returns-clause-differ c =
    list_all-slice_get has_distinct_vars c.self.inside.clauses (c.args.n - 1) c.at.result.now c.self.invariant.differ c.at.ensures
