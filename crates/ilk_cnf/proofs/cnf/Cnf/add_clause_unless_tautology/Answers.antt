use Rattle.std.proofs.Common.{◌≡◌, ◌∙◌, sym, true}
use Rattle.ilk_cnf.specs.Literal.{has_distinct_vars}
use Rattle.ilk_cnf.proofs.Distinct.{of_in}
use Rattle.ilk_cnf.proofs.MarkedVars.{differ-clause}
use Rattle.ilk_cnf.proofs.cnf.Cnf.add_clause_unless_tautology.Goals as goal
use Rattle.ilk_cnf.proofs.cnf.Cnf.add_clause_unless_tautology.Goals.{else-lits-gt-FEW-via-then-lits-gt-FEW+else-has_distinct_vars, else-lits-gt-FEW-via-else-lits-gt-FEW}

pub add-requires : goal.add-requires
add-requires c =
    let same : c.else-lits-gt-FEW.self ≡ c.args.self.now = elim c.else-lits-gt-FEW.branch [
      | else-lits-gt-FEW-via-then-lits-gt-FEW+else-has_distinct_vars w ↦ w.self-is ∙ w.has_distinct_vars.ensures.same
      | else-lits-gt-FEW-via-else-lits-gt-FEW w ↦ w.self-is
    ] in
    of_in c.else-lits-gt-FEW.self.vars c.args.lits.now c.in-Some.clause _ c.in-Some.is c.in_ok-clause.ensures (rw same c.requires)

pub returns-then-has_distinct_vars-clause-ok : goal.returns-then-has_distinct_vars-clause-ok
returns-then-has_distinct_vars-clause-ok c =
    let differ : has_distinct_vars c.args.lits.now ≡ true = sym c.has_distinct_vars.ensures.differ ∙ c.if-has_distinct_vars.true in
    rw (differ-clause c.args.lits.now differ) (rw c.has_distinct_vars.ensures.same at c.push.ensures.ok)
