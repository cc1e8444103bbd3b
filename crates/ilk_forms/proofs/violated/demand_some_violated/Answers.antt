use Rattle.std.proofs.Common.{◌∙◌, ap}
use Rattle.ilk_cnf.specs.Formula.{is_clause_over}
use Rattle.ilk_cnf.proofs.Gates.{opposites-in}
use Rattle.ilk_forms.proofs.violated.demand_some_violated.Goals as goal

pub add_clause_unless_tautology-requires : goal.add_clause_unless_tautology-requires
add_clause_unless_tautology-requires c = ap (is_clause_over c.args.cnf.now.vars) (c.as_slice.ensures ∙ c.in_ok-violated.ensures) ∙ opposites-in c.args.cnf.now.vars c.args.kept.now c.requires
