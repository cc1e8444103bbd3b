use Rattle.std.proofs.Common.{◌∙◌, IsTrue, sym}
use Rattle.ilk_base.proofs.Options.{IfSome-from}
use Rattle.ilk_cnf.specs.Formula.{is_lit_over}
use Rattle.ilk_forms.proofs.BoundLaw.{bound-in}
use Rattle.ilk_forms.proofs.bound.bound_lit_stated_by_or.Goals as goal

pub returns-clause-within : goal.returns-clause-within
returns-clause-within c =
    λ n h. IfSome-from c.bound_leaf.result (λ l. IsTrue (is_lit_over n l)) (λ l e. bound-in c.args.table.now c.in_ok-bound.bound.var c.in_ok-bound.bound.most n l h (sym c.bound_leaf.ensures ∙ e))
