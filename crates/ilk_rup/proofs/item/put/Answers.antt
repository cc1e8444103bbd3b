use Rattle.std.proofs.Common.{refl, sym, ap, ◌∙◌}
use Rattle.ilk_cnf.specs.Literal.{negated_lit}
use Rattle.ilk_learn.proofs.Members.{no-var}
use Rattle.ilk_rup.specs.LitSet.{LitSetList}
use Rattle.ilk_rup.specs.Items.{clash, more}
use Rattle.ilk_rup.proofs.Explaining.{not-in}
use Rattle.ilk_rup.proofs.Items.{other-sign}
use Rattle.ilk_rup.proofs.item.put.Goals as goal

pub returns-then-has_var-clause-put : goal.returns-then-has_var-clause-put
returns-then-has_var-clause-put c = clash refl (other-sign c.args.set.now.lits c.args.l (sym c.has_var.ensures ∙ c.if-has_var.true) (sym c.has.ensures ∙ c.if-has.false)) refl

pub returns-clause-put : goal.returns-clause-put
returns-clause-put c = more (ap (λ (s : LitSetList). s.lits) c.put.ensures) (not-in (negated_lit c.args.l) c.args.set.now.lits (λ t. no-var c.args.set.now.lits (negated_lit c.args.l) (sym c.has_var.ensures ∙ c.if-has_var.false) t)) refl
