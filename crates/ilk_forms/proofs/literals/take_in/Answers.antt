use Rattle.ilk_forms.proofs.GatheredSteps.{taken-made, on_ok}
use Rattle.ilk_forms.proofs.literals.take_in.Goals as goal

pub returns-clause-made : goal.returns-clause-made
returns-clause-made c =
    on_ok c.one.result
    (taken-made c.args.gates.now c.args.cnf.now c.combined_lit.new.cnf c.args.outer c.args.inner c.as_slice.result.now c.args.lits c.if-outer-inner.false c.as_slice.ensures c.in_ok-lit.ensures.made)
