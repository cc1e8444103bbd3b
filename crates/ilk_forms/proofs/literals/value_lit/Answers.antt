use Rattle.ilk_forms.proofs.Reading.{read-in}
use Rattle.ilk_forms.proofs.literals.value_lit.Goals as goal

pub returns-clause-within : goal.returns-clause-within
returns-clause-within c =
    λ n h. read-in c.args.table.now c.from.result c.from-2.result n c.at.result.now c.at-2.result.now c.at.ensures c.at-2.ensures h
