use Rattle.std.proofs.Common.{drop, ◌++◌}
use Rattle.ilk_cnf.specs.Part.{with_part}
use Rattle.ilk_ir.specs.Form.{trees_of}
use Rattle.ilk_forms.specs.Gates.{gates_part}
use Rattle.ilk_forms.specs.Gathered.{forms_to_and_or_lits}
use Rattle.ilk_forms.proofs.GatheredSteps.{Gathering}
use Rattle.ilk_forms.proofs.literals.+form_to_and_or_lits.Given as goal

abbrev pub invariant-forms_to_and_or_lits-loop-form : goal.invariant-forms_to_and_or_lits-loop-form
invariant-forms_to_and_or_lits-loop-form l =
    Gathering l.table l.all l.positive l.cnf l.gates l.lits (trees_of (drop l.form-index l.forms))
    (forms_to_and_or_lits l.table l.all l.positive (trees_of l.forms) l.fn.gates l.fn.cnf.vars).lits
    (l.fn.gates ++ (forms_to_and_or_lits l.table l.all l.positive (trees_of l.forms) l.fn.gates l.fn.cnf.vars).gates)
    (with_part l.fn.cnf (gates_part (forms_to_and_or_lits l.table l.all l.positive (trees_of l.forms) l.fn.gates l.fn.cnf.vars).gates l.fn.cnf.vars))
