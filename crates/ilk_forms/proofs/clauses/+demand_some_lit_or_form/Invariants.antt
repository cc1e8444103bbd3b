use Rattle.std.proofs.Common.{◌++◌, drop}
use Rattle.ilk_cnf.specs.Part.{with_part}
use Rattle.ilk_ir.specs.Form.{trees_of}
use Rattle.ilk_forms.specs.Demand.{demand_each}
use Rattle.ilk_forms.proofs.DemandSteps.{Demanding}
use Rattle.ilk_forms.proofs.clauses.+demand_some_lit_or_form.Given as goal

abbrev pub invariant-demand_each-loop-form : goal.invariant-demand_each-loop-form
invariant-demand_each-loop-form l =
    Demanding l.table l.first l.positive l.cnf l.gates (trees_of (drop l.form-index l.forms))
    (with_part l.fn.cnf (demand_each l.table l.first l.positive (trees_of l.forms) l.fn.gates l.fn.cnf.vars).part)
    (l.fn.gates ++ (demand_each l.table l.first l.positive (trees_of l.forms) l.fn.gates l.fn.cnf.vars).gates)
