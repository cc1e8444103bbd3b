use Rattle.std.proofs.Common.{◌≡◌, ℕ, ◌∙◌, List, Some, slice_get, sym, ap}
use Rattle.ilk_cnf.specs.Part.{with_part}
use Rattle.ilk_ir.specs.Form.{trees_of}
use Rattle.ilk_ir.specs.Tree.{all_of, each_valid}
use Rattle.ilk_ir.specs.declared.form.Form.{Form}
use Rattle.ilk_forms.specs.declared.copy.VarValueAndBoundLits.{VarValueAndBoundLits}
use Rattle.ilk_forms.specs.Leaf.{ranges_of_copy_lits}
use Rattle.ilk_forms.specs.Violated.{form_fails_part}
use Rattle.ilk_unroll.specs.Goal.{demand_form_fails_in_copy}
use Rattle.ilk_unroll.proofs.CopiesLaw.{within-at, valid-at}
use Rattle.ilk_unroll.proofs.DemandsLaw.{one-made, table-is}
use Rattle.ilk_unroll.proofs.demands.demand_violated.Goals as goal

pub demand_some_form_fails-requires-clause-within : goal.demand_some_form_fails-requires-clause-within
demand_some_form_fails-requires-clause-within c = within-at c.args.tables.now c.args.cnf.now.vars c.from.result c.at.result.now c.requires.within c.at.ensures

pub demand_some_form_fails-requires-clause-valid : goal.demand_some_form_fails-requires-clause-valid
demand_some_form_fails-requires-clause-valid c =
    let table = c.at.result.now in
    ap (λ (fs : List Form). each_valid (ranges_of_copy_lits table) (trees_of fs)) c.as_slice.ensures
    ∙ valid-at c.args.tables.now (all_of (trees_of c.args.forms.now)) c.from.result table c.requires.valid c.at.ensures

pub returns : goal.returns
returns c =
    let tables = c.args.tables.now in
    let t = all_of (trees_of c.args.forms.now) in
    let f = c.args.cnf.now in
    let at : slice_get tables c.args.copy ≡ Some c.at.result.now = ap (λ (i : ℕ). slice_get tables i) (sym c.from.ensures) ∙ c.at.ensures in
    one-made tables (demand_form_fails_in_copy c.args.copy t) f c.demand_some_form_fails.new.cnf
    (c.in_ok-demand_some_form_fails.ensures.made
    ∙ ap
    (λ (fs : List Form). with_part f
    (form_fails_part c.at.result.now (all_of (trees_of fs)) f.vars))
    c.as_slice.ensures
    ∙ ap (λ (table : List VarValueAndBoundLits). with_part f (form_fails_part table t f.vars))
    (sym (table-is tables c.args.copy c.at.result.now at)))
