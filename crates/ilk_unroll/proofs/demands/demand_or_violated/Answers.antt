use Rattle.std.proofs.Common.{◌≡◌, ℕ, ◌∙◌, List, Some, slice_get, sym, ap}
use Rattle.std.proofs.lemmas.Bool.{and_parts}
use Rattle.ilk_cnf.specs.Part.{with_part}
use Rattle.ilk_ir.specs.Form.{tree_of, trees_of}
use Rattle.ilk_ir.specs.Tree.{all_of, more, negation, tree_valid, each_valid}
use Rattle.ilk_ir.specs.declared.form.Form.{Form}
use Rattle.ilk_forms.specs.declared.copy.VarValueAndBoundLits.{VarValueAndBoundLits}
use Rattle.ilk_forms.specs.Leaf.{ranges_of_copy_lits}
use Rattle.ilk_forms.specs.Violated.{form_fails_part}
use Rattle.ilk_unroll.specs.Goal.{demand_form_fails_in_copy}
use Rattle.ilk_unroll.proofs.CopiesLaw.{within-at, valid-at}
use Rattle.ilk_unroll.proofs.DemandsLaw.{one-made, table-is}
use Rattle.ilk_unroll.proofs.demands.demand_or_violated.Goals as goal

pub demand_form_or_some_fail-requires-clause-within : goal.demand_form_or_some_fail-requires-clause-within
demand_form_or_some_fail-requires-clause-within c = within-at c.args.tables.now c.args.cnf.now.vars c.from.result c.at-table.result.now c.requires.within c.at-table.ensures

pub demand_form_or_some_fail-requires-clause-form : goal.demand_form_or_some_fail-requires-clause-form
demand_form_or_some_fail-requires-clause-form c =
    let table = c.at-table.result.now in
    let ranges = ranges_of_copy_lits table in
    let t = tree_of c.args.form.now in
    let ts = trees_of c.args.forms.now in
    (and_parts (tree_valid ranges t) (each_valid ranges ts) (valid-at c.args.tables.now (all_of (more (negation t) ts)) c.from.result table c.requires.valid c.at-table.ensures)).0

pub demand_form_or_some_fail-requires-clause-valid : goal.demand_form_or_some_fail-requires-clause-valid
demand_form_or_some_fail-requires-clause-valid c =
    let table = c.at-table.result.now in
    let ranges = ranges_of_copy_lits table in
    let t = tree_of c.args.form.now in
    let ts = trees_of c.args.forms.now in
    ap (λ (fs : List Form). each_valid ranges (trees_of fs)) c.as_slice.ensures
    ∙ (and_parts (tree_valid ranges t) (each_valid ranges ts) (valid-at c.args.tables.now (all_of (more (negation t) ts)) c.from.result table c.requires.valid c.at-table.ensures)).1

pub returns : goal.returns
returns c =
    let tables = c.args.tables.now in
    let first = tree_of c.args.form.now in
    let t = all_of (more (negation first) (trees_of c.args.forms.now)) in
    let f = c.args.cnf.now in
    let at : slice_get tables c.args.copy ≡ Some c.at-table.result.now = ap (λ (i : ℕ). slice_get tables i) (sym c.from.ensures) ∙ c.at-table.ensures in
    one-made tables (demand_form_fails_in_copy c.args.copy t) f c.demand_form_or_some_fail.new.cnf
    (c.in_ok-demand_form_or_some_fail.ensures.made
    ∙ ap
    (λ (fs : List Form). with_part f
    (form_fails_part c.at-table.result.now (all_of (more (negation first) (trees_of fs)))
    f.vars))
    c.as_slice.ensures
    ∙ ap (λ (table : List VarValueAndBoundLits). with_part f (form_fails_part table t f.vars))
    (sym (table-is tables c.args.copy c.at-table.result.now at)))
