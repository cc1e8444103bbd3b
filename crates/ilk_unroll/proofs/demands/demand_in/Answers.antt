use Rattle.std.proofs.Common.{◌≡◌, ℕ, ◌∙◌, [], List, Some, slice_get, sym, ap}
use Rattle.ilk_cnf.specs.Part.{with_part}
use Rattle.ilk_ir.specs.Form.{tree_of}
use Rattle.ilk_forms.specs.declared.copy.VarValueAndBoundLits.{VarValueAndBoundLits}
use Rattle.ilk_forms.specs.Demand.{some_lit_or_form_part}
use Rattle.ilk_unroll.specs.Goal.{demand_form_holds_in_copy}
use Rattle.ilk_unroll.proofs.CopiesLaw.{within-at, valid-at, are_copies_within_vars-more}
use Rattle.ilk_unroll.proofs.DemandsLaw.{one-made, table-is}
use Rattle.ilk_unroll.proofs.demands.demand_in.Goals as goal

pub demand_some_lit_or_form-requires-clause-within : goal.demand_some_lit_or_form-requires-clause-within
demand_some_lit_or_form-requires-clause-within c = within-at c.args.tables.now c.args.cnf.now.vars c.from.result c.at.result.now c.requires.within c.at.ensures

pub demand_some_lit_or_form-requires-clause-valid : goal.demand_some_lit_or_form-requires-clause-valid
demand_some_lit_or_form-requires-clause-valid c = valid-at c.args.tables.now (tree_of c.args.form.now) c.from.result c.at.result.now c.requires.valid c.at.ensures

pub returns-clause-made : goal.returns-clause-made
returns-clause-made c =
    let tables = c.args.tables.now in
    let t = tree_of c.args.form.now in
    let f = c.args.cnf.now in
    let at : slice_get tables c.args.copy ≡ Some c.at.result.now = ap (λ (i : ℕ). slice_get tables i) (sym c.from.ensures) ∙ c.at.ensures in
    one-made tables (demand_form_holds_in_copy c.args.copy t) f c.demand_some_lit_or_form.new.cnf
    (c.in_ok-demand_some_lit_or_form.ensures.made ∙ ap (λ (table : List VarValueAndBoundLits). with_part f (some_lit_or_form_part table [] t f.vars)) (sym (table-is tables c.args.copy c.at.result.now at)))

pub returns-clause-within : goal.returns-clause-within
returns-clause-within c = are_copies_within_vars-more c.args.cnf.now.vars c.demand_some_lit_or_form.new.cnf.vars c.args.tables.now c.in_ok-demand_some_lit_or_form.ensures.more c.requires.within
