use Rattle.std.proofs.Common.{◌∷◌, []}
use Rattle.ilk_ir.specs.Form.{tree_of}
use Rattle.ilk_unroll.specs.Goal.{demand_form_holds_in_copy, form_demands_below_copy}
use Rattle.ilk_unroll.proofs.DemandsLaw.{demands-then}
use Rattle.ilk_unroll.proofs.demands.add_hazard.Goals as goal

pub returns : goal.returns
returns c =
    let tables = c.args.tables.now in
    let start = demand_form_holds_in_copy 0 (tree_of c.args.goal.now.start) in
    let n = c.args.steps in
    let below = form_demands_below_copy (tree_of c.args.goal.now.wellformed) n in
    let f = c.args.cnf.now in
    demands-then (start ∷ below) (demand_form_holds_in_copy n (tree_of c.args.goal.now.hazard) ∷ []) tables f
    c.demand_below.new.cnf c.demand_in-2.new.cnf
    (demands-then (start ∷ []) below tables f c.demand_in.new.cnf c.demand_below.new.cnf
    c.in_ok-demand_in.ensures.made c.in_ok-demand_below.ensures.made)
    c.in_ok-demand_in-2.ensures.made
