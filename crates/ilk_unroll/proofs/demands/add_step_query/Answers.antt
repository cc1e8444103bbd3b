use Rattle.std.proofs.Common.{◌∷◌, []}
use Rattle.ilk_ir.specs.Form.{tree_of, trees_of}
use Rattle.ilk_ir.specs.Tree.{all_of, more, negation}
use Rattle.ilk_unroll.specs.Goal.{demand_form_fails_in_copy, form_demands_below_copy}
use Rattle.ilk_unroll.proofs.DemandsLaw.{demands-then}
use Rattle.ilk_unroll.proofs.demands.add_step_query.Goals as goal

pub returns : goal.returns
returns c =
    let n = c.args.steps in
    let families = trees_of c.args.goal.now.families in
    let below = form_demands_below_copy (all_of (more (tree_of c.args.goal.now.wellformed) families)) n in
    let last = demand_form_fails_in_copy n (all_of (more (negation (tree_of c.args.goal.now.hazard)) families)) ∷ [] in
    demands-then below last c.args.tables.now c.args.cnf.now c.demand_all_below.new.cnf c.demand_or_violated.new.cnf
    c.in_ok-demand_all_below.ensures.made c.in_ok-demand_or_violated.ensures
