use Rattle.std.proofs.Common.{◌∙◌, ◌∷◌, [], List, sym, ap}
use Rattle.ilk_cnf.specs.Part.{with_part}
use Rattle.ilk_ir.specs.Form.{tree_of, trees_of}
use Rattle.ilk_ir.specs.Tree.{all_of, more}
use Rattle.ilk_unroll.specs.Goal.{CopyDemand, demand_form_holds_in_copy, form_demands_below_copy}
use Rattle.ilk_unroll.specs.Query.{demands_part}
use Rattle.ilk_unroll.proofs.DemandsLaw.{nothing-made, demands-then, form_demands_below_copy-more}
use Rattle.ilk_unroll.proofs.demands.demand_all_below.Goals as goal

pub loop-copy-init : goal.loop-copy-init
loop-copy-init c = record { within = c.requires.within; made = nothing-made c.args.cnf.now }

pub loop-copy-preserved : goal.loop-copy-preserved
loop-copy-preserved c =
    let tables = c.args.tables.now in
    let t = all_of (more (tree_of c.args.form.now) (trees_of c.args.forms.now)) in
    let f = c.args.cnf.now in
    let i = c.loop-copy.copy in
    record {
      within = c.in_ok-demand_all_in.ensures.within;
      made = demands-then (form_demands_below_copy t i) (demand_form_holds_in_copy i t ∷ []) tables f c.loop-copy.cnf c.demand_all_in.new.cnf c.loop-copy.invariant.made c.in_ok-demand_all_in.ensures.made
          ∙ ap (λ (ds : List CopyDemand). with_part f (demands_part tables ds f.vars)) (sym (form_demands_below_copy-more t i));
    }
