use Rattle.std.proofs.Common.{map}
use Rattle.ilk_base.proofs.Ranges.{grows_if}
use Rattle.ilk_ir.specs.Form.{tree_of}
use Rattle.ilk_ir.specs.Tree.{negation}
use Rattle.ilk_plant.specs.declared.state.Mode.TheVariants.{Locked}
use Rattle.ilk_routes.specs.Boards.{is_protecting_board}
use Rattle.ilk_layout.specs.Conditions.{mode_is}
use Rattle.ilk_behave.proofs.route_rules.push_no_protector_locked.Goals as goal

pub loop-q-preserved : goal.loop-q-preserved
loop-q-preserved c =
    grows_if (λ q. negation (mode_is q Locked)) (λ q. is_protecting_board c.args.plant.now q c.args.m) c.loop-q.q
    c.is_protecting_board.result (map tree_of c.args.forms.now.items) (map tree_of c.loop-q.forms.items)
    (map tree_of c.push_not_locked_if.new.forms.items) c.is_protecting_board.ensures c.loop-q.invariant
    c.in_ok-push_not_locked_if.ensures
