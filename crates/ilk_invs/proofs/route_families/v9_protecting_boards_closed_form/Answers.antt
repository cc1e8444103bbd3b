use Rattle.std.proofs.Common.{◌∙◌, ap, ◌++◌, [], map}
use Rattle.ilk_ir.specs.Form.{tree_of}
use Rattle.ilk_plant.specs.declared.state.Aspect.TheVariants.{Closed}
use Rattle.ilk_plant.specs.declared.state.Mode.TheVariants.{Locked}
use Rattle.ilk_layout.specs.Conditions.{mode_is, is_board_aspect}
use Rattle.ilk_invs.specs.Parts.{implication}
use Rattle.ilk_invs.proofs.Pushed.{route_more}
use Rattle.ilk_invs.proofs.route_families.v9_protecting_boards_closed_form.Goals as goal

pub loop-r-preserved : goal.loop-r-preserved
loop-r-preserved c =
    route_more c.args.plant.now
    (λ q route. map (λ m. implication (mode_is q Locked) (is_board_aspect c.args.plant.now m Closed))
    route.protecting_boards) c.loop-r.r _ []
    (map tree_of c.loop-r.forms.items) (map tree_of c.push_closed_while_locked.new.forms.items)
    c.route.ensures.route c.loop-r.invariant
    (c.in_ok-push_closed_while_locked.ensures
    ∙ ap
    (λ boards. map tree_of c.loop-r.forms.items
    ++ map
    (λ m. implication (mode_is c.loop-r.r Locked) (is_board_aspect c.args.plant.now m Closed))
    boards)
    c.as_slice-boards.ensures)
