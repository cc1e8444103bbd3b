use Rattle.std.proofs.Common.{map}
use Rattle.ilk_ir.specs.Form.{tree_of}
use Rattle.ilk_plant.specs.Plant.{next_to}
use Rattle.ilk_props.specs.WellformedForm.{joined_by_train}
use Rattle.ilk_props.proofs.Made.{next_made}
use Rattle.ilk_props.proofs.wellformed.next_has_train.Goals as goal

pub loop-i-preserved : goal.loop-i-preserved
loop-i-preserved c =
    next_made (joined_by_train c.args.plant.now c.args.x c.args.d c.args.side)
    (next_to c.args.plant.now c.args.x c.args.side) c.loop-i.i (map tree_of c.loop-i.some.items)
    (map tree_of c.push_neighbour_has_train.new.some.items) _ c.loop-i.invariant
    c.in_ok-push_neighbour_has_train.ensures
