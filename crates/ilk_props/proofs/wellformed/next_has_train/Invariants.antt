use Rattle.std.proofs.Common.{◌≡◌, ◌++◌, drop, map}
use Rattle.ilk_ir.specs.Form.{tree_of}
use Rattle.ilk_plant.specs.Plant.{next_to}
use Rattle.ilk_props.specs.WellformedForm.{joined_by_train}
use Rattle.ilk_props.proofs.wellformed.next_has_train.Given as goal

abbrev pub invariant-loop-i : goal.invariant-loop-i
invariant-loop-i l =
    map tree_of l.some.items ++ map (joined_by_train l.plant l.x l.d l.side) (drop l.i (next_to l.plant l.x l.side)) ≡ map (joined_by_train l.plant l.x l.d l.side) (next_to l.plant l.x l.side)
