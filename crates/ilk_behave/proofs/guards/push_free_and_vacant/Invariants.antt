use Rattle.std.proofs.Common.{◌≡◌, ◌++◌, drop, map}
use Rattle.std.specs.List.{flat_map}
use Rattle.ilk_ir.specs.Form.{tree_of}
use Rattle.ilk_behave.specs.Guards as guards
use Rattle.ilk_behave.proofs.guards.push_free_and_vacant.Given as goal

abbrev pub invariant-loop-x : goal.invariant-loop-x
invariant-loop-x l =
    map tree_of l.forms.items ++ flat_map (guards.free_and_vacant_at l.plant) (drop l.x-index l.x-items) ≡ map tree_of l.initial.forms.items ++ flat_map (guards.free_and_vacant_at l.plant) l.x-items
