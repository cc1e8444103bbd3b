use Rattle.std.proofs.Common.{◌≡◌, ◌++◌, drop, map}
use Rattle.std.specs.List.{flat_map}
use Rattle.ilk_ir.specs.Form.{tree_of}
use Rattle.ilk_behave.specs.Guards as guards
use Rattle.ilk_behave.proofs.guards.push_points_free_vacant.Given as goal

abbrev pub invariant-loop-listed : goal.invariant-loop-listed
invariant-loop-listed l =
    map tree_of l.forms.items ++ flat_map (guards.free_and_vacant_at l.plant) (map (λ listed. listed.point) (drop l.listed-index l.listed-items))
    ≡ map tree_of l.initial.forms.items ++ flat_map (guards.free_and_vacant_at l.plant) (map (λ listed. listed.point) l.listed-items)
