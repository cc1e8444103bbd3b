use Rattle.std.proofs.Common.{◌≡◌, map}
use Rattle.std.specs.List.{flat_map, range_with_len}
use Rattle.ilk_ir.specs.Form.{tree_of}
use Rattle.ilk_props.specs.WellformedForm.{section_demands}
use Rattle.ilk_props.proofs.wellformed.all_demands.Given as goal

abbrev pub invariant-loop-x : goal.invariant-loop-x
invariant-loop-x l = map tree_of l.demands.items ≡ flat_map (section_demands l.plant) (range_with_len 0 l.x)
