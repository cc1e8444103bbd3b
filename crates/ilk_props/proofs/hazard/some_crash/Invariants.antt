use Rattle.std.proofs.Common.{◌≡◌, map}
use Rattle.std.specs.List.{range_with_len}
use Rattle.ilk_ir.specs.Form.{tree_of}
use Rattle.ilk_props.specs.HazardForm.{hazard_in_section}
use Rattle.ilk_props.proofs.hazard.some_crash.Given as goal

abbrev pub invariant-loop-x : goal.invariant-loop-x
invariant-loop-x l = map tree_of l.sections.items ≡ map (hazard_in_section l.plant) (range_with_len 0 l.x)
