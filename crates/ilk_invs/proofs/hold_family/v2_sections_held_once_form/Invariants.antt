use Rattle.std.proofs.Common.{◌≡◌, map}
use Rattle.std.specs.List.{flat_map, range_with_len}
use Rattle.ilk_ir.specs.Form.{tree_of}
use Rattle.ilk_invs.specs.HoldFamilies.{at_most_one_holder}
use Rattle.ilk_invs.proofs.hold_family.v2_sections_held_once_form.Given as goal

abbrev pub invariant-loop-x : goal.invariant-loop-x
invariant-loop-x l =
    map tree_of l.forms.items ≡ flat_map (at_most_one_holder l.plant) (range_with_len 0 l.x)
