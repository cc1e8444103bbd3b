use Rattle.std.proofs.Common.{◌≡◌, ◌++◌, drop, map}
use Rattle.ilk_ir.specs.Form.{tree_of}
use Rattle.ilk_layout.specs.Conditions as conditions
use Rattle.ilk_behave.proofs.guards.push_detected_as_listed.Given as goal

abbrev pub invariant-loop-listed : goal.invariant-loop-listed
invariant-loop-listed l =
    map tree_of l.forms.items ++ map (conditions.is_listed_point_detected l.plant) (drop l.listed-index l.listed-items) ≡ map tree_of l.initial.forms.items ++ map (conditions.is_listed_point_detected l.plant) l.listed-items
