use Rattle.std.proofs.Common.{◌≡◌, ◌++◌, drop, map}
use Rattle.ilk_ir.specs.Form.{tree_of}
use Rattle.ilk_layout.specs.Conditions.{no_train_at}
use Rattle.ilk_invs.proofs.route_families.push_each_section_vacant.Given as goal

abbrev pub invariant-loop-x : goal.invariant-loop-x
invariant-loop-x l =
    map tree_of l.forms.items ++ map (no_train_at l.plant) (drop l.x-index l.sections)
    ≡ map tree_of l.initial.forms.items ++ map (no_train_at l.plant) l.sections
