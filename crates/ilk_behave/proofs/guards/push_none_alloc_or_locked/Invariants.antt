use Rattle.std.proofs.Common.{◌≡◌, ◌++◌, drop, map}
use Rattle.std.specs.List.{flat_map}
use Rattle.ilk_ir.specs.Form.{tree_of}
use Rattle.ilk_behave.specs.Guards as guards
use Rattle.ilk_behave.proofs.guards.push_none_alloc_or_locked.Given as goal

abbrev pub invariant-loop-r : goal.invariant-loop-r
invariant-loop-r l =
    map tree_of l.forms.items ++ flat_map guards.neither_allocating_nor_locked (drop l.r-index l.r-items) ≡ map tree_of l.initial.forms.items ++ flat_map guards.neither_allocating_nor_locked l.r-items
