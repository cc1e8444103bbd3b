use Rattle.std.proofs.Common.{◌≡◌, drop}
use Rattle.ilk_ir.specs.Tree.{tree_holds, each_holds, some_holds}
use Rattle.ilk_ir.specs.Form.{tree_of, trees_of}
use Rattle.ilk_ir.proofs.form.+holds_of.Given as goal

abbrev pub decreases-holds_of : goal.decreases-holds_of
decreases-holds_of l = goal.size-holds_of l

abbrev pub invariant-loop-f : goal.invariant-loop-f
invariant-loop-f l = each_holds l.values (trees_of (drop l.f-index l.f-items)) ≡ tree_holds l.values (tree_of l.form)

abbrev pub invariant-loop-f-2 : goal.invariant-loop-f-2
invariant-loop-f-2 l = some_holds l.values (trees_of (drop l.f-index l.f-items)) ≡ tree_holds l.values (tree_of l.form)
