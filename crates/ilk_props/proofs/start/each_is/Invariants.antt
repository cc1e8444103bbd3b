use Rattle.std.proofs.Common.{◌≡◌, ◌++◌, drop, map}
use Rattle.std.specs.List.{enumerate_from}
use Rattle.ilk_ir.specs.Form.{tree_of}
use Rattle.ilk_ir.specs.Tree.{is}
use Rattle.ilk_props.proofs.start.each_is.Given as goal

abbrev pub invariant-loop-v : goal.invariant-loop-v
invariant-loop-v l =
    map tree_of l.each.items ++ map (λ place. is place.0 place.1) (enumerate_from l.v (drop l.v l.values)) ≡ map (λ place. is place.0 place.1) (enumerate_from 0 l.values)
