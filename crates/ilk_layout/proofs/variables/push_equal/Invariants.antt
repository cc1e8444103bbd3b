use Rattle.std.proofs.Common.{◌≡◌, ◌++◌, replicate}
use Rattle.ilk_layout.proofs.variables.push_equal.Given as goal

abbrev pub invariant-loop-i : goal.invariant-loop-i
invariant-loop-i l = l.ranges ≡ l.initial.ranges ++ replicate l.i l.range
