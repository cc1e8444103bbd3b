use Rattle.std.proofs.Common.{◌≡◌, ◌++◌}
use Rattle.ilk_layout.specs.Variables.{points_ranges}
use Rattle.ilk_layout.proofs.variables.push_points.Given as goal

abbrev pub invariant-loop-i : goal.invariant-loop-i
invariant-loop-i l = l.ranges ≡ l.initial.ranges ++ points_ranges l.i
