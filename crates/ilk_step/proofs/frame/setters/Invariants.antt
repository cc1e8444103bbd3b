use Rattle.std.proofs.Common.{◌≡◌, ◌+◌, ◌++◌, drop, map}
use Rattle.ilk_ir.specs.System.{plain_rule}
use Rattle.ilk_step.specs.Frame.{setter_lits}
use Rattle.ilk_step.proofs.frame.setters.Given as goal

abbrev pub invariant-loop-i : goal.invariant-loop-i
invariant-loop-i l = l.lits ++ setter_lits l.v (l.first + l.i) (map plain_rule (drop l.i l.rules)) ≡ setter_lits l.v l.first (map plain_rule l.rules)
