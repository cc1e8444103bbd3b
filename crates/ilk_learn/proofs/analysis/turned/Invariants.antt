use Rattle.std.proofs.Common.{◌≡◌, ◌≤◌, ◌++◌, length, take, reverse}
use Rattle.ilk_learn.proofs.analysis.turned.Given as goal

abbrev pub invariant-loop-i : goal.invariant-loop-i
invariant-loop-i l = record { low : l.i ≤ length l.hints; rest : l.turned ++ reverse (take l.i l.hints) ≡ reverse l.hints }

abbrev pub decreases-loop-i : goal.decreases-loop-i
decreases-loop-i l = l.i
