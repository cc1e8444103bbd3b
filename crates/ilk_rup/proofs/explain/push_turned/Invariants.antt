use Rattle.std.proofs.Common.{◌≡◌, ◌≤◌, ◌++◌, length, take, reverse}
use Rattle.ilk_rup.proofs.explain.push_turned.Given as goal

abbrev pub invariant-loop-i : goal.invariant-loop-i
invariant-loop-i l = record { low : l.i ≤ length l.numbers; rest : l.hints ++ reverse (take l.i l.numbers) ≡ l.initial.hints ++ reverse l.numbers }

abbrev pub decreases-loop-i : goal.decreases-loop-i
decreases-loop-i l = l.i
