use Rattle.std.proofs.Common.{◌≡◌, replicate}
use Rattle.ilk_tablegen.proofs.flags.uniform_flags.Given as goal

abbrev pub invariant-loop-x : goal.invariant-loop-x
invariant-loop-x l =
    l.flags ≡ replicate l._x l.flag
