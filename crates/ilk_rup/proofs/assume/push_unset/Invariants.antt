use Rattle.std.proofs.Common.{◌≡◌, ◌++◌, take}
use Rattle.std.specs.Prelude.{not}
use Rattle.std.specs.List.{filter}
use Rattle.ilk_trail.specs.Laws.{is_set}
use Rattle.ilk_rup.proofs.assume.push_unset.Given as goal

abbrev pub invariant-loop-i : goal.invariant-loop-i
invariant-loop-i l = l.clause ≡ l.initial.clause ++ filter (λ x. not (is_set l.trail.entries x.var)) (take l.i l.set.lits)
