use Rattle.std.proofs.Common.{◌≡◌, take}
use Rattle.ilk_log.specs.Conflicts.{count_learned_clauses}
use Rattle.ilk_log.proofs.conflicts.count_learned_clauses.Given as goal

abbrev pub invariant-loop-step : goal.invariant-loop-step
invariant-loop-step l = l.count ≡ count_learned_clauses (take l.step-index l.step-items)
