use Rattle.std.proofs.Common.{◌≡◌, true, take}
use Rattle.ilk_log.specs.Propagation.{is_saturated}
use Rattle.ilk_trail.specs.Laws.{lits_of}
use Rattle.ilk_watches.proofs.scan.find.Given as goal

abbrev pub invariant-loop-c : goal.invariant-loop-c
invariant-loop-c l = is_saturated (take l.c l.clauses.clauses) (lits_of l.trail.entries) ≡ true
