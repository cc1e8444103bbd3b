use Rattle.std.proofs.Common.{◌≡◌, drop, None}
use Rattle.ilk_watches.specs.Reasons.{nth_clause_or_empty}
use Rattle.ilk_watches.proofs.Scanned.{scan}
use Rattle.ilk_watches.proofs.look.clause_state.Given as goal

abbrev pub invariant-loop-i : goal.invariant-loop-i
invariant-loop-i l = scan l.trail.entries l.unset (drop l.i (nth_clause_or_empty l.clauses.clauses l.c)) ≡ scan l.trail.entries None (nth_clause_or_empty l.clauses.clauses l.c)
