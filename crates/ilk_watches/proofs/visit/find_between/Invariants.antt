use Rattle.ilk_trail.specs.Laws.{lits_of}
use Rattle.ilk_arena.specs.Arena.{literals_of}
use Rattle.ilk_watches.specs.Visits.{NoneMayWatch}
use Rattle.ilk_watches.proofs.visit.find_between.Given as goal

abbrev pub invariant-loop-i : goal.invariant-loop-i
invariant-loop-i l = NoneMayWatch (lits_of l.trail.entries) l.other (literals_of l.clauses l.c) l.from l.i
