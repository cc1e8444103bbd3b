use Rattle.std.proofs.Common.{◌≡◌, ◌≤◌, ◌-◌, take, reverse}
use Rattle.ilk_trail.specs.Laws.{lits_of}
use Rattle.ilk_rup.specs.Needs.{HintsFalsifyGivenNeededLits}
use Rattle.ilk_rup.proofs.explain.walk.Given as goal

abbrev pub invariant-loop-i : goal.invariant-loop-i
invariant-loop-i l = record {
  vars : l.needed.vars ≡ l.initial.needed.vars;
  low : l.from ≤ l.i;
  high : l.i ≤ l.top;
  shows : HintsFalsifyGivenNeededLits l.clauses.clauses (lits_of (take l.top l.trail.entries)) (lits_of (take l.i l.trail.entries)) l.set.lits l.needed.lits (reverse l.reasons.items);
}

abbrev pub decreases-loop-i : goal.decreases-loop-i
decreases-loop-i l = l.i - l.from
