use Rattle.std.proofs.Common.{◌≡◌, take}
use Rattle.ilk_rup.specs.Needs.{TrailAssumesNegatedLits}
use Rattle.ilk_rup.proofs.assume.assume_negations.Given as goal

abbrev pub invariant-loop-i : goal.invariant-loop-i
invariant-loop-i l = record {
  trail : l.trail ≡ record l.initial.trail { entries = l.trail.entries };
  assumed : TrailAssumesNegatedLits (take l.i l.set.lits) l.initial.trail.entries l.trail.entries;
}
