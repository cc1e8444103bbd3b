use Rattle.std.proofs.Common.{◌≡◌, ◌++◌, take}
use Rattle.ilk_rup.specs.Needs.{unit_hints_of_needed}
use Rattle.ilk_rup.proofs.explain.push_units.Given as goal

abbrev pub invariant-loop-i : goal.invariant-loop-i
invariant-loop-i l = l.hints ≡ l.initial.hints ++ unit_hints_of_needed l.units (take l.i l.needed.lits)
