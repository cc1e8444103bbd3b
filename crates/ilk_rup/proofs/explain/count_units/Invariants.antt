use Rattle.std.proofs.Common.{◌≡◌, ◌≤◌, length, take}
use Rattle.ilk_rup.specs.Needs.{unit_hints_of_needed}
use Rattle.ilk_rup.proofs.explain.count_units.Given as goal

abbrev pub invariant-loop-i : goal.invariant-loop-i
invariant-loop-i l = record { counted : l.count ≡ length (unit_hints_of_needed l.units (take l.i l.needed.lits)); few : l.count ≤ l.i }
