use Rattle.std.proofs.Common.{◌≡◌, replicate}
use Rattle.ilk_layout.specs.declared.values.Occupancy.TheVariants.{Vacant}
use Rattle.ilk_layout.proofs.occupancies.vacant.Given as goal

abbrev pub invariant-loop-i : goal.invariant-loop-i
invariant-loop-i l = l.made ≡ replicate l.i Vacant
