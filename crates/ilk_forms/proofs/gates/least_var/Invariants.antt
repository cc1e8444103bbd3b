use Rattle.std.proofs.Common.{◌≡◌, drop}
use Rattle.ilk_forms.specs.Gates.{least_var, min_with_least_var}
use Rattle.ilk_forms.proofs.gates.least_var.Given as goal

abbrev pub invariant-loop-lit : goal.invariant-loop-lit
invariant-loop-lit l = min_with_least_var l.least (drop l.lit-index l.lits) ≡ least_var l.lits
