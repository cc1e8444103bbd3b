use Rattle.std.proofs.Common.{◌≡◌, drop}
use Rattle.ilk_forms.specs.Gates.{lit_of_known_gate}
use Rattle.ilk_forms.proofs.gates.lit_of_known_gate.Given as goal

abbrev pub invariant-loop-gate : goal.invariant-loop-gate
invariant-loop-gate l = lit_of_known_gate (drop l.gate-index l.gate-items) l.lits ≡ lit_of_known_gate l.gates l.lits
