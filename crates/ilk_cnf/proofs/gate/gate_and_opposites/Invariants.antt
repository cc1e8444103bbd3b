use Rattle.std.proofs.Common.{◌≡◌, ◌++◌, ◌∷◌, map, drop}
use Rattle.ilk_cnf.specs.Literal.{negated_lit}
use Rattle.ilk_cnf.proofs.gate.gate_and_opposites.Given as goal

abbrev pub invariant-loop-lit : goal.invariant-loop-lit
invariant-loop-lit l = l.wide ++ map negated_lit (drop l.lit-index l.lits) ≡ l.fn.gate ∷ map negated_lit l.lits
