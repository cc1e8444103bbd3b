use Rattle.std.proofs.Common.{◌≡◌, ◌++◌, map, drop}
use Rattle.ilk_cnf.specs.Literal.{negated_lit}
use Rattle.ilk_cnf.proofs.gate.negated_lits.Given as goal

abbrev pub invariant-loop-lit : goal.invariant-loop-lit
invariant-loop-lit l = l.others ++ map negated_lit (drop l.lit-index l.lits) ≡ map negated_lit l.lits
