use Rattle.std.proofs.Common.{◌≡◌, ◌++◌, ◌∷◌, drop}
use Rattle.ilk_cnf.specs.Literal.{negated_lit}
use Rattle.ilk_ints.proofs.selection.demand_some_if.Given as goal

abbrev pub invariant-loop-lit : goal.invariant-loop-lit
invariant-loop-lit l = l.wide ++ drop l.lit-index l.lits ≡ negated_lit l.fn.joined ∷ l.lits
