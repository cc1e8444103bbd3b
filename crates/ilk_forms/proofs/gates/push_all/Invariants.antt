use Rattle.std.proofs.Common.{◌≡◌, ◌++◌, drop}
use Rattle.ilk_forms.proofs.gates.push_all.Given as goal

abbrev pub invariant-loop-lit : goal.invariant-loop-lit
invariant-loop-lit l = l.lits ++ drop l.lit-index l.more ≡ l.fn.lits ++ l.more
