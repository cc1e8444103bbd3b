use Rattle.std.proofs.Common.{◌≡◌, true, false, take}
use Rattle.ilk_cnf.specs.Literal.{Literal, has_lit}
use Rattle.ilk_trail.specs.Laws.{lits_of}
use Rattle.ilk_rup.proofs.base.DerivationState.knows.Given as goal

abbrev pub invariant-loop-i : goal.invariant-loop-i
invariant-loop-i l = (m : Literal) → has_lit m (take l.i l.self.set.lits) ≡ true → has_lit m (lits_of l.self.trail.entries) ≡ false
