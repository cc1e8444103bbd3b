use Rattle.std.proofs.Common.{◌≡◌, ◌+◌, ◌-◌, false}
use Rattle.ilk_rup.specs.Standing.{HasSameFormulaAndConsequences, IsValidMaybeUnpropagated}
use Rattle.ilk_rup.proofs.base.DerivationState.propagate_units.Given as goal

abbrev pub invariant-rounds : goal.invariant-rounds
invariant-rounds l = record { loose : IsValidMaybeUnpropagated l.self; same : HasSameFormulaAndConsequences l.initial.self l.self; going : l.self.refuted ≡ false }

abbrev pub decreases-rounds : goal.decreases-rounds
decreases-rounds l = l.self.formula.now.vars + 2 - l.self.explainer.named
