use Rattle.std.proofs.Common.{◌-◌, length}
use Rattle.ilk_rup.specs.Standing.{KeepsConsequencesTrailAndConflicts, IsValidMaybeUnpropagated}
use Rattle.ilk_rup.proofs.base.DerivationState.name_all.Given as goal

abbrev pub invariant-names : goal.invariant-names
invariant-names l = record { loose : IsValidMaybeUnpropagated l.self; named : KeepsConsequencesTrailAndConflicts l.initial.self l.self }

abbrev pub decreases-names : goal.decreases-names
decreases-names l = length l.self.trail.entries - l.self.explainer.named
