use Rattle.std.proofs.Common.{◌≡◌, length}
use Rattle.ilk_audit.proofs.partial.PartialAssignment.clear.Given as goal

abbrev pub invariant-literals : goal.invariant-literals
invariant-literals l = l.self.vars ≡ l.initial.self.vars

abbrev pub decreases-literals : goal.decreases-literals
decreases-literals l = length l.self.set
