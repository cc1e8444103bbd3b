use Rattle.std.proofs.Common.{◌≡◌, ◌++◌, length, List, ℕ}
use Rattle.ilk_ir.specs.System.{PlainSystem}
use Rattle.ilk_unroll.specs.Goal.{PlainGoalForms}
use Rattle.ilk_cert_audit.specs.Fed.{AuditHasTakenBytes}
use Rattle.ilk_cert_audit.proofs.audit.SystemCertAudit.split.Given as goal

abbrev pub invariant-loop-line : goal.invariant-loop-line
invariant-loop-line l = (s : PlainSystem) (g : PlainGoalForms) (bytes : List ℕ) → AuditHasTakenBytes s g l.initial.self bytes → (done : List ℕ) × (l.initial.left ≡ done ++ l.left) × AuditHasTakenBytes s g l.self (bytes ++ done)

abbrev pub decreases-loop-line : goal.decreases-loop-line
decreases-loop-line l = length l.left
