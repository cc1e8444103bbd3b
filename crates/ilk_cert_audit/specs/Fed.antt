-- The state of a certificate's check after some lines, and after some bytes. Line numbers above 64
-- bits become the greatest `u64`.
use Rattle.std.specs.Prelude.{ℕ, Bool, false, ◌≡◌, ◌+◌, ◌↔◌, List, [], ◌++◌, length}
use Rattle.ilk_ir.specs.System.{PlainSystem, plain_system}
use Rattle.ilk_lines.specs.Lines.{Bytes, unterminated_tail, lines_of}
use Rattle.ilk_unroll.specs.Goal.{PlainGoalForms, plain_goal}
use Rattle.ilk_cert_audit.specs.Answers.{saturated_to_64_bits}
use Rattle.ilk_cert_audit.specs.FirstBad.{BeginsCertificate, IsFirstBadOfLines}
use Rattle.ilk_cert_audit.specs.Grammar.{CertificateLines}
use Rattle.ilk_cert_audit.specs.Stages.{FollowingLines, begins_bad_line}
use Rattle.ilk_cert_audit.specs.declared.audit.SystemCertAudit.{SystemCertAudit}
use Rattle.ilk_cert_audit.specs.declared.lines.LineAudit.{LineAudit}
use Rattle.ilk_cert_audit.specs.declared.stage.Stage.{Stage}
use Rattle.ilk_cert_audit.specs.declared.stage.Stage.TheVariants.{Refused}

-- Holds if the lines begin a certificate, the stage tells exactly which lines may follow, and
-- `number` is that of the next line.
pub record IsStageAndNumberAfter (s : PlainSystem) (g : PlainGoalForms) (stage : Stage) (lines : List Bytes) (number : ℕ) : Type 0 where
  pub begins : BeginsCertificate s g lines
  pub follows : (may_stop : Bool) (k : ℕ) (more : List Bytes) → CertificateLines may_stop s g k (lines ++ more) ↔ FollowingLines may_stop s g k stage more
  pub number_is : number ≡ saturated_to_64_bits (length lines + 1)

-- Holds if the stage is right after these lines, and `number` is that of the next line. A `Refused`
-- stage has to name the first bad line.
abbrev pub IsStageAfterLines : PlainSystem → PlainGoalForms → Stage → List Bytes → ℕ → Type 0
IsStageAfterLines s g (Refused n) lines number = (m : ℕ) × IsFirstBadOfLines s g lines m × (n ≡ saturated_to_64_bits m)
IsStageAfterLines s g stage lines number = IsStageAndNumberAfter s g stage lines number

-- Holds if `kept` is the unfinished line, or its first bytes if they show that it is bad.
pub record IsUnfinishedLineBuffer (stage : Stage) (kept line : Bytes) : Type 0 where
  pub rest : Bytes
  pub whole : line ≡ kept ++ rest
  pub none_left : begins_bad_line stage kept ≡ false → rest ≡ []

-- Holds if the bytes after the last line feed are kept, as far as they are needed. It always holds
-- after a bad line.
abbrev pub Keeps : Stage → Bytes → Bytes → Type 0
Keeps (Refused n) unfinished bytes = Unit {0}
Keeps stage unfinished bytes = IsUnfinishedLineBuffer stage unfinished (unterminated_tail bytes)

-- Holds if the check, of this system and goal, has taken these lines.
pub record AuditHasTakenLines (s : PlainSystem) (g : PlainGoalForms) (audit : LineAudit) (lines : List Bytes) : Type 0 where
  pub system : plain_system audit.system ≡ s
  pub goal : plain_goal audit.goal ≡ g
  pub reached : IsStageAfterLines s g audit.stage lines audit.line

-- Holds if the check has taken the lines of these bytes, and keeps what follows the last line feed.
pub record AuditHasTakenLinesAndRest (s : PlainSystem) (g : PlainGoalForms) (audit : LineAudit) (unfinished bytes : Bytes) : Type 0 where
  pub taken : AuditHasTakenLines s g audit (lines_of bytes)
  pub kept : Keeps audit.stage unfinished bytes

-- Holds if the check, of this system and goal, has taken these bytes, in one or more pieces.
abbrev pub AuditHasTakenBytes : PlainSystem → PlainGoalForms → SystemCertAudit → Bytes → Type 0
AuditHasTakenBytes s g audit bytes = AuditHasTakenLinesAndRest s g audit.lines audit.unfinished.items bytes
