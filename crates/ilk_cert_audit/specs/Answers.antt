-- The answers after a piece, and at the end.
use Rattle.std.specs.Prelude.{ℕ, ◌≡◌, ◌^◌, ◌-◌, List, min}
use Rattle.ilk_ir.specs.System.{PlainSystem}
use Rattle.ilk_lines.specs.Lines.{Bytes, lines_of}
use Rattle.ilk_unroll.specs.Goal.{PlainGoalForms}
use Rattle.ilk_certificate.specs.Certificate.{IsValidCertificate}
use Rattle.ilk_cert_audit.specs.FirstBad.{BeginsCertificate, IsFirstBadOfLines, FirstBadOrMissingLine}
use Rattle.ilk_cert_audit.specs.declared.answers.Fed.{Fed}
use Rattle.ilk_cert_audit.specs.declared.answers.Fed.TheVariants.{More, Bad}
use Rattle.ilk_cert_audit.specs.declared.answers.Ended.{Ended}
use Rattle.ilk_cert_audit.specs.declared.answers.Ended.TheVariants.{Accepted, Rejected}

-- The number as 64 bits; larger numbers become the greatest `u64`.
abbrev pub saturated_to_64_bits : ℕ → ℕ
saturated_to_64_bits n = min n (2 ^ 64 - 1)

-- Holds if the answer names the first bad one of these lines, or `More` if none is bad.
abbrev pub ReportsFirstBad : PlainSystem → PlainGoalForms → List Bytes → Fed → Type 0
ReportsFirstBad s g lines More = BeginsCertificate s g lines
ReportsFirstBad s g lines (Bad n) = (m : ℕ) × IsFirstBadOfLines s g lines m × (n ≡ saturated_to_64_bits m)

-- Holds if the answer names the first bad line of the text `bytes`, or `More` if none is bad. Bytes
-- after the last line feed are not a line yet.
abbrev pub IsAnswerAfterBytes : PlainSystem → PlainGoalForms → Bytes → Fed → Type 0
IsAnswerAfterBytes s g bytes fed = ReportsFirstBad s g (lines_of bytes) fed

-- Holds if the answer at the end of a text is the number that it is a certificate for, or its first
-- bad line.
abbrev pub IsFinalAnswer : PlainSystem → PlainGoalForms → Bytes → Ended → Type 0
IsFinalAnswer s g bytes (Accepted k) = IsValidCertificate s g k bytes
IsFinalAnswer s g bytes (Rejected n) = (m : ℕ) × FirstBadOrMissingLine s g bytes m × (n ≡ saturated_to_64_bits m)
