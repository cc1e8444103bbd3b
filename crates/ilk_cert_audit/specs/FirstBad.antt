use Rattle.std.specs.Prelude.{ℕ, true, ◌≤◌, ◌+◌, ◌-◌, List, length, take}
use Rattle.ilk_ir.specs.System.{PlainSystem}
use Rattle.ilk_lines.specs.Lines.{Bytes, lines_of}
use Rattle.ilk_unroll.specs.Goal.{PlainGoalForms}
use Rattle.ilk_certificate.specs.Certificate.{IsValidCertificate}
use Rattle.ilk_cert_audit.specs.Grammar.{CertificateLines}

-- Holds if the lines are the first lines, or all, of some text that the grammar of certificates
-- allows.
abbrev pub BeginsCertificate : PlainSystem → PlainGoalForms → List Bytes → Type 0
BeginsCertificate s g lines = (k : ℕ) × CertificateLines true s g k lines

-- Holds if line `n`, from 1, is the first that cannot follow the lines before it in a certificate.
pub record IsFirstBadOfLines (s : PlainSystem) (g : PlainGoalForms) (lines : List Bytes) (n : ℕ) : Type 0 where
  pub from_one : 1 ≤ n
  pub within : n ≤ length lines
  pub before : BeginsCertificate s g (take (n - 1) lines)
  pub bad : ¬ (BeginsCertificate s g (take n lines))

-- Holds if a text is not a certificate, and line `n`, counted from 1, is its first bad or missing
-- line: some certificate begins with the lines before line `n`, but none begins with the lines up
-- to line `n`. A last line without line feed counts as missing.
pub record FirstBadOrMissingLine (s : PlainSystem) (g : PlainGoalForms) (text : Bytes) (n : ℕ) : Type 0 where
  pub none : (k : ℕ) → ¬ (IsValidCertificate s g k text)
  pub from_one : 1 ≤ n
  pub within : n ≤ length (lines_of text) + 1
  pub before : BeginsCertificate s g (take (n - 1) (lines_of text))
  pub bad : n ≤ length (lines_of text) → ¬ (BeginsCertificate s g (take n (lines_of text)))
