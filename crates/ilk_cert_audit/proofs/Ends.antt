-- The answers after some lines, and at the end.
use Rattle.std.proofs.Common.{◌≡◌, ℕ, ◌+◌, ◌-◌, ◌<◌, ◌^◌, false, List, [], ◌∷◌, length, take, refl, sym, ap, ◌∙◌, subst, arith, Some, None}
use Rattle.std.proofs.Math.Seq.{take-length}
use Rattle.std.proofs.lemmas.List.{append-nil}
use Rattle.ilk_ir.specs.System.{PlainSystem}
use Rattle.ilk_lines.specs.Lines.{unterminated_tail, Bytes, lines_of}
use Rattle.ilk_unroll.specs.Goal.{PlainGoalForms}
use Rattle.ilk_certificate.specs.Certificate.{IsValidCertificate}
use Rattle.ilk_cert_audit.specs.Answers.{IsFinalAnswer, saturated_to_64_bits}
use Rattle.ilk_cert_audit.specs.Fed.{IsStageAndNumberAfter}
use Rattle.ilk_cert_audit.specs.FirstBad.{BeginsCertificate, IsFirstBadOfLines, FirstBadOrMissingLine}
use Rattle.ilk_cert_audit.specs.Grammar.{CertificateLines}
use Rattle.ilk_cert_audit.specs.Stages.{FollowingLines}
use Rattle.ilk_cert_audit.specs.declared.answers.Ended.TheVariants.{Rejected}
use Rattle.ilk_cert_audit.specs.declared.stage.Stage.{Stage}
use Rattle.ilk_cert_audit.specs.declared.stage.Stage.TheVariants.{Head, Told, Between, Within, Ended, Refused}
use Rattle.ilk_cert_audit.proofs.Cuts.{cut-certificate}
use Rattle.ilk_cert_audit.proofs.Pieces.{lines-few}
use Rattle.ilk_cert_audit.proofs.Stages.{safe-same}
use Rattle.ilk_cert_audit.proofs.Whole.{certificate_lines-whole, whole-certificate}

only-ended : (s : PlainSystem) (g : PlainGoalForms) (k : ℕ) (stage : Stage) → FollowingLines false s g k stage [] → stage ≡ Ended k
only-ended s g k Head h = absurd (cc)
only-ended s g k Told h = absurd (cc)
only-ended s g k (Between m None) h = absurd (let z = h.1 in cc)
only-ended s g k (Between m (Some q)) h = absurd (let z = h.1 in cc)
only-ended s g k (Within m q a) h = absurd (let z = h.1 in cc)
only-ended s g k (Ended m) h = ap (λ n. Ended n) (sym h.0)
only-ended s g k (Refused n) h = absurd h

whole-at : (s : PlainSystem) (g : PlainGoalForms) (stage : Stage) (bytes : Bytes) (n k : ℕ) → IsStageAndNumberAfter s g stage (lines_of bytes) n → IsValidCertificate s g k bytes → (stage ≡ Ended k) × (unterminated_tail bytes ≡ [])
whole-at s g stage bytes n k at c =
    let w = certificate_lines-whole s g k bytes c in
    let P : List Bytes → Type 0 = λ xs. CertificateLines false s g k xs in
    (only-ended s g k stage ((at.follows false k []).0 (subst P (sym (append-nil (lines_of bytes))) w.0)), w.1)

pub accepted-at : (s : PlainSystem) (g : PlainGoalForms) (bytes : Bytes) (n k : ℕ) → IsStageAndNumberAfter s g (Ended k) (lines_of bytes) n → unterminated_tail bytes ≡ [] → IsValidCertificate s g k bytes
accepted-at s g bytes n k at ends =
    let P : List Bytes → Type 0 = λ xs. CertificateLines false s g k xs in
    whole-certificate s g k bytes (subst P (append-nil (lines_of bytes)) ((at.follows false k []).1 (refl, refl))) ends

pub missing-at : (s : PlainSystem) (g : PlainGoalForms) (stage : Stage) (bytes : Bytes) (n : ℕ) → IsStageAndNumberAfter s g stage (lines_of bytes) n → ((k : ℕ) → stage ≡ Ended k → unterminated_tail bytes ≡ [] → ⊥)
    → (m : ℕ) × FirstBadOrMissingLine s g bytes m × (n ≡ saturated_to_64_bits m)
missing-at s g stage bytes n at open_ =
    let lines = lines_of bytes in
    let one : length lines + 1 - 1 ≡ length lines = omega arith in
    let before : take (length lines + 1 - 1) lines ≡ lines = ap (λ k. take k lines) one ∙ take-length lines in
    let P : List Bytes → Type 0 = λ xs. BeginsCertificate s g xs in (
      length lines + 1,
      record {
        none = λ k c. (let w = whole-at s g stage bytes n k at c in open_ k w.0 w.1);
        from_one = omega arith;
        within = omega arith;
        before = subst P (sym before) at.begins;
        bad = λ within. absurd (omega (arith, within));
      },
      at.number_is,
    )

pub bad-first : (s : PlainSystem) (g : PlainGoalForms) (bytes : Bytes) (m : ℕ) → IsFirstBadOfLines s g (lines_of bytes) m → FirstBadOrMissingLine s g bytes m
bad-first s g bytes m b = record {
  none = λ k c. b.bad (k, cut-certificate false s g k (lines_of bytes) m (certificate_lines-whole s g k bytes c).0);
  from_one = b.from_one;
  within = omega (arith, b.within);
  before = b.before;
  bad = λ within. b.bad;
}

one-line : (s : PlainSystem) (g : PlainGoalForms) (k m : ℕ) (lines : List Bytes) → CertificateLines false s g k lines → CertificateLines false s g m lines → k ≡ m
one-line s g k m [] a b = absurd (cc)
one-line s g k m (head ∷ []) a b = absurd (let z = a.1 in cc)
one-line s g k m (head ∷ (told ∷ lines)) a b = safe-same k m a.1.2 b.1.2 (sym a.1.0 ∙ b.1.0)

pub one_number : (s : PlainSystem) (g : PlainGoalForms) (k m : ℕ) (bytes : Bytes) → IsValidCertificate s g k bytes → IsValidCertificate s g m bytes → k ≡ m
one_number s g k m bytes a b = one-line s g k m (lines_of bytes) (certificate_lines-whole s g k bytes a).0 (certificate_lines-whole s g m bytes b).0

pub number_fits : (s : PlainSystem) (g : PlainGoalForms) (bytes : Bytes) (n : ℕ) → length bytes < 2 ^ 63 → IsFinalAnswer s g bytes (Rejected n) → FirstBadOrMissingLine s g bytes n
number_fits s g bytes n small e =
    let few = lines-few bytes in
    let same : e.0 ≡ n = omega (arith, e.2, e.1.within, few, small) in
    let P : ℕ → Type 0 = λ k. FirstBadOrMissingLine s g bytes k in
    subst P same e.1
