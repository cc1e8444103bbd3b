-- After a line is taken, the reader is at the next stage, or the line is the first bad one.
use Rattle.std.proofs.Common.{◌≡◌, ℕ, ◌+◌, ◌-◌, true, false, ◌||◌, List, [], ◌∷◌, ◌++◌, length, take, refl, sym, ap, ◌∙◌, subst, arith, append_assoc, length-append, Some, None}
use Rattle.std.proofs.lemmas.List.{take-append-le, take_all}
use Rattle.std.proofs.Math.Seq.{take-append_seam}
use Rattle.ilk_ir.specs.System.{PlainSystem}
use Rattle.ilk_lines.specs.Lines.{Bytes}
use Rattle.ilk_unroll.specs.Goal.{PlainGoalForms}
use Rattle.ilk_cert_audit.specs.Answers.{saturated_to_64_bits}
use Rattle.ilk_cert_audit.specs.Fed.{IsStageAndNumberAfter, IsStageAfterLines}
use Rattle.ilk_cert_audit.specs.FirstBad.{BeginsCertificate, IsFirstBadOfLines}
use Rattle.ilk_cert_audit.specs.Grammar.{CertificateLines}
use Rattle.ilk_cert_audit.specs.Stages.{FollowingLines, is_refused, is_valid_stage, IsNextStage}
use Rattle.ilk_cert_audit.specs.declared.stage.Stage.{Stage}
use Rattle.ilk_cert_audit.specs.declared.stage.Stage.TheVariants.{Head, Told, Between, Within, Ended, Refused}

pub reached-at : (s : PlainSystem) (g : PlainGoalForms) (stage : Stage) (lines : List Bytes) (n : ℕ) → is_valid_stage stage ≡ true → IsStageAfterLines s g stage lines n → IsStageAndNumberAfter s g stage lines n
reached-at s g Head lines n h r = r
reached-at s g Told lines n h r = r
reached-at s g (Between k next) lines n h r = r
reached-at s g (Within k q a) lines n h r = r
reached-at s g (Ended k) lines n h r = r
reached-at s g (Refused m) lines n h r = absurd (cc)

pub at-reached : (s : PlainSystem) (g : PlainGoalForms) (stage : Stage) (lines : List Bytes) (n : ℕ) → is_valid_stage stage ≡ true → IsStageAndNumberAfter s g stage lines n → IsStageAfterLines s g stage lines n
at-reached s g Head lines n h r = r
at-reached s g Told lines n h r = r
at-reached s g (Between k next) lines n h r = r
at-reached s g (Within k q a) lines n h r = r
at-reached s g (Ended k) lines n h r = r
at-reached s g (Refused m) lines n h r = absurd (cc)

may-stop : (s : PlainSystem) (g : PlainGoalForms) (stage : Stage) → is_valid_stage stage ≡ true → (k : ℕ) × FollowingLines true s g k stage []
may-stop s g Head h = (0, refl)
may-stop s g Told h = (0, refl)
may-stop s g (Between k None) h = (k, (refl, refl))
may-stop s g (Between k (Some q)) h = (k, (refl, refl))
may-stop s g (Within k q a) h = (k, (refl, refl))
may-stop s g (Ended k) h = (k, (refl, refl))
may-stop s g (Refused m) h = absurd (cc)

pub at-next :
    (s : PlainSystem) (g : PlainGoalForms) (stage next : Stage) (lines : List Bytes) (n m : ℕ) (line : Bytes) →
    IsStageAndNumberAfter s g stage lines n → IsNextStage s g stage line (Some next) → is_valid_stage next ≡ true →
    m ≡ saturated_to_64_bits (n + 1) → IsStageAndNumberAfter s g next (lines ++ line ∷ []) m
at-next s g stage next lines n m line at goes staged counted =
    let stop = may-stop s g next staged in
    let whole : (more : List Bytes) → (lines ++ line ∷ []) ++ more ≡ lines ++ (line ∷ more) = λ more. append_assoc lines (line ∷ []) more in
    let long : length (lines ++ line ∷ []) ≡ length lines + 1 = length-append lines (line ∷ []) in
    record {
      begins = (stop.0, (at.follows true stop.0 (line ∷ [])).1 ((goes true stop.0 []).1 stop.1));
      follows = λ may k more. (let P : List Bytes → Type 0 = λ xs. CertificateLines may s g k xs in (
        (λ h. (goes may k more).0 ((at.follows may k (line ∷ more)).0 (subst P (whole more) h))),
        (λ h. subst P (sym (whole more)) ((at.follows may k (line ∷ more)).1 ((goes may k more).1 h))),
      ));
      number_is = counted ∙ ap (λ k. saturated_to_64_bits (k + 1)) at.number_is ∙ one_more (length lines) ∙ ap (λ k. saturated_to_64_bits (k + 1)) (sym long);
    }
  where
    one_more : (k : ℕ) → saturated_to_64_bits (saturated_to_64_bits (k + 1) + 1) ≡ saturated_to_64_bits (k + 1 + 1)
    one_more k = omega arith

pub bad-next : (s : PlainSystem) (g : PlainGoalForms) (stage : Stage) (lines : List Bytes) (n : ℕ) (line : Bytes) → IsStageAndNumberAfter s g stage lines n → IsNextStage s g stage line None → IsStageAfterLines s g (Refused n) (lines ++
    line ∷ []) n
bad-next s g stage lines n line at bad =
    let long : length (lines ++ line ∷ []) ≡ length lines + 1 = length-append lines (line ∷ []) in
    let one : length lines + 1 - 1 ≡ length lines = omega arith in
    let before : take (length lines + 1 - 1) (lines ++ line ∷ []) ≡ lines = ap (λ k. take k (lines ++ line ∷ [])) one ∙ take-append_seam lines (line ∷ []) in
    let all : take (length lines + 1) (lines ++ line ∷ []) ≡ lines ++ line ∷ [] = take_all (length lines + 1) (lines ++ line ∷ []) (omega (arith, long)) in
    let P : List Bytes → Type 0 = λ xs. BeginsCertificate s g xs in (
      length lines + 1,
      record {
        from_one = omega arith;
        within = omega (arith, long);
        before = subst P (sym before) at.begins;
        bad = λ h. (let b = subst P all h in bad true b.0 [] ((at.follows true b.0 (line ∷ [])).0 b.1));
      },
      at.number_is,
    )

pub bad-more : (s : PlainSystem) (g : PlainGoalForms) (lines : List Bytes) (m : ℕ) (line : Bytes) → IsFirstBadOfLines s g lines m → IsFirstBadOfLines s g (lines ++ line ∷ []) m
bad-more s g lines m line b =
    let long : length (lines ++ line ∷ []) ≡ length lines + 1 = length-append lines (line ∷ []) in
    let before = take-append-le (m - 1) lines (line ∷ []) (omega (arith, b.within)) in
    let here = take-append-le m lines (line ∷ []) b.within in
    let P : List Bytes → Type 0 = λ xs. BeginsCertificate s g xs in
    record {
      from_one = b.from_one;
      within = omega (arith, b.within, long);
      before = subst P (sym before) b.before;
      bad = λ h. b.bad (subst P here h);
    }

pub unrefused : (stage : Stage) → (is_refused stage || is_valid_stage stage) ≡ true → ((n : ℕ) → stage ≡ Refused n → ⊥) → is_valid_stage stage ≡ true
unrefused Head h not_refused = h
unrefused Told h not_refused = h
unrefused (Between k next) h not_refused = h
unrefused (Within k q a) h not_refused = h
unrefused (Ended k) h not_refused = h
unrefused (Refused n) h not_refused = absurd (not_refused n refl)

pub staged : (stage : Stage) → is_refused stage ≡ false → (is_refused stage || is_valid_stage stage) ≡ true → is_valid_stage stage ≡ true
staged stage open_ either = ap (λ b. b || is_valid_stage stage) (sym open_) ∙ either
