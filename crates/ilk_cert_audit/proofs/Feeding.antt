-- Feeding bytes.
use Rattle.std.proofs.Common.{◌≡◌, ℕ, ◌+◌, ◌-◌, Bool, true, false, ◌==◌, None, List, [], ◌∷◌, ◌++◌, length, refl, sym, ap, ◌∙◌, subst, arith, append-nil, append_assoc, length-append}
use Rattle.std.proofs.lemmas.Bool.{eq-eqb, eqb-true}
use Rattle.std.proofs.lemmas.List.{take-append-le}
use Rattle.ilk_ir.specs.System.{PlainSystem}
use Rattle.ilk_lines.specs.Lines.{unterminated_tail, Bytes, lines_of}
use Rattle.ilk_lines.specs.Written.{LacksByte}
use Rattle.ilk_unroll.specs.Goal.{PlainGoalForms}
use Rattle.ilk_cert_audit.specs.Fed.{AuditHasTakenLines, AuditHasTakenLinesAndRest, IsUnfinishedLineBuffer, IsStageAfterLines, Keeps}
use Rattle.ilk_cert_audit.specs.FirstBad.{BeginsCertificate, IsFirstBadOfLines}
use Rattle.ilk_cert_audit.specs.Stages.{IsNextStage, begins_bad_line, is_refused}
use Rattle.ilk_cert_audit.specs.declared.lines.LineAudit.{LineAudit}
use Rattle.ilk_cert_audit.specs.declared.stage.Stage.{Stage}
use Rattle.ilk_cert_audit.specs.declared.stage.Stage.TheVariants.{Head, Told, Between, Within, Ended, Refused}
use Rattle.ilk_cert_audit.proofs.Hopeless.{hopeless-bad}
use Rattle.ilk_cert_audit.proofs.Pieces.{bytes-added, line-added, lines-more}
use Rattle.ilk_cert_audit.proofs.Taking.{staged}

pub keeps-from : (stage : Stage) (unfinished bytes : Bytes) → IsUnfinishedLineBuffer stage unfinished (unterminated_tail bytes) → Keeps stage unfinished bytes
keeps-from Head u b e = e
keeps-from Told u b e = e
keeps-from (Between k next) u b e = e
keeps-from (Within k q a) u b e = e
keeps-from (Ended k) u b e = e
keeps-from (Refused n) u b e = tt

keeps-any : (stage : Stage) (unfinished bytes : Bytes) → is_refused stage ≡ true → Keeps stage unfinished bytes
keeps-any Head u b h = absurd (cc)
keeps-any Told u b h = absurd (cc)
keeps-any (Between k next) u b h = absurd (cc)
keeps-any (Within k q a) u b h = absurd (cc)
keeps-any (Ended k) u b h = absurd (cc)
keeps-any (Refused n) u b h = tt

keeps-is : (stage : Stage) (unfinished bytes : Bytes) → is_refused stage ≡ false → Keeps stage unfinished bytes → IsUnfinishedLineBuffer stage unfinished (unterminated_tail bytes)
keeps-is Head u b h k = k
keeps-is Told u b h k = k
keeps-is (Between m next) u b h k = k
keeps-is (Within m q a) u b h k = k
keeps-is (Ended m) u b h k = k
keeps-is (Refused n) u b h k = absurd (cc)

kept-whole : (stage : Stage) (kept line : Bytes) → line ≡ kept → IsUnfinishedLineBuffer stage kept line
kept-whole stage kept line same = record { rest = []; whole = same ∙ sym (append-nil kept); none_left = λ h. refl }

kept-is : (stage : Stage) (kept line : Bytes) → begins_bad_line stage kept ≡ false → IsUnfinishedLineBuffer stage kept line → line ≡ kept
kept-is stage kept line hope k = k.whole ∙ ap (λ (r : Bytes). kept ++ r) (k.none_left hope) ∙ append-nil kept

pub kept-none : (stage : Stage) (line : Bytes) → IsUnfinishedLineBuffer stage [] line → line ≡ []
kept-none stage line k = kept-is stage [] line (no-bytes stage) k
  where
    no-bytes : (stage : Stage) → begins_bad_line stage [] ≡ false
    no-bytes Head = refl
    no-bytes Told = refl
    no-bytes (Between k next) = refl
    no-bytes (Within k q a) = refl
    no-bytes (Ended k) = refl
    no-bytes (Refused n) = refl

pub kept-all : (stage : Stage) (kept line : Bytes) → IsUnfinishedLineBuffer stage kept line → line ≡ [] → kept ≡ []
kept-all stage [] line k none = refl
kept-all stage (x ∷ kept) line k none = (let h : [] ≡ x ∷ (kept ++ k.rest) = sym none ∙ k.whole in cc)

pub waits : (s : PlainSystem) (g : PlainGoalForms) (audit : LineAudit) (unfinished bytes : Bytes) → is_refused audit.stage ≡ false → AuditHasTakenLinesAndRest s g audit unfinished bytes
    → IsUnfinishedLineBuffer audit.stage unfinished (unterminated_tail bytes)
waits s g audit unfinished bytes open_ fed = keeps-is audit.stage unfinished bytes open_ fed.kept

line-ended : (s : PlainSystem) (g : PlainGoalForms) (old new : LineAudit) (unfinished kept bytes rest : Bytes)
    → LacksByte 10 rest → AuditHasTakenLinesAndRest s g old unfinished bytes
    → ((lines : List Bytes) → AuditHasTakenLines s g old lines → AuditHasTakenLines s g new (lines ++ (unterminated_tail bytes ++ rest) ∷ []))
    → Keeps new.stage kept (bytes ++ (rest ++ 10 ∷ [])) → AuditHasTakenLinesAndRest s g new kept (bytes ++ (rest ++ 10 ∷ []))
line-ended s g old new unfinished kept bytes rest lacks fed takes keeps =
    let P : List Bytes → Type 0 = λ ls. AuditHasTakenLines s g new ls in
    record {
      taken = subst P (sym (line-added bytes rest lacks).0) (takes (lines_of bytes) fed.taken);
      kept = keeps;
    }

pub line-fed : (s : PlainSystem) (g : PlainGoalForms) (old new : LineAudit) (unfinished bytes rest : Bytes)
    → is_refused old.stage ≡ false → begins_bad_line old.stage unfinished ≡ false → LacksByte 10 rest
    → AuditHasTakenLinesAndRest s g old unfinished bytes
    → ((lines : List Bytes) → AuditHasTakenLines s g old lines → AuditHasTakenLines s g new (lines ++ (unfinished ++ rest) ∷ []))
    → AuditHasTakenLinesAndRest s g new [] (bytes ++ (rest ++ 10 ∷ []))
line-fed s g old new unfinished bytes rest open_ hope lacks fed takes =
    let same = kept-is old.stage unfinished (unterminated_tail bytes) hope (waits s g old unfinished bytes open_ fed) in
    let P : Bytes → Type 0 = λ u. (lines : List Bytes) → AuditHasTakenLines s g old lines → AuditHasTakenLines s g new (lines ++ (u ++ rest) ∷ []) in
    line-ended s g old new unfinished [] bytes rest lacks fed (subst P (sym same) takes)
    (keeps-from new.stage [] (bytes ++ (rest ++ 10 ∷ [])) (kept-whole new.stage [] (unterminated_tail (bytes ++ (rest ++ 10 ∷ []))) (line-added bytes rest lacks).1))

pub hopeless-fed : (s : PlainSystem) (g : PlainGoalForms) (old new : LineAudit) (unfinished bytes rest : Bytes)
    → is_refused old.stage ≡ false → begins_bad_line old.stage unfinished ≡ true → is_refused new.stage ≡ true
    → LacksByte 10 rest → AuditHasTakenLinesAndRest s g old unfinished bytes
    → ((lines : List Bytes) (line : Bytes) → AuditHasTakenLines s g old lines → IsNextStage s g old.stage line None → AuditHasTakenLines s g new (lines ++ line ∷ []))
    → AuditHasTakenLinesAndRest s g new unfinished (bytes ++ (rest ++ 10 ∷ []))
hopeless-fed s g old new unfinished bytes rest open_ hopeless refused lacks fed takes =
    let kept = waits s g old unfinished bytes open_ fed in
    let whole : unterminated_tail bytes ++ rest ≡ unfinished ++ (kept.rest ++ rest) = ap (λ (l : Bytes). l ++ rest) kept.whole ∙ append_assoc unfinished kept.rest rest in
    let B : Bytes → Type 0 = λ l. IsNextStage s g old.stage l None in
    let bad = subst B (sym whole) (hopeless-bad s g old.stage unfinished (kept.rest ++ rest) (staged old.stage open_ old.staged) hopeless) in
    line-ended s g old new unfinished unfinished bytes rest lacks fed (λ lines taken. takes lines (unterminated_tail bytes ++ rest) taken bad)
    (keeps-any new.stage unfinished (bytes ++ (rest ++ 10 ∷ [])) refused)

pub rest-fed : (s : PlainSystem) (g : PlainGoalForms) (audit : LineAudit) (unfinished bytes rest : Bytes)
    → is_refused audit.stage ≡ false → begins_bad_line audit.stage unfinished ≡ false → LacksByte 10 rest
    → AuditHasTakenLinesAndRest s g audit unfinished bytes → AuditHasTakenLinesAndRest s g audit (unfinished ++ rest) (bytes ++ rest)
rest-fed s g audit unfinished bytes rest open_ hope lacks fed =
    let same = kept-is audit.stage unfinished (unterminated_tail bytes) hope (waits s g audit unfinished bytes open_ fed) in
    let added = bytes-added bytes rest lacks in
    let P : List Bytes → Type 0 = λ ls. AuditHasTakenLines s g audit ls in
    record {
      taken = subst P (sym added.0) fed.taken;
      kept = keeps-from audit.stage (unfinished ++ rest) (bytes ++ rest) (kept-whole audit.stage (unfinished ++ rest) (unterminated_tail (bytes ++ rest)) (added.1 ∙ ap (λ (u : Bytes). u ++ rest) same));
    }

pub rest-dropped : (s : PlainSystem) (g : PlainGoalForms) (audit : LineAudit) (unfinished bytes rest : Bytes)
    → is_refused audit.stage ≡ false → begins_bad_line audit.stage unfinished ≡ true → LacksByte 10 rest
    → AuditHasTakenLinesAndRest s g audit unfinished bytes → AuditHasTakenLinesAndRest s g audit unfinished (bytes ++ rest)
rest-dropped s g audit unfinished bytes rest open_ hopeless lacks fed =
    let kept = waits s g audit unfinished bytes open_ fed in
    let added = bytes-added bytes rest lacks in
    let P : List Bytes → Type 0 = λ ls. AuditHasTakenLines s g audit ls in
    record {
      taken = subst P (sym added.0) fed.taken;
      kept = keeps-from audit.stage unfinished (bytes ++ rest) (record {
        rest = kept.rest ++ rest;
        whole = added.1 ∙ ap (λ (l : Bytes). l ++ rest) kept.whole ∙ append_assoc unfinished kept.rest rest;
        none_left = λ hope. cc;
      });
    }

bad-longer : (s : PlainSystem) (g : PlainGoalForms) (lines more : List Bytes) (m : ℕ) → IsFirstBadOfLines s g lines m → IsFirstBadOfLines s g (lines ++ more) m
bad-longer s g lines more m b =
    let long : length (lines ++ more) ≡ length lines + length more = length-append lines more in
    let before = take-append-le (m - 1) lines more (omega (arith, b.within)) in
    let here = take-append-le m lines more b.within in
    let P : List Bytes → Type 0 = λ xs. BeginsCertificate s g xs in
    record {
      from_one = b.from_one;
      within = omega (arith, b.within, long);
      before = subst P (sym before) b.before;
      bad = λ h. b.bad (subst P here h);
    }

pub refused-fed : (s : PlainSystem) (g : PlainGoalForms) (audit : LineAudit) (unfinished bytes rest : Bytes) → is_refused audit.stage ≡ true → AuditHasTakenLinesAndRest s g audit unfinished bytes
    → AuditHasTakenLinesAndRest s g audit unfinished (bytes ++ rest)
refused-fed s g audit unfinished bytes rest refused fed =
    record {
      taken = record {
        system = fed.taken.system;
        goal = fed.taken.goal;
        reached = by_stage audit.stage refused fed.taken.reached;
      };
      kept = keeps-any audit.stage unfinished (bytes ++ rest) refused;
    }
  where
    by_stage : (stage : Stage) → is_refused stage ≡ true → IsStageAfterLines s g stage (lines_of bytes) audit.line → IsStageAfterLines s g stage (lines_of (bytes ++ rest)) audit.line
    by_stage Head h r = absurd (cc)
    by_stage Told h r = absurd (cc)
    by_stage (Between k next) h r = absurd (cc)
    by_stage (Within k q a) h r = absurd (cc)
    by_stage (Ended k) h r = absurd (cc)
    by_stage (Refused n) h r = (let more = lines-more bytes rest in
        let P : List Bytes → Type 0 = λ ls. IsFirstBadOfLines s g ls r.0 in
        (r.0, subst P (sym more.1) (bad-longer s g (lines_of bytes) more.0 r.0 r.1), r.2))

pub none-waits : (b : Bool) (n : ℕ) (xs : Bytes) → b ≡ (n == 0) → n ≡ length xs → (b ≡ true → xs ≡ []) × (xs ≡ [] → b ≡ true)
none-waits b n [] e long = ((λ t. refl), (λ none. e ∙ eq-eqb n 0 (omega (arith, long))))
none-waits b n (x ∷ xs) e long = ((λ t. absurd (let z = eqb-true n 0 (sym e ∙ t) in omega (arith, z, long))), (λ none. absurd (cc)))
