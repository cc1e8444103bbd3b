-- A line that is too long for its stage, or does not begin as a step, is bad whatever follows.
use Rattle.std.proofs.Common.{◌≡◌, ℕ, ◌<◌, ◌≤◌, true, false, not, List, [], ◌∷◌, ◌++◌, codes, length, nat_le, nat_lt, take, refl, sym, ap, ◌∙◌, arith, length-append, Some, None}
use Rattle.std.specs.Fmt.{decimal}
use Rattle.std.specs.Str.{bytes_eq}
use Rattle.std.proofs.lemmas.Bool.{and_parts}
use Rattle.std.proofs.lemmas.Bool.Decides.{nat_tests}
use Rattle.std.proofs.lemmas.Fmt.{length-decimal-le}
use Rattle.std.proofs.lemmas.List.{take-append-le}
use Rattle.std.proofs.lemmas.Slice.Eq.{bytes_eq-Decides}
use Rattle.std.proofs.Math.Seq.{take-append_seam}
use Rattle.ilk_ir.specs.System.{PlainSystem}
use Rattle.ilk_lines.specs.Lines.{Bytes}
use Rattle.ilk_lines.specs.Written.{join_words_with_spaces}
use Rattle.ilk_log.specs.declared.step.Step.{Step}
use Rattle.ilk_log.specs.StepText.{lit_word, step_text}
use Rattle.std.specs.Prelude.{map}
use Rattle.ilk_unroll.specs.Goal.{PlainGoalForms, query_step_count, step_count_is_allowed}
use Rattle.ilk_unroll.specs.declared.queries.Wanted.{Wanted}
use Rattle.ilk_unroll.specs.declared.queries.Wanted.TheVariants.{Hazard, Breach, Step as StepOf}
use Rattle.ilk_certificate.specs.CertificateText.{query_header_line}
use Rattle.ilk_cert_audit.specs.Grammar.{safe_line}
use Rattle.ilk_cert_audit.specs.Stages.{IsNextStage, begins_no_step, begins_bad_line, is_valid_k, is_valid_stage, is_valid_query_within_k}
use Rattle.ilk_cert_audit.specs.declared.stage.Stage.{Stage}
use Rattle.ilk_cert_audit.specs.declared.stage.Stage.TheVariants.{Head, Told, Between, Within, Ended, Refused}

too-long : (begun rest line : Bytes) → nat_lt 32 (length begun) ≡ true → begun ++ rest ≡ line → length line ≤ 32 → ⊥
too-long begun rest line long same short =
    let more : 32 < length begun = grind (arith, nat_tests) in
    omega (arith, ap length same, length-append begun rest)

two-digits : (n : ℕ) → n ≤ 16 → length (decimal n) ≤ 2
two-digits n small = length-decimal-le 2 n (omega arith) (omega arith) (omega arith)

safe-short : (k : ℕ) → k ≤ 16 → length (safe_line k) ≤ 32
safe-short k small = omega (arith, two-digits k small)

query-short : (q : Wanted) → step_count_is_allowed q ≡ true → length (query_header_line q) ≤ 32
query-short (Hazard n) valid = let small : n ≤ 16 = grind (arith, nat_tests) in omega (arith, two-digits n small)
query-short (Breach n) valid = let small : n ≤ 16 = grind (arith, nat_tests) in omega (arith, two-digits n small)
query-short (StepOf n) valid = let small : n ≤ 16 = grind (arith, nat_tests) in omega (arith, two-digits n small)

step-begins : (front more : List Bytes) → (rest : Bytes) × (join_words_with_spaces (codes "step" ∷ (front ++ (codes "0" ∷ more))) ≡ codes "step " ++ rest)
step-begins [] more = (join_words_with_spaces (codes "0" ∷ more), refl)
step-begins (word ∷ front) more = (join_words_with_spaces (word ∷ (front ++ (codes "0" ∷ more))), refl)

no-step : (begun rest : Bytes) (s : Step) → begins_no_step begun ≡ true → begun ++ rest ≡ step_text s → ⊥
no-step begun rest s h same =
    let parts = and_parts (nat_le 5 (length begun)) (not (bytes_eq (take 5 begun) (codes "step "))) h in
    let long : 5 ≤ length begun = grind (arith, nat_tests) in
    let starts = step-begins (map lit_word s.clause) (map decimal s.hints ++ codes "0" ∷ []) in
    let front : take 5 begun ≡ codes "step " = sym (take-append-le 5 begun rest long) ∙ ap (take 5) (same ∙ starts.1) ∙ take-append_seam (codes "step ") starts.0 in
    let equal : bytes_eq (take 5 begun) (codes "step ") ≡ true = (bytes_eq-Decides (take 5 begun) (codes "step ")).1 front in
    let never : false ≡ true = ap not (sym equal) ∙ parts.1 in
    cc

pub hopeless-bad : (s : PlainSystem) (g : PlainGoalForms) (stage : Stage) (begun rest : Bytes) → is_valid_stage stage ≡ true → begins_bad_line stage begun ≡ true → IsNextStage s g stage (begun ++ rest) None
hopeless-bad s g Head begun rest staged h may k lines f = too-long begun rest (codes "irv certificate 3") h f.0 (omega arith)
hopeless-bad s g Told begun rest staged h may k lines f = too-long begun rest (safe_line k) h f.0 (safe-short k f.2)
hopeless-bad s g (Between m None) begun rest staged h may k lines f = too-long begun rest (codes "end") h f.1.0 (omega arith)
hopeless-bad s g (Between m (Some q)) begun rest staged h may k lines f =
    let asked = and_parts (is_valid_k m) (is_valid_query_within_k m q) staged in
    let valid = and_parts (nat_le (query_step_count q) m) (step_count_is_allowed q) asked.1 in
    too-long begun rest (query_header_line q) h f.1.0 (query-short q valid.1)
hopeless-bad s g (Within m q auditor) begun rest staged h may k lines f = no-step begun rest f.1.0 h f.1.1
hopeless-bad s g (Ended m) begun rest staged h may k lines f = let none = f.1 in cc
hopeless-bad s g (Refused n) begun rest staged h may k lines f = cc
