-- The lines that may follow at the stage after a line are those that may follow the line.
use Rattle.std.proofs.Common.{◌≡◌, ℕ, suc, ◌+◌, ◌-◌, ◌<◌, ◌≤◌, Bool, true, List, [], ◌∷◌, ◌++◌, codes, sym, ap, ◌∙◌, subst, arith, add-one, Option, Some, None}
use Rattle.std.specs.Prelude.{flat_map, nat_le, nat_lt}
use Rattle.std.specs.List.{range_with_len}
use Rattle.std.specs.Fmt.{decimal}
use Rattle.std.proofs.lemmas.Bool.{and_parts, leb-true, ltb-true}
use Rattle.std.proofs.lemmas.List.{append_cancel_left}
use Rattle.std.proofs.lemmas.Option.{same_Some}
use Rattle.ilk_ir.specs.System.{PlainSystem}
use Rattle.ilk_lines.specs.Decimal.{decimal_up_to}
use Rattle.ilk_lines.specs.Lines.{Bytes}
use Rattle.ilk_lines.proofs.Decimals.{decimal_back}
use Rattle.ilk_log.specs.declared.step.Step.{Step as LogStep}
use Rattle.ilk_log.specs.Derived.{is_empty_clause}
use Rattle.ilk_unroll.specs.declared.queries.Wanted.{Wanted}
use Rattle.ilk_unroll.specs.declared.queries.Wanted.TheVariants as wanted
use Rattle.ilk_unroll.specs.Goal.{PlainGoalForms}
use Rattle.ilk_audit.specs.Audited.{AuditState}
use Rattle.ilk_certificate.specs.Certificate.{hazard_and_breach_query_pair, certified_queries}
use Rattle.ilk_cert_audit.specs.Grammar.{IfElse, QueriesLinesAndEnd, safe_line, RefutationLinesAndRest, LinesAfterHeader}
use Rattle.ilk_cert_audit.specs.Stages.{IsOutcomeOfStepLine, is_valid_k, IsNextStage, certified_queries_after_query, certified_queries_from_next}
use Rattle.ilk_cert_audit.specs.declared.next.Line.TheVariants.{Bad, Closes, Follows}
use Rattle.ilk_cert_audit.specs.declared.stage.Stage.TheVariants.{Told, Between, Within, Ended}

pub number-parts : (k : ℕ) → is_valid_k k ≡ true → (0 < k) × (k ≤ 16)
number-parts k h = (let p = and_parts (nat_lt 0 k) (nat_le k 16) h in (ltb-true 0 k p.0, leb-true k 16 p.1))

pub safe-same : (k m : ℕ) → k ≤ 16 → m ≤ 16 → safe_line k ≡ safe_line m → k ≡ m
safe-same k m hk hm e =
    let d : decimal k ≡ decimal m = append_cancel_left (codes "safe ") (decimal k) (decimal m) e in
    same_Some k m (sym (decimal_back 16 k (omega arith) hk) ∙ ap (decimal_up_to 16) d ∙ decimal_back 16 m (omega arith) hm)

pub certified-first : (k : ℕ) → certified_queries k ≡ certified_queries_from_next k (Some (wanted.Hazard 0))
certified-first k =
    let more : range_with_len 0 (k + 1) ≡ 0 ∷ range_with_len 1 k = ap (range_with_len 0) (add-one k) in
    let rest : k - 0 ≡ k = omega arith in
    ap (λ (ns : List ℕ). flat_map hazard_and_breach_query_pair ns ++ wanted.Step k ∷ []) more
    ∙ ap (λ n. wanted.Hazard 0 ∷ (wanted.Breach 0 ∷ (flat_map hazard_and_breach_query_pair (range_with_len 1 n) ++ wanted.Step k ∷ []))) (sym rest)

pub next-told : (s : PlainSystem) (g : PlainGoalForms) (line : Bytes) (m : ℕ) → line ≡ safe_line m → is_valid_k m ≡ true → IsNextStage s g Told line (Some (Between m (Some (wanted.Hazard 0))))
next-told s g line m e num may k lines =
    let p = number-parts m num in
    let Q : List Wanted → Type 0 = λ qs. QueriesLinesAndEnd may s g qs lines in (
      λ h. (let same = safe-same k m h.2 p.1 (sym h.0 ∙ e) in
          let K : ℕ → Type 0 = λ n. QueriesLinesAndEnd may s g (certified_queries n) lines in
          (same, subst Q (certified-first m) (subst K same h.3))),
      λ h. (let K : ℕ → Type 0 = λ n. LinesAfterHeader may s g n (line ∷ lines) in
          subst K (sym h.0) (e, p.0, p.1, subst Q (sym (certified-first m)) h.1)),
    )

pub next-end : (s : PlainSystem) (g : PlainGoalForms) (m : ℕ) (line : Bytes) → line ≡ codes "end" → IsNextStage s g (Between m None) line (Some (Ended m))
next-end s g m line e may k lines = ((λ h. (h.0, h.1.1)), (λ h. (h.0, (e, h.1))))

pub bad-step : (s : PlainSystem) (g : PlainGoalForms) (m : ℕ) (q : Wanted) (a new : AuditState) (line : Bytes) → IsOutcomeOfStepLine line a new Bad → IsNextStage s g (Within m q a) line None
bad-step s g m q a new line bad may k lines h = bad h.1.0 h.1.1 h.1.2

pub next-good : (s : PlainSystem) (g : PlainGoalForms) (m : ℕ) (q : Wanted) (a new : AuditState) (line : Bytes) → IsOutcomeOfStepLine line a new Follows → IsNextStage s g (Within m q a) line (Some (Within m q new))
next-good s g m q a new line taken may k lines =
    let f = taken.0 in
    let t = f.step in
    let After : List Bytes → Type 0 = QueriesLinesAndEnd may s g (certified_queries_after_query m q) in
    let Rest : LogStep → Type 0 = λ u. IfElse (is_empty_clause u.clause) (After lines) (RefutationLinesAndRest may a.vars (a.clauses ++ u.clause ∷ []) After lines) in
    let B : Bool → Type 0 = λ b. IfElse b (After lines) (RefutationLinesAndRest may a.vars (a.clauses ++ t.clause ∷ []) After lines) in
    let A : AuditState → Type 0 = λ x. RefutationLinesAndRest may x.vars x.clauses After lines in (
      λ h. (let same = f.only h.1.0 h.1.1 h.1.2 in (h.0, subst A (sym f.after) (subst B taken.1 (subst Rest (sym same) h.1.3)))),
      λ h. (h.0, (t, f.own, f.derived, subst B (sym taken.1) (subst A f.after h.1))),
    )

pub next-closed :
    (s : PlainSystem) (g : PlainGoalForms) (m : ℕ) (q : Wanted) (next : Option Wanted) (a new : AuditState)
    (line : Bytes) →
    IsOutcomeOfStepLine line a new Closes → certified_queries_from_next m next ≡ certified_queries_after_query m q →
    IsNextStage s g (Within m q a) line (Some (Between m next))
next-closed s g m q next a new line taken left may k lines =
    let f = taken.0 in
    let t = f.step in
    let After : List Bytes → Type 0 = QueriesLinesAndEnd may s g (certified_queries_after_query m q) in
    let Rest : LogStep → Type 0 = λ u. IfElse (is_empty_clause u.clause) (After lines) (RefutationLinesAndRest may a.vars (a.clauses ++ u.clause ∷ []) After lines) in
    let B : Bool → Type 0 = λ b. IfElse b (After lines) (RefutationLinesAndRest may a.vars (a.clauses ++ t.clause ∷ []) After lines) in
    let Q : List Wanted → Type 0 = λ qs. QueriesLinesAndEnd may s g qs lines in (
      λ h. (let same = f.only h.1.0 h.1.1 h.1.2 in (h.0, subst Q (sym left) (subst B taken.1 (subst Rest (sym same) h.1.3)))),
      λ h. (h.0, (t, f.own, f.derived, subst B (sym taken.1) (subst Q left h.1))),
    )

pub after-breach : (k n : ℕ) → n < k → certified_queries_from_next k (Some (wanted.Hazard (n + 1))) ≡ certified_queries_after_query k (wanted.Breach n)
after-breach k n lt =
    let one : k - n ≡ suc (k - (n + 1)) = omega (arith, lt) in
    ap (λ i. flat_map hazard_and_breach_query_pair (range_with_len (n + 1) i) ++ wanted.Step k ∷ []) (sym one)
