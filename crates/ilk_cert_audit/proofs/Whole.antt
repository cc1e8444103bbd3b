-- A certificate's lines are those of the grammar that do not stop before the last.
use Rattle.std.proofs.Common.{◌≡◌, ℕ, zero, suc, Bool, true, false, not, All, List, [], ◌∷◌, ◌++◌, codes, map, refl, sym, ap, ◌∙◌, subst, arith, append_assoc}
use Rattle.std.specs.Prelude.{flat_map}
use Rattle.std.proofs.lemmas.Bool.{and_parts, and_from, not-true, not_from_false}
use Rattle.std.proofs.lemmas.List.{append-nil}
use Rattle.std.proofs.lemmas.List.Elements.{All-nil, All-cons}
use Rattle.ilk_cnf.specs.Literal.{Literal}
use Rattle.ilk_ir.specs.System.{PlainSystem}
use Rattle.ilk_lines.specs.Lines.{unterminated_tail, Bytes, lines_of}
use Rattle.ilk_lines.specs.Written.{text_of}
use Rattle.ilk_lines.proofs.TextLines.{lines_back, text-lines}
use Rattle.ilk_log.specs.declared.step.Step.{Step as LogStep}
use Rattle.ilk_log.specs.Derived.{each_derived, only_last_clause_is_empty, is_derived, is_empty_clause}
use Rattle.ilk_log.specs.StepText.{step_text}
use Rattle.ilk_unroll.specs.declared.queries.Wanted.{Wanted}
use Rattle.ilk_unroll.specs.Goal.{PlainGoalForms}
use Rattle.ilk_unroll.specs.Query.{query_formula}
use Rattle.ilk_certificate.specs.Certificate.{certified_queries, IsValidCertificate, IsRefuted}
use Rattle.ilk_certificate.specs.CertificateText.{query_and_log_lines, certificate_lines, query_header_line}
use Rattle.ilk_certificate.specs.declared.asked.Asked.{Asked}
use Rattle.ilk_cert_audit.specs.Grammar.{CertificateLines, IfElse, QueriesLinesAndEnd, safe_line, RefutationLinesAndRest}
use Rattle.ilk_cert_audit.proofs.Plain.{certificate-plain}

abbrev pub refuted_by : PlainSystem → PlainGoalForms → Asked → Type 0
refuted_by s g a = IsRefuted s g a.query a.log

ends-more : (s : LogStep) (log : List LogStep) → is_empty_clause s.clause ≡ false → only_last_clause_is_empty log ≡ true → only_last_clause_is_empty (s ∷ log) ≡ true
ends-more s [] open_ h = absurd (cc)
ends-more s (t ∷ log) open_ h = and_from (not (is_empty_clause s.clause)) (only_last_clause_is_empty (t ∷ log)) (not_from_false (is_empty_clause s.clause) open_) h

steps-lines :
    (n : ℕ) (clauses : List (List Literal)) (After : List Bytes → Type 0) (log : List LogStep)
    (rest : List Bytes) →
    each_derived n clauses log ≡ true → only_last_clause_is_empty log ≡ true → After rest →
    RefutationLinesAndRest false n clauses After (map step_text log ++ rest)
steps-lines n clauses After [] rest d e after = absurd (cc)
steps-lines n clauses After (s ∷ []) rest d e after =
    let P : Bool → Type 0 = λ b. IfElse b (After rest) (RefutationLinesAndRest false n (clauses ++ s.clause ∷ []) After rest) in
    (s, refl, (and_parts (is_derived n clauses s) true d).0, subst P (sym e) after)
steps-lines n clauses After (s ∷ (t ∷ log)) rest d e after =
    let p = and_parts (is_derived n clauses s) (each_derived n (clauses ++ s.clause ∷ []) (t ∷ log)) d in
    let q = and_parts (not (is_empty_clause s.clause)) (only_last_clause_is_empty (t ∷ log)) e in
    let more = steps-lines n (clauses ++ s.clause ∷ []) After (t ∷ log) rest p.1 q.1 after in
    let P : Bool → Type 0 = λ b. IfElse b (After (map step_text (t ∷ log) ++ rest)) (RefutationLinesAndRest false n (clauses ++ s.clause ∷ []) After (map step_text (t ∷ log) ++ rest)) in
    (s, refl, p.0, subst P (sym (not-true (is_empty_clause s.clause) q.0)) more)

record Refuting (n : ℕ) (clauses : List (List Literal)) (After : List Bytes → Type 0) (lines : List Bytes) : Type 0 where
  log : List LogStep
  rest : List Bytes
  derived : each_derived n clauses log ≡ true
  closes : only_last_clause_is_empty log ≡ true
  same : lines ≡ map step_text log ++ rest
  after : After rest

steps-back : (n : ℕ) (clauses : List (List Literal)) (After : List Bytes → Type 0) (lines : List Bytes) → RefutationLinesAndRest false n clauses After lines → Refuting n clauses After lines
steps-back n clauses After [] h = absurd (cc)
steps-back n clauses After (line ∷ lines) h = by_end (is_empty_clause h.0.clause) refl h.3 (λ more. steps-back n (clauses ++ h.0.clause ∷ []) After lines more)
  where
    by_end : (b : Bool) → is_empty_clause h.0.clause ≡ b →
        IfElse b (After lines) (RefutationLinesAndRest false n (clauses ++ h.0.clause ∷ []) After lines) →
        (RefutationLinesAndRest false n (clauses ++ h.0.clause ∷ []) After lines →
        Refuting n (clauses ++ h.0.clause ∷ []) After lines) →
        Refuting n clauses After (line ∷ lines)
    by_end true e after back = record {
      log = h.0 ∷ [];
      rest = lines;
      derived = and_from (is_derived n clauses h.0) true h.2 refl;
      closes = e;
      same = ap (λ (x : Bytes). x ∷ lines) h.1;
      after = after;
    }
    by_end false e more back = (let r = back more in
        record {
          log = h.0 ∷ r.log;
          rest = r.rest;
          derived = and_from (is_derived n clauses h.0) (each_derived n (clauses ++ h.0.clause ∷ []) r.log) h.2 r.derived;
          closes = ends-more h.0 r.log e r.closes;
          same = ap (λ (x : Bytes). x ∷ lines) h.1 ∙ ap (λ (xs : List Bytes). step_text h.0 ∷ xs) r.same;
          after = r.after;
        })

queries-lines : (s : PlainSystem) (g : PlainGoalForms) (asked : List Asked) → All (refuted_by s g) asked → QueriesLinesAndEnd false s g (map (λ (a : Asked). a.query) asked) (flat_map query_and_log_lines asked ++ codes "end" ∷ [])
queries-lines s g [] refuted = (refl, refl)
queries-lines s g (a ∷ asked) refuted =
    let f = query_formula s g a.query in
    let rest = flat_map query_and_log_lines asked ++ codes "end" ∷ [] in
    let After : List Bytes → Type 0 = QueriesLinesAndEnd false s g (map (λ (b : Asked). b.query) asked) in
    let p = and_parts (each_derived f.vars f.clauses a.log) (only_last_clause_is_empty a.log) (refuted zero a (omega arith)) in
    let more = queries-lines s g asked (λ k d within. refuted (suc k) d (omega arith)) in
    let P : List Bytes → Type 0 = λ xs. RefutationLinesAndRest false f.vars f.clauses After xs in
    (refl, subst P (sym (append_assoc (map step_text a.log) (flat_map query_and_log_lines asked) (codes "end" ∷ []))) (steps-lines f.vars f.clauses After a.log rest p.0 p.1 more))

record Asking (s : PlainSystem) (g : PlainGoalForms) (qs : List Wanted) (lines : List Bytes) : Type 0 where
  asked : List Asked
  queries : map (λ (a : Asked). a.query) asked ≡ qs
  refuted : All (refuted_by s g) asked
  same : lines ≡ flat_map query_and_log_lines asked ++ codes "end" ∷ []

queries-back : (s : PlainSystem) (g : PlainGoalForms) (qs : List Wanted) (lines : List Bytes) → QueriesLinesAndEnd false s g qs lines → Asking s g qs lines
queries-back s g [] [] h = absurd (cc)
queries-back s g [] (line ∷ lines) h = record {
  asked = [];
  queries = refl;
  refuted = All-nil (refuted_by s g);
  same = ap (λ (x : Bytes). x ∷ lines) h.0 ∙ ap (λ (xs : List Bytes). codes "end" ∷ xs) h.1;
}
queries-back s g (q ∷ qs) [] h = absurd (cc)
queries-back s g (q ∷ qs) (line ∷ lines) h =
    let f = query_formula s g q in
    let r = steps-back f.vars f.clauses (QueriesLinesAndEnd false s g qs) lines h.1 in
    let m = queries-back s g qs r.rest r.after in
    let a : Asked = record { query = q; log = r.log } in
    record {
      asked = a ∷ m.asked;
      queries = ap (λ (ws : List Wanted). q ∷ ws) m.queries;
      refuted = All-cons (refuted_by s g) a m.asked (and_from (each_derived f.vars f.clauses r.log) (only_last_clause_is_empty r.log) r.derived r.closes) m.refuted;
      same = ap (λ (x : Bytes). x ∷ lines) h.0
          ∙ ap (λ (xs : List Bytes). query_header_line q ∷ xs) (r.same ∙ ap (λ (xs : List Bytes). map step_text r.log ++ xs) m.same ∙ sym (append_assoc (map step_text r.log) (flat_map query_and_log_lines m.asked) (codes "end" ∷ [])));
    }

pub certificate_lines-whole : (s : PlainSystem) (g : PlainGoalForms) (k : ℕ) (bytes : Bytes) → IsValidCertificate s g k bytes → CertificateLines false s g k (lines_of bytes) × (unterminated_tail bytes ≡ [])
certificate_lines-whole s g k bytes c =
    let back = lines_back (certificate_lines (safe_line k) c.asked) (certificate-plain k c.asked) in
    let lines = ap lines_of c.text ∙ back.0 in
    let P : List Bytes → Type 0 = λ xs. CertificateLines false s g k xs in
    let Q : List Wanted → Type 0 = λ qs. QueriesLinesAndEnd false s g qs (flat_map query_and_log_lines c.asked ++ codes "end" ∷ []) in
    (subst P (sym lines) (refl, (refl, c.some, c.most, subst Q c.queries (queries-lines s g c.asked c.refuted))), ap unterminated_tail c.text ∙ back.1)

pub whole-certificate : (s : PlainSystem) (g : PlainGoalForms) (k : ℕ) (bytes : Bytes) → CertificateLines false s g k (lines_of bytes) → unterminated_tail bytes ≡ [] → IsValidCertificate s g k bytes
whole-certificate s g k bytes h ends = go (lines_of bytes) refl h
  where
    go : (lines : List Bytes) → lines_of bytes ≡ lines → CertificateLines false s g k lines → IsValidCertificate s g k bytes
    go [] e h = absurd (cc)
    go (head ∷ []) e h = absurd (let z = h.1 in cc)
    go (head ∷ (told ∷ lines)) e h =
        let m = queries-back s g (certified_queries k) lines h.1.3 in
        let whole : lines_of bytes ≡ certificate_lines (safe_line k) m.asked = e
        ∙ ap (λ (x : Bytes). x ∷ (told ∷ lines)) h.0
        ∙ ap (λ (x : Bytes). codes "irv certificate 3" ∷ (x ∷ lines)) h.1.0
        ∙ ap (λ (xs : List Bytes). codes "irv certificate 3" ∷ (safe_line k ∷ xs)) m.same in
        record {
          asked = m.asked;
          some = h.1.1;
          most = h.1.2;
          queries = m.queries;
          refuted = m.refuted;
          text = text-lines bytes ∙ ap (λ (xs : List Bytes). text_of xs ++ unterminated_tail bytes) whole ∙ ap
              (λ (t : Bytes). text_of (certificate_lines (safe_line k) m.asked) ++ t) ends ∙ append-nil (text_of (certificate_lines (safe_line k) m.asked));
        }
