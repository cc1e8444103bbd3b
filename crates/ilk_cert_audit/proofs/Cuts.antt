-- Lines of a certificate begin one, regardless of the cut.
use Rattle.std.proofs.Common.{◌≡◌, ℕ, zero, suc, Bool, true, false, List, [], ◌∷◌, ◌++◌, refl, ap, ◌∙◌, take}
use Rattle.ilk_cnf.specs.Literal.{Literal}
use Rattle.ilk_ir.specs.System.{PlainSystem}
use Rattle.ilk_lines.specs.Lines.{Bytes}
use Rattle.ilk_log.specs.Derived.{is_empty_clause}
use Rattle.ilk_unroll.specs.declared.queries.Wanted.{Wanted}
use Rattle.ilk_unroll.specs.Goal.{PlainGoalForms}
use Rattle.ilk_unroll.specs.Query.{query_formula}
use Rattle.ilk_certificate.specs.Certificate.{certified_queries}
use Rattle.ilk_cert_audit.specs.Grammar.{CertificateLines, IfElse, QueriesLinesAndEnd, RefutationLinesAndRest, LinesAfterHeader}

take-none : (m : ℕ) → take m (let xs : List Bytes = [] in xs) ≡ []
take-none zero = refl
take-none (suc m) = refl

cut-steps : (may : Bool) (n : ℕ) (clauses : List (List Literal)) (After Cut : List Bytes → Type 0) →
    ((lines : List Bytes) (m : ℕ) → After lines → Cut (take m lines)) → (lines : List Bytes) (m : ℕ) →
    RefutationLinesAndRest may n clauses After lines → RefutationLinesAndRest true n clauses Cut (take m lines)
cut-steps may n clauses After Cut cut [] zero h = refl
cut-steps may n clauses After Cut cut [] (suc m) h = refl
cut-steps may n clauses After Cut cut (line ∷ lines) zero h = refl
cut-steps may n clauses After Cut cut (line ∷ lines) (suc m) h = (h.0, h.1, h.2, by_end (is_empty_clause h.0.clause) (cut-steps may n (clauses ++ h.0.clause ∷ []) After Cut cut lines m) h.3)
  where
    by_end : (b : Bool) →
        (RefutationLinesAndRest may n (clauses ++ h.0.clause ∷ []) After lines →
        RefutationLinesAndRest true n (clauses ++ h.0.clause ∷ []) Cut (take m lines)) →
        IfElse b (After lines) (RefutationLinesAndRest may n (clauses ++ h.0.clause ∷ []) After lines) →
        IfElse b (Cut (take m lines)) (RefutationLinesAndRest true n (clauses ++ h.0.clause ∷ []) Cut (take m lines))
    by_end true more after = cut lines m after
    by_end false more after = more after

cut-queries : (may : Bool) (s : PlainSystem) (g : PlainGoalForms) (qs : List Wanted) (lines : List Bytes) (m : ℕ) → QueriesLinesAndEnd may s g qs lines → QueriesLinesAndEnd true s g qs (take m lines)
cut-queries may s g [] [] zero h = refl
cut-queries may s g [] [] (suc m) h = refl
cut-queries may s g [] (line ∷ lines) zero h = refl
cut-queries may s g [] (line ∷ lines) (suc m) h = (h.0, ap (take m) h.1 ∙ take-none m)
cut-queries may s g (q ∷ qs) [] zero h = refl
cut-queries may s g (q ∷ qs) [] (suc m) h = refl
cut-queries may s g (q ∷ qs) (line ∷ lines) zero h = refl
cut-queries may s g (q ∷ qs) (line ∷ lines) (suc m) h =
    (h.0, cut-steps may (query_formula s g q).vars (query_formula s g q).clauses (QueriesLinesAndEnd may s g qs) (QueriesLinesAndEnd true s g qs) (λ more i after. cut-queries may s g qs more i after) lines m h.1)

cut-told : (may : Bool) (s : PlainSystem) (g : PlainGoalForms) (k : ℕ) (lines : List Bytes) (m : ℕ) → LinesAfterHeader may s g k lines → LinesAfterHeader true s g k (take m lines)
cut-told may s g k [] zero h = refl
cut-told may s g k [] (suc m) h = refl
cut-told may s g k (line ∷ lines) zero h = refl
cut-told may s g k (line ∷ lines) (suc m) h = (h.0, h.1, h.2, cut-queries may s g (certified_queries k) lines m h.3)

pub cut-certificate : (may : Bool) (s : PlainSystem) (g : PlainGoalForms) (k : ℕ) (lines : List Bytes) (m : ℕ) → CertificateLines may s g k lines → CertificateLines true s g k (take m lines)
cut-certificate may s g k [] zero h = refl
cut-certificate may s g k [] (suc m) h = refl
cut-certificate may s g k (line ∷ lines) zero h = refl
cut-certificate may s g k (line ∷ lines) (suc m) h = (h.0, cut-told may s g k lines m h.1)
