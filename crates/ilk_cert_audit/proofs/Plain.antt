-- The lines of a certificate have no line feed.
use Rattle.std.proofs.Common.{◌≡◌, ℕ, zero, suc, ◌/◌, ◌%◌, inl, inr, Bool, true, false, All, List, [], ◌∷◌, ◌++◌, codes, map, refl, arith}
use Rattle.std.specs.Prelude.{◌==◌, flat_map, nat_lt}
use Rattle.std.specs.Fmt.{decimal, digit_glyph, digits, digits_onto}
use Rattle.std.proofs.lemmas.Bool.{cases_Bool, or_from}
use Rattle.std.proofs.lemmas.Bool.Decides.{nat_tests}
use Rattle.std.proofs.lemmas.List.Elements.{All-nil, All-cons, All-append}
use Rattle.ilk_cnf.specs.Literal.{Literal}
use Rattle.ilk_lines.specs.Lines.{Bytes}
use Rattle.ilk_lines.specs.Written.{has_byte, LacksByte, join_words_with_spaces, join_word_and_rest}
use Rattle.ilk_lines.proofs.Lacking.{lacks_spaced}
use Rattle.ilk_log.specs.declared.step.Step.{Step as LogStep}
use Rattle.ilk_log.specs.StepText.{lit_word, step_text, step_words}
use Rattle.ilk_unroll.specs.declared.queries.Wanted.{Wanted}
use Rattle.ilk_unroll.specs.declared.queries.Wanted.TheVariants.{Hazard, Breach, Step}
use Rattle.ilk_certificate.specs.CertificateText.{query_and_log_lines, certificate_lines, query_header_line}
use Rattle.ilk_certificate.specs.declared.asked.Asked.{Asked}
use Rattle.ilk_cert_audit.specs.Grammar.{safe_line}

glyph-plain : (d : ℕ) → (digit_glyph false d == 10) ≡ false
glyph-plain d = elim (cases_Bool (nat_lt d 10)) [
  | inl t ↦ rw t (grind (arith, nat_tests))
  | inr f ↦ rw f (grind (arith, nat_tests))
]

digits-plain : (k n : ℕ) (acc : Bytes) → LacksByte 10 acc → LacksByte 10 (digits_onto k 10 false n acc)
digits-plain zero n acc h = h
digits-plain (suc k) n acc h =
    let more : LacksByte 10 (digit_glyph false (n % 10) ∷ acc) = or_from (digit_glyph false (n % 10) == 10) (has_byte 10 acc) (glyph-plain (n % 10)) h in
    elim (cases_Bool (n / 10 == 0)) [
      | inl t ↦ rw t more
      | inr f ↦ rw f (digits-plain k (n / 10) (digit_glyph false (n % 10) ∷ acc) more)
    ]

pub decimal-plain : (n : ℕ) → LacksByte 10 (decimal n)
unfolding digits
decimal-plain n = digits-plain 64 n [] refl

line-plain : (words : List Bytes) → All (LacksByte 10) words → LacksByte 10 (join_words_with_spaces words)
line-plain [] h = refl
line-plain (word ∷ []) h = h zero word (omega arith)
line-plain (word ∷ (next ∷ more)) h = lacks_spaced word (join_words_with_spaces (next ∷ more)) (h zero word (omega arith)) (line-plain (next ∷ more) (λ k d within. h (suc k) d (omega arith)))

pub step-plain : (s : LogStep) → LacksByte 10 (step_text s)
step-plain s = line-plain (step_words s)
    (All-cons (LacksByte 10) (codes "step")
    (map lit_word s.clause ++ (codes "0" ∷ (map decimal s.hints ++ codes "0" ∷ []))) refl
    (All-append (LacksByte 10) (map lit_word s.clause) (codes "0" ∷ (map decimal s.hints ++ codes "0" ∷ []))
    (lits s.clause)
    (All-cons (LacksByte 10) (codes "0") (map decimal s.hints ++ codes "0" ∷ []) refl
    (All-append (LacksByte 10) (map decimal s.hints) (codes "0" ∷ []) (numbers s.hints)
    (All-cons (LacksByte 10) (codes "0") [] refl (All-nil (LacksByte 10)))))))
  where
    lit : (v : ℕ) (b : Bool) → LacksByte 10 (lit_word (record { var = v; positive = b }))
    lit v true = decimal-plain v
    lit v false = decimal-plain v

    lits : (ls : List Literal) → All (LacksByte 10) (map lit_word ls)
    lits [] = All-nil (LacksByte 10)
    lits (l ∷ ls) = All-cons (LacksByte 10) (lit_word l) (map lit_word ls) (lit l.var l.positive) (lits ls)

    numbers : (hs : List ℕ) → All (LacksByte 10) (map decimal hs)
    numbers [] = All-nil (LacksByte 10)
    numbers (n ∷ hs) = All-cons (LacksByte 10) (decimal n) (map decimal hs) (decimal-plain n) (numbers hs)

safe-plain : (k : ℕ) → LacksByte 10 (safe_line k)
safe-plain k = lacks_spaced (codes "safe") (decimal k) refl (decimal-plain k)

query-plain : (q : Wanted) → LacksByte 10 (query_header_line q)
query-plain (Hazard n) = lacks_spaced (codes "query") (join_word_and_rest (codes "hazard") (decimal n)) refl (lacks_spaced (codes "hazard") (decimal n) refl (decimal-plain n))
query-plain (Breach n) = lacks_spaced (codes "query") (join_word_and_rest (codes "breach") (decimal n)) refl (lacks_spaced (codes "breach") (decimal n) refl (decimal-plain n))
query-plain (Step n) = lacks_spaced (codes "query") (join_word_and_rest (codes "step") (decimal n)) refl (lacks_spaced (codes "step") (decimal n) refl (decimal-plain n))

steps-plain : (log : List LogStep) → All (LacksByte 10) (map step_text log)
steps-plain [] = All-nil (LacksByte 10)
steps-plain (s ∷ log) = All-cons (LacksByte 10) (step_text s) (map step_text log) (step-plain s) (steps-plain log)

asked-plain : (asked : List Asked) → All (LacksByte 10) (flat_map query_and_log_lines asked)
asked-plain [] = All-nil (LacksByte 10)
asked-plain (a ∷ asked) = All-append (LacksByte 10) (query_and_log_lines a) (flat_map query_and_log_lines asked) (All-cons (LacksByte 10) (query_header_line a.query) (map step_text a.log) (query-plain a.query) (steps-plain a.log)) (asked-plain asked)

pub certificate-plain : (k : ℕ) (asked : List Asked) → All (LacksByte 10) (certificate_lines (safe_line k) asked)
certificate-plain k asked =
    let last : List Bytes = flat_map query_and_log_lines asked ++ codes "end" ∷ [] in
    let plain = All-append (LacksByte 10) (flat_map query_and_log_lines asked) (codes "end" ∷ []) (asked-plain asked) (All-cons (LacksByte 10) (codes "end") [] refl (All-nil (LacksByte 10))) in
    All-cons (LacksByte 10) (codes "irv certificate 3") (safe_line k ∷ last) refl (All-cons (LacksByte 10) (safe_line k) last (safe-plain k) plain)
