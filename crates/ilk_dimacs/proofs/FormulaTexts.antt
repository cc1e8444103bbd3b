use Rattle.std.proofs.Common.{◌≡◌, [], ◌∷◌, ap, ◌∙◌, arith}
use Rattle.std.specs.Prelude.{codes}
use Rattle.std.specs.Fmt.{decimal}
use Rattle.std.proofs.lemmas.Fmt.{decimal_digit}
use Rattle.ilk_cnf.specs.Literal.{negative_lit, positive_lit}
use Rattle.ilk_cnf.specs.Formula.{Formula}
use Rattle.ilk_lines.specs.Lines.{Bytes}
use Rattle.ilk_lines.specs.Written.{join_words_with_spaces, text_of}
use Rattle.ilk_dimacs.specs.DimacsText.{dimacs_text}

abbrev of_four : Formula
of_four = record { vars = 2; clauses = (positive_lit 1 ∷ positive_lit 2 ∷ []) ∷ (positive_lit 1 ∷ negative_lit 2 ∷ []) ∷ (negative_lit 1 ∷ positive_lit 2 ∷ []) ∷ (negative_lit 1 ∷ negative_lit 2 ∷ []) ∷ [] }

abbrev four_with : Bytes → Bytes → Bytes → Bytes
four_with one two four = text_of
    (join_words_with_spaces (codes "p" ∷ codes "cnf" ∷ two ∷ four ∷ []) ∷ join_words_with_spaces (one ∷ two ∷ codes "0" ∷ [])
    ∷ join_words_with_spaces (one ∷ (45 ∷ two) ∷ codes "0" ∷ []) ∷ join_words_with_spaces ((45 ∷ one) ∷ two ∷ codes "0" ∷ [])
    ∷ join_words_with_spaces ((45 ∷ one) ∷ (45 ∷ two) ∷ codes "0" ∷ []) ∷ [])

pub four_clauses : dimacs_text of_four ≡ codes "p cnf 2 4\n1 2 0\n1 -2 0\n-1 2 0\n-1 -2 0\n"
four_clauses =
    ap (λ (one : Bytes). four_with one (decimal 2) (decimal 4)) (decimal_digit 1 (omega arith))
    ∙ ap (λ (two : Bytes). four_with (codes "1") two (decimal 4)) (decimal_digit 2 (omega arith))
    ∙ ap (λ (four : Bytes). four_with (codes "1") (codes "2") four) (decimal_digit 4 (omega arith))

pub empty_clause : dimacs_text (record { vars = 0; clauses = [] ∷ [] }) ≡ codes "p cnf 0 1\n0\n"
empty_clause =
    let text : Bytes → Bytes → Bytes = λ none one. text_of (join_words_with_spaces (codes "p" ∷ codes "cnf" ∷ none ∷ one ∷ []) ∷ codes "0" ∷ []) in
    ap (λ (none : Bytes). text none (decimal 1)) (decimal_digit 0 (omega arith)) ∙ ap (text (codes "0")) (decimal_digit 1 (omega arith))

pub no_clause : dimacs_text (record { vars = 0; clauses = [] }) ≡ codes "p cnf 0 0\n"
no_clause = ap (λ (none : Bytes). text_of (join_words_with_spaces (codes "p" ∷ codes "cnf" ∷ none ∷ none ∷ []) ∷ [])) (decimal_digit 0 (omega arith))
