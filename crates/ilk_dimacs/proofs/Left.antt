use Rattle.std.proofs.Common.{◌≡◌, ℕ, ◌+◌, ◌-◌, ◌≤◌, List, [], ◌∷◌, ◌++◌, Some, length, drop, take, take-append-drop, refl, sym, ap, ◌∙◌, arith, append_assoc, slice_get}
use Rattle.std.specs.Prelude.{codes}
use Rattle.std.proofs.lemmas.List.{drop_all}
use Rattle.ilk_cnf.specs.Literal.{Literal}
use Rattle.ilk_cnf.specs.Formula.{Formula}
use Rattle.ilk_lines.specs.Lines.{Bytes}
use Rattle.ilk_log.specs.StepText.{lit_word}
use Rattle.ilk_dimacs.specs.DimacsText.{clause_words, dimacs_text, header_words}
use Rattle.ilk_dimacs.specs.Left.{clauses_text_after_lits, line_of_words_with_feed, clause_lines_text, lits_with_space_after_each}
use Rattle.ilk_dimacs.proofs.Lines.{line-lits, lines-line_of_words_with_feed}
use Rattle.ilk_base.proofs.Lists.{drop_from}

pub left_whole : (cs : List (List Literal)) → clauses_text_after_lits 0 cs ≡ clause_lines_text cs
left_whole [] = refl
left_whole (c ∷ cs) =
    sym (append_assoc (lits_with_space_after_each c) (codes "0\n") (clause_lines_text cs)) ∙ ap (λ (t : Bytes). t ++ clause_lines_text cs) (line-fed c)
  where
    line-fed : (c : List Literal) → lits_with_space_after_each c ++ codes "0\n" ≡ line_of_words_with_feed (clause_words c)
    line-fed c = sym (append_assoc (lits_with_space_after_each c) (codes "0") (10 ∷ [])) ∙ ap (λ (t : Bytes). t ++ 10 ∷ []) (sym (line-lits c))

pub left-literal : (cs : List (List Literal)) (i n : ℕ) (c : List Literal) (l : Literal) → slice_get cs (i + 1 - 1) ≡ Some c → slice_get c n ≡ Some l →
    (lit_word l ++ 32 ∷ []) ++ clauses_text_after_lits (n + 1) (drop i cs) ≡ clauses_text_after_lits n (drop i cs)
left-literal cs i n c l clause literal =
    let same : i ≡ i + 1 - 1 = omega arith in
    let here : drop i cs ≡ c ∷ drop (i + 1) cs = drop_from cs i c (ap (slice_get cs) same ∙ clause) in
    ap (λ (ds : List (List Literal)). (lit_word l ++ 32 ∷ []) ++ clauses_text_after_lits (n + 1) ds) here
    ∙ sym (append_assoc (lit_word l ++ 32 ∷ []) (lits_with_space_after_each (drop (n + 1) c)) (codes "0\n" ++ clause_lines_text (drop (i + 1) cs)))
    ∙ ap (λ (ls : List Literal). lits_with_space_after_each ls ++ (codes "0\n" ++ clause_lines_text (drop (i + 1) cs))) (sym (drop_from c n l literal))
    ∙ ap (clauses_text_after_lits n) (sym here)

pub left-end : (cs : List (List Literal)) (i n : ℕ) (c : List Literal) → slice_get cs (i + 1 - 1) ≡ Some c → length c ≤ n → codes "0\n" ++ clauses_text_after_lits 0 (drop (i + 1) cs) ≡ clauses_text_after_lits n (drop i cs)
left-end cs i n c clause past =
    let same : i ≡ i + 1 - 1 = omega arith in
    let here : drop i cs ≡ c ∷ drop (i + 1) cs = drop_from cs i c (ap (slice_get cs) same ∙ clause) in
    ap (λ (t : Bytes). codes "0\n" ++ t) (left_whole (drop (i + 1) cs))
    ∙ ap (λ (ls : List Literal). lits_with_space_after_each ls ++ (codes "0\n" ++ clause_lines_text (drop (i + 1) cs))) (sym (drop_all n c past))
    ∙ ap (clauses_text_after_lits n) (sym here)

pub text_is : (f : Formula) (header rest : Bytes) → header ≡ line_of_words_with_feed (header_words f) → rest ≡ clause_lines_text f.clauses → header ++ rest ≡ dimacs_text f
text_is f header rest first clauses =
    ap (λ (t : Bytes). t ++ rest) first ∙ ap (λ (t : Bytes). line_of_words_with_feed (header_words f) ++ t) (clauses ∙ lines-line_of_words_with_feed f.clauses)

pub literal-made :
    (cs : List (List Literal)) (i n : ℕ) (c : List Literal) (l : Literal) (made whole : Bytes) →
    slice_get cs (i + 1 - 1) ≡ Some c → slice_get c n ≡ Some l → made ≡ lit_word l ++ 32 ∷ [] →
    clauses_text_after_lits n (drop i cs) ≡ whole → made ++ clauses_text_after_lits (n + 1) (drop i cs) ≡ whole
literal-made cs i n c l made whole clause literal is left =
    ap (λ (t : Bytes). t ++ clauses_text_after_lits (n + 1) (drop i cs)) is ∙ left-literal cs i n c l clause literal ∙ left

pub end-made : (cs : List (List Literal)) (i n : ℕ) (c : List Literal) (before made whole : Bytes) →
    slice_get cs (i + 1 - 1) ≡ Some c → length c ≤ n → before ≡ [] → made ≡ codes "0\n" ++ before →
    clauses_text_after_lits n (drop i cs) ≡ whole → made ++ clauses_text_after_lits 0 (drop (i + 1) cs) ≡ whole
end-made cs i n c before made whole clause past none is left =
    ap (λ (t : Bytes). t ++ clauses_text_after_lits 0 (drop (i + 1) cs)) (is ∙ ap (λ (t : Bytes). codes "0\n" ++ t) none) ∙ left-end cs i n c clause past ∙ left

pub first-taken : (token new rest into : Bytes) (k : ℕ) → take k into ≡ take k token → new ≡ drop k token → token ++ rest ≡ take k into ++ (new ++ rest)
first-taken token new rest into k same left =
    ap (λ (t : Bytes). t ++ rest) (sym (take-append-drop k token))
    ∙ append_assoc (take k token) (drop k token) rest
    ∙ (λ i. sym same i ++ (sym left i ++ rest))
