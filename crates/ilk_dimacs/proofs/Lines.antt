use Rattle.std.proofs.Common.{◌≡◌, List, [], ◌∷◌, ◌++◌, map, refl, sym, ap, ◌∙◌, append_assoc}
use Rattle.std.specs.Prelude.{codes}
use Rattle.ilk_cnf.specs.Literal.{Literal}
use Rattle.ilk_lines.specs.Lines.{Bytes}
use Rattle.ilk_lines.specs.Written.{join_words_with_spaces, join_word_and_rest, text_of}
use Rattle.ilk_log.specs.StepText.{lit_word}
use Rattle.ilk_dimacs.specs.DimacsText.{clause_words}
use Rattle.ilk_dimacs.specs.Left.{line_of_words_with_feed, clause_lines_text, lits_with_space_after_each}

word-led : (word : Bytes) (c : List Literal) → join_words_with_spaces (word ∷ clause_words c) ≡ join_word_and_rest word (join_words_with_spaces (clause_words c))
word-led word [] = refl
word-led word (l ∷ c) = refl

pub line-lits : (c : List Literal) → join_words_with_spaces (clause_words c) ≡ lits_with_space_after_each c ++ codes "0"
line-lits [] = refl
line-lits (l ∷ c) = word-led (lit_word l) c ∙ ap (λ (t : Bytes). lit_word l ++ (32 ∷ t)) (line-lits c) ∙ regroup (lit_word l) (lits_with_space_after_each c) (codes "0")
  where
    regroup : (a b z : Bytes) → a ++ (32 ∷ (b ++ z)) ≡ ((a ++ 32 ∷ []) ++ b) ++ z
    regroup a b z = sym (append_assoc (a ++ 32 ∷ []) b z ∙ append_assoc a (32 ∷ []) (b ++ z))

pub lines-line_of_words_with_feed : (cs : List (List Literal)) → clause_lines_text cs ≡ text_of (map join_words_with_spaces (map clause_words cs))
lines-line_of_words_with_feed [] = refl
lines-line_of_words_with_feed (c ∷ cs) = ap (λ (t : Bytes). line_of_words_with_feed (clause_words c) ++ t) (lines-line_of_words_with_feed cs)
