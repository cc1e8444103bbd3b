-- The rest of the text of a formula, for private contracts and proofs.
use Rattle.std.specs.Prelude.{ℕ, List, [], ◌∷◌, ◌++◌, codes, drop, flat_map}
use Rattle.ilk_cnf.specs.Formula.{Formula}
use Rattle.ilk_cnf.specs.Literal.{Literal}
use Rattle.ilk_lines.specs.Lines.{Bytes}
use Rattle.ilk_lines.specs.Written.{join_words_with_spaces}
use Rattle.ilk_log.specs.StepText.{lit_word}
use Rattle.ilk_dimacs.specs.DimacsText.{clause_words}
use Rattle.ilk_dimacs.specs.declared.clauses_text.Position.{Position}

-- Returns the line of these words, with its line feed.
abbrev pub line_of_words_with_feed : List Bytes → Bytes
line_of_words_with_feed words = join_words_with_spaces words ++ 10 ∷ []

-- Returns the text of literals, with a space after each.
abbrev pub lits_with_space_after_each : List Literal → Bytes
lits_with_space_after_each c = flat_map (λ l. lit_word l ++ 32 ∷ []) c

-- Returns the lines of clauses, each with its line feed.
abbrev pub clause_lines_text : List (List Literal) → Bytes
clause_lines_text cs = flat_map (λ c. line_of_words_with_feed (clause_words c)) cs

-- Returns the lines of clauses, without the first `n` literals of the first.
abbrev pub clauses_text_after_lits : ℕ → List (List Literal) → Bytes
clauses_text_after_lits n [] = []
clauses_text_after_lits n (c ∷ cs) = lits_with_space_after_each (drop n c) ++ (codes "0\n" ++ clause_lines_text cs)

-- Returns the bytes of the clauses' lines that are left at a position.
abbrev pub clauses_text_from_position : Formula → Position → Bytes
clauses_text_from_position f at = at.token ++ clauses_text_after_lits at.literals (drop at.made f.clauses)
