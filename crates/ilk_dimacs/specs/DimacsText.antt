-- The text of a formula in the DIMACS CNF format, which the solvers of the SAT competitions read.
use Rattle.std.specs.Prelude.{List, [], ◌∷◌, ◌++◌, codes, length, map}
use Rattle.std.specs.Fmt.{decimal}
use Rattle.ilk_cnf.specs.Literal.{Literal}
use Rattle.ilk_cnf.specs.Formula.{Formula}
use Rattle.ilk_lines.specs.Lines.{Bytes}
use Rattle.ilk_lines.specs.Written.{join_words_with_spaces, text_of}
use Rattle.ilk_log.specs.StepText.{lit_word}

-- Returns the words of the first line: `p`, `cnf`, the number of variables and the number of
-- clauses.
abbrev pub header_words : Formula → List Bytes
header_words f = codes "p" ∷ codes "cnf" ∷ decimal f.vars ∷ decimal (length f.clauses) ∷ []

-- Returns the words of a clause: its literals in order, and `0`.
abbrev pub clause_words : List Literal → List Bytes
clause_words c = map lit_word c ++ codes "0" ∷ []

-- Returns the lines of a formula: the first, then one for each clause, with one space between each
-- two words.
abbrev pub dimacs_lines : Formula → List Bytes
dimacs_lines f = map join_words_with_spaces (header_words f ∷ map clause_words f.clauses)

-- Returns the text of a formula: its lines, each ended by one line feed.
abbrev pub dimacs_text : Formula → Bytes
dimacs_text f = text_of (dimacs_lines f)
