-- Used only in private contracts and proofs: the words that are still to be read.
use Rattle.std.specs.Prelude.{List, [], ◌++◌, Option}
use Rattle.std.specs.Borrow.{Bor}
use Rattle.std.specs.Option.{option_map_or}
use Rattle.ilk_lines.specs.Lines.{Bytes}
use Rattle.ilk_rup.specs.RefutationText.{text_words, words_in}

-- Returns the words of `line`, the rest of a line, and those of the lines after it, if there are
-- any.
abbrev pub words_left : Bytes → Option (Bor Bytes) → List Bytes
words_left line lines = words_in line ++ option_map_or (λ (rest : Bor Bytes). text_words rest.now) lines []
