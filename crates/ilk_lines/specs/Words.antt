use Rattle.std.specs.Prelude.{◌+◌, Option, List, [], ◌∷◌, ◌==◌, bytes_eq, drop, length, option_map, position, take}
use Rattle.ilk_base.specs.Option.{◌>>=◌, then_some}
use Rattle.ilk_lines.specs.Lines.{Bytes, parts_at}

-- Returns the words of a line: the parts before, between and after its spaces.
abbrev pub words_of : Bytes → List Bytes
words_of line = parts_at 32 line

-- Returns the parts of a line before and after its first space. Returns `None` if there is no
-- space.
abbrev pub split_at_first_space : Bytes → Option (Bytes × Bytes)
split_at_first_space line = option_map (λ i. (take i line, drop (i + 1) line)) (position (λ b. b == 32) line)

-- Returns the part of a line after this beginning. Returns `None` if the line doesn't begin so.
abbrev pub strip_start : Bytes → Bytes → Option Bytes
strip_start beginning line = then_some (bytes_eq (take (length beginning) line) beginning) (drop (length beginning) line)

-- Returns the part of a line after this first word and one space. Returns `None` if the line
-- doesn't begin so.
abbrev pub strip_word_and_space : Bytes → Bytes → Option Bytes
strip_word_and_space word line = do
  rest ← strip_start word line
  strip_start (32 ∷ []) rest
