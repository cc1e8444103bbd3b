use Rattle.std.specs.Prelude.{ℕ, ◌≡◌, ◌+◌, ◌≤◌, List, drop, length}
use Rattle.ilk_lines.specs.Lines.{Bytes, unterminated_tail, lines_of}

-- The input that a reader of lines has left: complete lines, the number of the first, and the bytes
-- after the last line feed.
pub record RemainingLinesAndTail : Type 0 where
  pub number : ℕ
  pub lines : List Bytes
  pub after : Bytes

-- Returns all lines of a text, the first of them numbered `n`, and the bytes after them.
abbrev pub lines_and_tail_numbered_from : ℕ → Bytes → RemainingLinesAndTail
lines_and_tail_numbered_from n text = record { number = n; lines = lines_of text; after = unterminated_tail text }

-- Holds if the first `n` lines of `old` were taken, and `new` is what is left.
pub record TookFirstLines (n : ℕ) (old new : RemainingLinesAndTail) : Type 0 where
  pub enough : n ≤ length old.lines
  pub number : new.number ≡ old.number + n
  pub lines : new.lines ≡ drop n old.lines
  pub after : new.after ≡ old.after
