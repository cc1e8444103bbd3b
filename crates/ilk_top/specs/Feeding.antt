-- For private contracts and proofs: the bytes of a source that a reader was fed.
use Rattle.std.specs.Prelude.{ℕ, ◌≤◌, Option, List, length}
use Rattle.ilk_answers.specs.Reader.{ReaderWasFedBytes}
use Rattle.ilk_answers.specs.declared.reader.ExtraInputReader.{ExtraInputReader}
use Rattle.ilk_io.specs.Source.{IsAllLeft}

-- Holds if the reader `after` is `before` after it was fed some bytes, at most `limit`. They are
-- all that was left of the source, if it exposes that (`left` is `Some`).
pub record WholeSourceFedAndWithinLimit (left : Option (List ℕ)) (limit : ℕ) (before after : ExtraInputReader) : Type 0 where
  pub bytes : List ℕ
  pub fed : ReaderWasFedBytes before after bytes
  pub whole : IsAllLeft left bytes
  pub within : length bytes ≤ limit
