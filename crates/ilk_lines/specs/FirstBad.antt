-- The first bad line of a text, defined only by the texts that are written for values. Below, `Has`
-- says which values have a text, and `lines_for` gives the lines of a value's text.
use Rattle.std.specs.Prelude.{ℕ, ◌≡◌, ◌≤◌, ◌+◌, ◌-◌, List, ◌++◌, length, take}
use Rattle.ilk_lines.specs.Lines.{Bytes, lines_of}
use Rattle.ilk_lines.specs.Written.{text_of}

-- Holds if the value has a text, and it is this one.
abbrev pub IsTextWrittenFor : {T : Type 0} → (T → Type 0) → (T → List Bytes) → T → Bytes → Type 0
IsTextWrittenFor Has lines_for t text = Has t × (text ≡ text_of (lines_for t))

-- Holds if the text is the one written for some value.
abbrev pub IsTextWrittenForSome : {T : Type 0} → (T → Type 0) → (T → List Bytes) → Bytes → Type 0
IsTextWrittenForSome {T} Has lines_for text = (t : T) × IsTextWrittenFor Has lines_for t text

-- Holds if the text of some value begins with these lines.
abbrev pub BeginsSomeText : {T : Type 0} → (T → Type 0) → (T → List Bytes) → List Bytes → Type 0
BeginsSomeText {T} Has lines_for lines = (t : T) × (more : List Bytes) × Has t × (lines_for t ≡ lines ++ more)

-- Holds if line `n`, from 1, is the first bad line of a text, which is not written for any value.
-- The lines before line `n` begin the text of some value. Together with line `n`, unless it is
-- missing, they begin none.
pub record IsFirstBadLine {T : Type 0} (Has : T → Type 0) (lines_for : T → List Bytes) (text : Bytes) (n : ℕ) : Type 0 where
  pub none : ¬ (IsTextWrittenForSome Has lines_for text)
  pub from_one : 1 ≤ n
  pub within : n ≤ length (lines_of text) + 1
  pub before : BeginsSomeText Has lines_for (take (n - 1) (lines_of text))
  pub bad : n ≤ length (lines_of text) → ¬ (BeginsSomeText Has lines_for (take n (lines_of text)))
