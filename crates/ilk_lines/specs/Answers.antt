-- Results of a reader of lines.
use Rattle.std.specs.Prelude.{ℕ, ◌≡◌, Result, Ok, Err, List}
use Rattle.ilk_lines.specs.LinesLeft.{RemainingLinesAndTail}
use Rattle.ilk_lines.specs.Reading.{ParsedPrefix}
use Rattle.ilk_lines.specs.declared.fault.LineFault.{LineFault}
use Rattle.ilk_lines.specs.declared.fault.LineFault.TheVariants.{BadLine, OutOfMemory}

-- Holds if a call's result is the defined one: the value, or the number of the bad line. It also
-- holds if memory ran out.
abbrev pub ResultMatchesUnlessOutOfMemory : {A : Type 0} → Result A ℕ → Result A LineFault → Type 0
ResultMatchesUnlessOutOfMemory told (Ok x) = told ≡ Ok x
ResultMatchesUnlessOutOfMemory told (Err (BadLine n)) = told ≡ Err n
ResultMatchesUnlessOutOfMemory told (Err OutOfMemory) = Unit {0}

-- Returns these values, read from the first lines, together with the lines `left`.
abbrev pub parsed_prefix_from_parts : {A : Type 0} → List A → RemainingLinesAndTail → ParsedPrefix A
parsed_prefix_from_parts values left = record { values = values; number = left.number; lines = left.lines }

-- Holds if a call returns the defined values and leaves exactly the lines after them, or returns
-- the number of the defined bad line. It also holds if memory ran out.
abbrev pub PrefixMatchesUnlessOutOfMemory : {A : Type 0} → Result (ParsedPrefix A) ℕ → RemainingLinesAndTail → Result (List A) LineFault → Type 0
PrefixMatchesUnlessOutOfMemory told left (Ok values) = told ≡ Ok (parsed_prefix_from_parts values left)
PrefixMatchesUnlessOutOfMemory told left (Err (BadLine n)) = told ≡ Err n
PrefixMatchesUnlessOutOfMemory told left (Err OutOfMemory) = Unit {0}
