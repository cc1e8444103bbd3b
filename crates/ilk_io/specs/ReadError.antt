use Rattle.std.specs.Prelude.{ℕ, Option, List, ⊤}
use Rattle.ilk_io.specs.Faults.{CountedOneFault}
use Rattle.ilk_io.specs.Source.{HasMoreThan}
use Rattle.ilk_io.specs.declared.reading.ReadError.{ReadError}
use Rattle.ilk_io.specs.declared.reading.ReadError.TheVariants.{Failed, TooLong, OutOfMemory}

-- Holds if the error has its cause. `Failed`: exactly one fault was counted. `TooLong`: more than
-- `limit` bytes were left, if contracts see them. `OutOfMemory`: anything.
abbrev pub ReadErrorHasCause : ReadError → ℕ → Option (List ℕ) → ℕ → ℕ → Type 0
ReadErrorHasCause Failed limit left old new = CountedOneFault old new
ReadErrorHasCause TooLong limit left old new = HasMoreThan left limit
ReadErrorHasCause OutOfMemory limit left old new = ⊤
