-- The results of the code that reads a state, or the beginning of a run. `told` is the defined
-- result, and `left` has the lines left. Used only in private contracts.
use Rattle.std.specs.Prelude.{ℕ, ◌≡◌, Result, Ok, Err, Bool, false}
use Rattle.ilk_lines.specs.LinesLeft.{RemainingLinesAndTail}
use Rattle.ilk_lines.specs.declared.fault.LineFault.{LineFault}
use Rattle.ilk_lines.specs.declared.fault.LineFault.TheVariants.{BadLine, OutOfMemory}
use Rattle.ilk_plant.specs.declared.state.State.{State}
use Rattle.ilk_replay.specs.StateTold.{FirstStateAndEventLinesLeft}

-- Holds if the call returns the defined state and leaves the lines after it, or returns the number
-- of the defined bad line. It also holds if memory ran out.
abbrev pub StateReadMatchesDefinition : Result FirstStateAndEventLinesLeft ℕ → RemainingLinesAndTail → Result State LineFault → Type 0
StateReadMatchesDefinition told left (Ok s) = told ≡ Ok (record { first = s; from_start = false; number = left.number; lines = left.lines })
StateReadMatchesDefinition told left (Err (BadLine n)) = told ≡ Err n
StateReadMatchesDefinition told left (Err OutOfMemory) = Unit {0}

-- Holds if the call returns the defined first state, and whether the text says `start`, and leaves
-- the lines after them. Also holds if it returns the number of the defined bad line, or memory ran
-- out.
abbrev pub BeginningReadMatchesDefinition : Result FirstStateAndEventLinesLeft ℕ → RemainingLinesAndTail → Result (State × Bool) LineFault → Type 0
BeginningReadMatchesDefinition told left (Ok begun) = told ≡ Ok (record { first = begun.0; from_start = begun.1; number = left.number; lines = left.lines })
BeginningReadMatchesDefinition told left (Err (BadLine n)) = told ≡ Err n
BeginningReadMatchesDefinition told left (Err OutOfMemory) = Unit {0}
