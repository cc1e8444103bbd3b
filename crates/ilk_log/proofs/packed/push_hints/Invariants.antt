use Rattle.std.proofs.Common.{ℕ, List, ◌++◌, take}
use Rattle.ilk_log.specs.Packed.{DecodesToNumbersAndState}
use Rattle.ilk_log.proofs.packed.push_hints.Given as goal

abbrev pub invariant-loop-i : goal.invariant-loop-i
invariant-loop-i l = (numbers : List ℕ) → DecodesToNumbersAndState l.initial.bytes.items numbers l.initial.last 0 → DecodesToNumbersAndState l.bytes.items (numbers ++ take l.i l.hints) l.last 0
