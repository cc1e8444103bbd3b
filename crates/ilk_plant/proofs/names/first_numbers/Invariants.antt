use Rattle.std.proofs.Common.{◌≡◌, ℕ, List, take, bytes_eq, position}
use Rattle.indexmap.specs.IndexMap.{get_by_text}
use Rattle.ilk_plant.proofs.names.first_numbers.Given as goal

abbrev pub invariant-loop-i : goal.invariant-loop-i
invariant-loop-i l = (q : List ℕ) → get_by_text l.numbers q ≡ position (bytes_eq q) (take l.i l.name-items)
