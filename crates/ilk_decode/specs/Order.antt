-- The order of trains in a decoded state.
use Rattle.std.specs.Prelude.{ℕ, List, take}
use Rattle.std.specs.List.{flat_map}
use Rattle.std.specs.List.Sorted.{IsStrictlyIncreasing}
use Rattle.ilk_plant.specs.declared.state.Train.{Train}

-- Returns the section of each train's tail, in the order of the trains.
abbrev pub tail_sections : List Train → List ℕ
tail_sections trains = flat_map (λ train. take 1 train.body) trains

-- Holds if the trains are in strictly ascending order of their tails' sections.
abbrev pub AreSortedByTail : List Train → Type 0
AreSortedByTail trains = IsStrictlyIncreasing (tail_sections trains)
