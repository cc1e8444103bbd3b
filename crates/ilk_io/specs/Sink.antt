-- The bytes written to a sink before and after a call; `None` if contracts don't see them.
use Rattle.std.specs.Prelude.{◌≡◌, ℕ, ◌≤◌, Option, List, ◌++◌, length, take}
use Rattle.std.specs.Option.{option_map}

-- Holds if a call added `bytes` at the end of those written.
abbrev pub Appends : Option (List ℕ) → Option (List ℕ) → List ℕ → Type 0
Appends old new bytes = new ≡ option_map (λ all. all ++ bytes) old

-- Holds if a call added a prefix of `text`, or all of it, at the end of the bytes written.
abbrev pub AppendsPrefix : Option (List ℕ) → Option (List ℕ) → List ℕ → Type 0
AppendsPrefix old new text = (n : ℕ) × (n ≤ length text) × Appends old new (take n text)
