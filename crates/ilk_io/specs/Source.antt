-- The remaining bytes of a source before and after a call; `None` if contracts don't see them.
use Rattle.std.specs.Prelude.{◌≡◌, ℕ, ◌<◌, ◌≤◌, Option, IfSome, List, [], ◌++◌, length}
use Rattle.std.specs.Option.{option_map}

-- Holds if a call took `bytes` from the front of the remaining ones.
abbrev pub Consumes : Option (List ℕ) → Option (List ℕ) → List ℕ → Type 0
Consumes old new bytes = old ≡ option_map (λ rest. bytes ++ rest) new

-- Holds if a call took at most `n` bytes from the front of the remaining ones.
abbrev pub ConsumesAtMost : ℕ → Option (List ℕ) → Option (List ℕ) → Type 0
ConsumesAtMost n old new = (bytes : List ℕ) × (length bytes ≤ n) × Consumes old new bytes

-- Holds if no byte is left, or contracts don't see it.
abbrev pub IsAtEnd : Option (List ℕ) → Type 0
IsAtEnd left = IfSome left (λ rest. rest ≡ [])

-- Holds if `bytes` are all that is left, or contracts don't see what is left.
abbrev pub IsAllLeft : Option (List ℕ) → List ℕ → Type 0
IsAllLeft left bytes = IfSome left (λ rest. bytes ≡ rest)

-- Holds if more than `n` bytes are left, or contracts don't see what is left.
abbrev pub HasMoreThan : Option (List ℕ) → ℕ → Type 0
HasMoreThan left n = IfSome left (λ rest. n < length rest)
