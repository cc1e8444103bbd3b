-- Lists whose items are numbered from 0.
use Rattle.std.specs.Prelude.{ℕ, List, map}
use Rattle.std.specs.List.{enumerate_from}

-- The list with each item replaced by what `f` gives for its index, from 0, and the item.
abbrev pub map_numbered : {X : Type 0} → (ℕ → X → X) → List X → List X
map_numbered f items = map (λ numbered. f numbered.0 numbered.1) (enumerate_from 0 items)
