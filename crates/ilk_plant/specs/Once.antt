-- Lists of numbers and of names without duplicates.
use Rattle.std.specs.Prelude.{ℕ, Bool, List, ◌==◌, bytes_eq}
use Rattle.ilk_base.specs.Once.{has_no_duplicates}
use Rattle.ilk_plant.specs.Name.{Name}

-- Returns whether the list has no number twice.
abbrev pub numbers_differ : List ℕ → Bool
numbers_differ numbers = has_no_duplicates (λ x y. y == x) numbers

-- Returns whether the list has no name twice.
abbrev pub names_differ : List Name → Bool
names_differ names = has_no_duplicates bytes_eq names
