-- Lists without duplicates.
use Rattle.std.specs.Prelude.{Bool, true, not, List, [], ◌∷◌, ◌&&◌}
use Rattle.std.specs.List.{list_any}

-- Returns whether no item of the list is equal, by the test `same`, to a later item.
abbrev pub has_no_duplicates : {A : Type 0} → (A → A → Bool) → List A → Bool
has_no_duplicates same [] = true
has_no_duplicates same (x ∷ rest) = not (list_any (same x) rest) && has_no_duplicates same rest
