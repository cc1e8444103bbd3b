-- Lists by `slice_get`: items at an index, and after a write.
use Rattle.std.proofs.Common.{◌≡◌, ℕ, List, slice_get, Some, refl, IsTrue, ◌==◌, eq-eqb}
use Rattle.std.proofs.lemmas.List.Folds.{list_any_at}
use Rattle.ilk_plant.specs.Network.{contains_section}
use Rattle.std.proofs.lemmas.Option.{slice_get_within, get_or_from_slice_get}

pub contains_section-at : (xs : List ℕ) (i y : ℕ) → slice_get xs i ≡ Some y → IsTrue (contains_section y xs)
contains_section-at xs i y at =
    list_any_at (λ z. z == y) xs i y (slice_get_within xs i y at) (rw (get_or_from_slice_get xs i y y at) (eq-eqb y y refl))
