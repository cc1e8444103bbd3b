-- Lists of numbers and of names without duplicates, by their places.
use Rattle.std.proofs.Common.{◌≡◌, ℕ, true, ◌==◌, List, [], ◌∷◌, refl, arith, bytes_eq}
use Rattle.std.proofs.lemmas.Bool.{eq-eqb}
use Rattle.std.proofs.lemmas.Bool.Decides.{nat_tests}
use Rattle.std.proofs.lemmas.Slice.Eq.{bytes_eq-Decides}
use Rattle.ilk_base.proofs.Once.{EachOnce, has_no_duplicates-from_places, has_no_duplicates-places}
use Rattle.ilk_plant.specs.Name.{Name}
use Rattle.ilk_plant.specs.Once.{names_differ, numbers_differ}

pub numbers_differ-places : (xs : List ℕ) → numbers_differ xs ≡ true → EachOnce xs
numbers_differ-places xs h = has_no_duplicates-places (λ x y. y == x) (λ x. eq-eqb x x refl) xs h

pub names_differ-places : (names : List Name) → names_differ names ≡ true → EachOnce names
names_differ-places names h = has_no_duplicates-places bytes_eq (λ name. (bytes_eq-Decides name name).1 refl) names h

pub names_differ-from_places : (names : List Name) → EachOnce names → names_differ names ≡ true
names_differ-from_places names once = has_no_duplicates-from_places bytes_eq (λ x y same. (bytes_eq-Decides x y).0 same) names once

pub numbers_differ-turned : (a b c : ℕ) → numbers_differ (a ∷ b ∷ c ∷ []) ≡ true → numbers_differ (b ∷ c ∷ a ∷ []) ≡ true
numbers_differ-turned a b c h = grind (arith, nat_tests)
