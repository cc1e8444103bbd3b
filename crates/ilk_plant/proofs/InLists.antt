-- A list has a section if and only if some item equals it.
use Rattle.std.proofs.Common.{◌≡◌, ℕ, true, false, ◌==◌, Some, List, [], ◌∷◌, ◌++◌, ◌∙◌, inl, inr, remove, slice_get, ap, refl}
use Rattle.std.proofs.lemmas.Bool.{eq-eqb, eqb-true, or_right}
use Rattle.std.proofs.lemmas.List.Folds.{list_any-append}
use Rattle.ilk_base.proofs.Tested.{list_any-at, list_any-from}
use Rattle.ilk_base.proofs.Truth.{either}
use Rattle.ilk_plant.specs.Network.{contains_section}

pub section-at : (x : ℕ) (xs : List ℕ) → contains_section x xs ≡ true → (j : ℕ) × (slice_get xs j ≡ Some x)
section-at x xs h =
    let found : (j : ℕ) × (y : ℕ) × (slice_get xs j ≡ Some y) × ((y == x) ≡ true) = list_any-at (λ y. y == x) xs h in
    (found.0, found.2 ∙ ap Some (eqb-true found.1 x found.3))

pub section-from : (xs : List ℕ) (j x : ℕ) → slice_get xs j ≡ Some x → contains_section x xs ≡ true
section-from xs j x at = list_any-from (λ y. y == x) xs j x at (eq-eqb x x refl)

pub only-one : (x y : ℕ) → contains_section x (y ∷ []) ≡ true → y ≡ x
only-one x y h = elim (either (y == x) false h) [ inl e ↦ eqb-true y x e | inr e ↦ cc ]

pub section-behind : (x : ℕ) (xs ys : List ℕ) → contains_section x ys ≡ true → contains_section x (xs ++ ys) ≡ true
section-behind x xs ys h = list_any-append (λ y. y == x) xs ys ∙ or_right (contains_section x xs) (contains_section x ys) h

pub rest-has : (x : ℕ) (xs : List ℕ) → contains_section x (remove xs 0) ≡ true → contains_section x xs ≡ true
rest-has x [] h = h
rest-has x (y ∷ rest) h = or_right (y == x) (contains_section x rest) h
