-- Joined lists: those that a function gives for the items of a list.
use Rattle.std.proofs.Common.{◌≡◌, ℕ, zero, suc, ◌+◌, ◌<◌, Some, List, [], ◌∷◌, ◌++◌, length, take, get_or, slice_get, inl, inr, refl, sym, ◌∙◌, ap, subst, arith}
use Rattle.std.specs.List.{Contains, flat_map}
use Rattle.std.proofs.lemmas.List.{flat_map_more, take_more}
use Rattle.std.proofs.lemmas.List.Elements.{Contains-append_cases, Contains-append_left, Contains-append_right}
use Rattle.ilk_base.proofs.Lists.{append-none}

pub flat_map-none : {X Y : Type 0} (f : X → List Y) (xs : List X) (k : ℕ) (x : X) → flat_map f xs ≡ [] → slice_get xs k ≡ Some x → f x ≡ []
flat_map-none f [] k x e at = cc
flat_map-none f (y ∷ xs) zero x e at =
    let same : y ≡ x = cc in ap f (sym same) ∙ (append-none (f y) (flat_map f xs) e).0
flat_map-none f (y ∷ xs) (suc k) x e at = flat_map-none f xs k x (append-none (f y) (flat_map f xs) e).1 at

pub flat_map-grows : {X Y : Type 0} (f : X → List Y) (xs : List X) (i : ℕ) (d : X) (now next : List Y) → i < length xs → now ≡ flat_map f (take i xs) → next ≡ now ++ f (get_or xs i d) → next ≡ flat_map f (take (i + 1) xs)
flat_map-grows f xs i d now next within sofar grown =
    grown ∙ ap (λ ys. ys ++ f (get_or xs i d)) sofar ∙ flat_map_more f [] (take i xs) (get_or xs i d) ∙ ap (flat_map f) (sym (take_more xs i d within))

pub Contains-none : {X : Type 0} (y : X) → Contains [] y → ⊥
Contains-none y c = let below = c.1 in omega (arith, below)

-- An item of the joined list is in the list of one item.
pub Contains-flat_map : {X Y : Type 0} (f : X → List Y) (xs : List X) (y : Y) → Contains (flat_map f xs) y → (k : ℕ) × (x : X) × (slice_get xs k ≡ Some x) × Contains (f x) y
Contains-flat_map f [] y c = absurd (Contains-none y c)
Contains-flat_map f (x ∷ xs) y c =
    elim (Contains-append_cases (f x) (flat_map f xs) y c) [
      | inl h ↦ (zero, x, refl, h)
      | inr h ↦ (let later = Contains-flat_map f xs y h in (suc later.0, later.1, later.2, later.3))
    ]

pub Contains-flat_map_of : {X Y : Type 0} (f : X → List Y) (xs : List X) (k : ℕ) (x : X) (y : Y) → slice_get xs k ≡ Some x → Contains (f x) y → Contains (flat_map f xs) y
Contains-flat_map_of f [] k x y at h = cc
Contains-flat_map_of {X = X} f (z ∷ xs) zero x y at h =
    let same : x ≡ z = cc in
    let P : X → Type 0 = λ v. Contains (f v) y in Contains-append_left (f z) (flat_map f xs) y (subst P same h)
Contains-flat_map_of f (z ∷ xs) (suc k) x y at h =
    Contains-append_right (f z) (flat_map f xs) y (Contains-flat_map_of f xs k x y at h)
