-- Lists without duplicates, by the places of their items.
use Rattle.std.proofs.Common.{◌≡◌, ℕ, zero, suc, Bool, true, false, not, Some, List, [], ◌∷◌, slice_get, refl, ap}
use Rattle.std.specs.Cmp.Derive.{both_true}
use Rattle.std.specs.List.{list_any}
use Rattle.std.proofs.lemmas.Bool.{and_parts, false_from_ne_true}
use Rattle.ilk_base.proofs.Tested.{list_any-at, list_any-from}
use Rattle.ilk_base.specs.Once.{has_no_duplicates}

-- Holds if each item is at only one place.
abbrev pub EachOnce : {A : Type 0} → List A → Type 0
EachOnce {A} xs = (i j : ℕ) (x : A) → slice_get xs i ≡ Some x → slice_get xs j ≡ Some x → i ≡ j

not-both : (b : Bool) → b ≡ true → not b ≡ true → ⊥
not-both true e f = cc
not-both false e f = cc

-- The test implies this if `same` is reflexive.
pub has_no_duplicates-places : {A : Type 0} (same : A → A → Bool) → ((x : A) → same x x ≡ true) → (xs : List A) → has_no_duplicates same xs ≡ true → EachOnce xs
has_no_duplicates-places same own [] h i j v at also = cc
has_no_duplicates-places same own (x ∷ xs) h zero zero v at also = refl
has_no_duplicates-places {A = A} same own (x ∷ xs) h zero (suc j) v at also =
    let one : x ≡ v = cc in
    absurd (not-both (list_any (same x) xs) (list_any-from (same x) xs j v also (rw one (own v))) (and_parts (not (list_any (same x) xs)) (has_no_duplicates same xs) h).0)
has_no_duplicates-places same own (x ∷ xs) h (suc i) zero v at also =
    let one : x ≡ v = cc in
    absurd (not-both (list_any (same x) xs) (list_any-from (same x) xs i v at (rw one (own v))) (and_parts (not (list_any (same x) xs)) (has_no_duplicates same xs) h).0)
has_no_duplicates-places same own (x ∷ xs) h (suc i) (suc j) v at also =
    ap suc (has_no_duplicates-places same own xs (and_parts (not (list_any (same x) xs)) (has_no_duplicates same xs) h).1 i j v at also)

-- The converse, if `same` items are equal.
pub has_no_duplicates-from_places : {A : Type 0} (same : A → A → Bool) → ((x y : A) → same x y ≡ true → x ≡ y) → (xs : List A) → EachOnce xs → has_no_duplicates same xs ≡ true
has_no_duplicates-from_places same equal [] once = refl
has_no_duplicates-from_places {A = A} same equal (x ∷ xs) once =
    let none : list_any (same x) xs ≡ false = false_from_ne_true (list_any (same x) xs) (λ twice.
    let found : (k : ℕ) × (y : A) × (slice_get xs k ≡ Some y) × (same x y ≡ true) = list_any-at (same x) xs twice in
    let one : x ≡ found.1 = equal x found.1 found.3 in
    let places : zero ≡ suc found.0 = once zero (suc found.0) found.1 (ap Some one) found.2 in
    cc) in
    both_true (ap not none) (has_no_duplicates-from_places same equal xs (λ i j v at also. let next : suc i ≡ suc j = once (suc i) (suc j) v at also in cc))
