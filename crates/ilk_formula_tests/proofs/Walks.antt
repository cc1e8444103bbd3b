-- The position of a walk along a chain.
use Rattle.std.proofs.Common.{◌≡◌, inl, inr, ℕ, List, [], ◌∷◌, true, eqb, Option, None, Some, IfSome, refl}
use Rattle.std.proofs.lemmas.Bool.{or_left, or_right}
use Rattle.std.proofs.lemmas.Bool.Decides.{eqb_tells}
use Rattle.ilk_arena.specs.Arena.{first_of, reference_after_in_list, contains_reference}

first-stands : (cs : List ℕ) → IfSome (first_of cs) (λ c. contains_reference c cs ≡ true)
first-stands [] = tt
first-stands (x ∷ xs) = or_left (eqb x x) (contains_reference x xs) (elim (eqb_tells x x) [ inl p ↦ p.0 | inr p ↦ absurd (p.1 refl) ])

stands-later : (x : ℕ) (xs : List ℕ) (next : Option ℕ) → IfSome next (λ c. contains_reference c xs ≡ true) → IfSome next (λ c. contains_reference c (x ∷ xs) ≡ true)
stands-later x xs None h = tt
stands-later x xs (Some c) h = or_right (eqb x c) (contains_reference c xs) h

pub reference_after_in_list-stands : (c : ℕ) (cs : List ℕ) → IfSome (reference_after_in_list c cs) (λ d. contains_reference d cs ≡ true)
reference_after_in_list-stands c [] = tt
reference_after_in_list-stands c (x ∷ xs) =
    elim (eqb_tells x c) [
      | inl p ↦ rw p.0 (stands-later x xs (first_of xs) (first-stands xs))
      | inr p ↦ rw p.0 (stands-later x xs (reference_after_in_list c xs) (reference_after_in_list-stands c xs))
    ]
