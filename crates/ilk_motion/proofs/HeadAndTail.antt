-- The ends of a body.
use Rattle.std.proofs.Common.{◌≡◌, ℕ, ◌<◌, ◌-◌, true, List, [], ◌∷◌, nat_eq, slice_index_or, length, refl, arith}
use native.Mathlib.Numerals.{unary_clauses}
use Rattle.ilk_motion.specs.Body.{is_first_of_several, is_last_section}

pub is_last_section-index : (x : ℕ) (body : List ℕ) → 0 < length body → nat_eq (slice_index_or body (length body - 1) 0) x ≡ is_last_section x body
is_last_section-index x [] h = absurd (omega arith)
is_last_section-index x (y ∷ []) h = refl
is_last_section-index x (y ∷ z ∷ rest) h =
    simp unary_clauses (let ih : nat_eq (slice_index_or (z ∷ rest) (length (z ∷ rest) - 1) 0) x ≡ is_last_section x (z ∷ rest) = is_last_section-index x (z ∷ rest) (omega arith) in simp unary_clauses at ih)

pub is_first_of_several-long : (x : ℕ) (body : List ℕ) → is_first_of_several x body ≡ true → 0 < length body
is_first_of_several-long x [] h = cc
is_first_of_several-long x (y ∷ rest) h = omega arith
