-- A body is wrong on a point only if it has the point. Leaving its first section can't make it
-- wrong.
use Rattle.std.proofs.Common.{◌≡◌, ℕ, true, ◌==◌, ◌&&◌, ◌||◌, Option, Some, None, List, [], ◌∷◌, inl, inr, remove}
use Rattle.std.proofs.lemmas.Bool.{and_parts, or_left, or_right}
use Rattle.ilk_base.proofs.Truth.{either}
use Rattle.ilk_plant.specs.Network.{contains_section}
use Rattle.ilk_plant.specs.declared.state.Lie.{Lie}
use Rattle.ilk_plant.specs.declared.state.Lie.TheVariants.{Plus, Minus, Moving}
use Rattle.ilk_plant.proofs.InLists.{rest-has}
use Rattle.ilk_model.specs.Hazard.{are_adjacent_in_body, is_wrong_under_body}

pub pair-has : (a b : ℕ) (body : List ℕ) → are_adjacent_in_body a b body ≡ true → contains_section a body ≡ true
pair-has a b [] h = cc
pair-has a b (c ∷ []) h = cc
pair-has a b (c ∷ d ∷ rest) h =
    elim (either ((c == a && d == b) || (c == b && d == a)) (are_adjacent_in_body a b (d ∷ rest)) h) [
      | inl here ↦ elim (either (c == a && d == b) (c == b && d == a) here) [
        | inl e ↦ or_left (c == a) (contains_section a (d ∷ rest)) (and_parts (c == a) (d == b) e).0
        | inr e ↦ or_right (c == a) (contains_section a (d ∷ rest)) (or_left (d == a) (contains_section a rest) (and_parts (c == b) (d == a) e).1)
      ]
      | inr later ↦ or_right (c == a) (contains_section a (d ∷ rest)) (pair-has a b (d ∷ rest) later)
    ]

pub is_wrong_under_body-has : (x plus minus : ℕ) (lie : Option Lie) (body : List ℕ) → is_wrong_under_body x plus minus lie body ≡ true → contains_section x body ≡ true
is_wrong_under_body-has x plus minus None body h = cc
is_wrong_under_body-has x plus minus (Some Moving) body h = h
is_wrong_under_body-has x plus minus (Some Plus) body h = pair-has x minus body h
is_wrong_under_body-has x plus minus (Some Minus) body h = pair-has x plus body h

pub rest-pair : (x z : ℕ) (body : List ℕ) → are_adjacent_in_body x z (remove body 0) ≡ true → are_adjacent_in_body x z body ≡ true
rest-pair x z [] h = h
rest-pair x z (a ∷ []) h = cc
rest-pair x z (a ∷ b ∷ rest) h = or_right ((a == x && b == z) || (a == z && b == x)) (are_adjacent_in_body x z (b ∷ rest)) h

pub rest-is_wrong_under_body : (x plus minus : ℕ) (lie : Option Lie) (body : List ℕ) → is_wrong_under_body x plus minus lie (remove body 0) ≡ true → is_wrong_under_body x plus minus lie body ≡ true
rest-is_wrong_under_body x plus minus None body h = h
rest-is_wrong_under_body x plus minus (Some Moving) body h = rest-has x body h
rest-is_wrong_under_body x plus minus (Some Plus) body h = rest-pair x minus body h
rest-is_wrong_under_body x plus minus (Some Minus) body h = rest-pair x plus body h
