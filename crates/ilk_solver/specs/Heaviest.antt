use Rattle.std.specs.Prelude.{ℕ, ◌≡◌, ◌==◌, ◌&&◌, ◌||◌, Bool, false, nat_lt, IsTrue}
use Rattle.ilk_solver.specs.View.{TrailAndWeights, is_unset, weight_of}

-- Returns whether variable `v` is preferred to `w`: it has the greater weight, or the same weight
-- and the lesser number.
abbrev pub is_heavier : (ℕ → ℕ) → ℕ → ℕ → Bool
is_heavier weight v w = nat_lt (weight w) (weight v) || ((weight v == weight w) && nat_lt v w)

-- Holds if variable `v` is unset, and no unset variable is heavier (`is_heavier`).
pub record IsHeaviest (view : TrailAndWeights) (v : ℕ) : Type 0 where
  pub unset : IsTrue (is_unset view v)
  pub first : (w : ℕ) → IsTrue (is_unset view w) → is_heavier (weight_of view) w v ≡ false
