use Rattle.std.proofs.Common.{◌≡◌, ◌&&◌, ◌||◌, ◌-◌, ◌<◌, ◌≤◌, ℕ, false, inl, inr, eqb, get_or, List, refl, arith}
use Rattle.std.specs.Prelude.{nat_lt}
use Rattle.std.proofs.lemmas.Bool.Decides.{eqb_tells, nat_tests}
use Rattle.ilk_solver.specs.Heaviest.{is_heavier}
use Rattle.ilk_solver.specs.declared.word.TheConstants.{MOST_VARIABLES}
use Rattle.ilk_solver.specs.Word.{variable_of, packed_weight_and_variable}

pub word-positive : (ws : List ℕ) (v : ℕ) → v ≤ MOST_VARIABLES → 0 < packed_weight_and_variable ws v
word-positive ws v h = omega (arith, h)

pub variable-none : variable_of 0 ≡ 0
variable-none = refl

pub variable-is : (ws : List ℕ) (v : ℕ) → v ≤ MOST_VARIABLES → variable_of (packed_weight_and_variable ws v) ≡ v
variable-is ws v h =
    elim (eqb_tells (packed_weight_and_variable ws v) 0) [
      | inl p ↦ absurd (let q = word-positive ws v h in omega (arith, q, p.1))
      | inr p ↦ rw p.0 (omega (arith, h))
    ]

from-not : (x y v w : ℕ) → x ≤ y → (x ≡ y → w ≤ v) → (nat_lt y x || (eqb x y && nat_lt v w)) ≡ false
from-not x y v w h k = grind (arith, nat_tests)

pub greater-heavier : (ws : List ℕ) (u v : ℕ) → u ≤ MOST_VARIABLES → v ≤ MOST_VARIABLES → packed_weight_and_variable ws u ≤ packed_weight_and_variable ws v → is_heavier (λ w. get_or ws (w - 1) 0) u v ≡ false
greater-heavier ws u v a b h =
    let x = get_or ws (u - 1) 0 in
    let y = get_or ws (v - 1) 0 in
    from-not x y u v (omega (arith, a, b, h)) (λ e. omega (arith, a, b, h, e))
