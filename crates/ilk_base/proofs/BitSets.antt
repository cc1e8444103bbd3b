-- Sets as bits: adding a number, union and intersection.
use Rattle.std.proofs.Common.{◌≡◌, ◌≢◌, ℕ, zero, suc, ◌-◌, ◌*◌, ◌%◌, ◌^◌, ◌<◌, ◌≤◌, Bool, true, false, ◌==◌, ◌||◌, ◌&&◌, cond, max, min, nat_lt, refl, sym, ap, ◌∙◌, arith, subst}
use Rattle.std.specs.Int.{bit_at, w128}
use Rattle.std.specs.Int.Bits.{bit_and, bit_or}
use Rattle.std.proofs.Math.Bool.{or-false}
use Rattle.std.proofs.lemmas.Bool.Decides.{Decides-eqb, nat_tests}
use Rattle.std.proofs.lemmas.Nat.Bits.{bit_at-lt, bit_at_and, bit_at_or, bit_at_set_other, bit_at_set_same}
use Rattle.ilk_base.proofs.Truth.{or-true}
use Rattle.ilk_base.specs.BitSet.{bit_set_contains}

pub one_more : (bits y x : ℕ) → y < 128 → (bit_at (bit_or bits (1 * 2 ^ y % 2 ^ 128)) x == 1) ≡ ((bit_at bits x == 1) || (y == x))
one_more bits y x below = by_test (y == x) refl
  where
    by_test : (b : Bool) → (y == x) ≡ b → (bit_at (bit_or bits (1 * 2 ^ y % 2 ^ 128)) x == 1) ≡ ((bit_at bits x == 1) || b)
    by_test true same =
        let P : ℕ → Type 0 = λ z. (bit_at (bit_or bits (1 * 2 ^ y % 2 ^ 128)) z == 1) ≡ true in
        subst P ((Decides-eqb y x).0 same) (ap (λ b. b == 1) (bit_at_set_same w128 bits y below)) ∙ sym (or-true (bit_at bits x == 1))
    by_test false differs =
        let other : x ≢ y = λ equal. (let wrong : (y == x) ≡ true = (Decides-eqb y x).1 (sym equal) in absurd (cc)) in
        ap (λ b. b == 1) (bit_at_set_other w128 bits y below x other) ∙ sym (or-false (bit_at bits x == 1))

greater_is_one : (u v : ℕ) → u < 2 → v < 2 → (max u v == 1) ≡ ((u == 1) || (v == 1))
greater_is_one zero zero lu lv = refl
greater_is_one zero (suc zero) lu lv = refl
greater_is_one (suc zero) zero lu lv = refl
greater_is_one (suc zero) (suc zero) lu lv = refl
greater_is_one (suc (suc u)) v lu lv = absurd (omega (arith, lu))
greater_is_one u (suc (suc v)) lu lv = absurd (omega (arith, lv))

pub of_either : (bits others x : ℕ) → (bit_at (bit_or bits others) x == 1) ≡ ((bit_at bits x == 1) || (bit_at others x == 1))
of_either bits others x =
    ap (λ b. b == 1) (bit_at_or bits others x) ∙ greater_is_one (bit_at bits x) (bit_at others x) (bit_at-lt bits x) (bit_at-lt others x)

lesser_is_one : (u v : ℕ) → u < 2 → v < 2 → (min u v == 1) ≡ ((u == 1) && (v == 1))
lesser_is_one zero zero lu lv = refl
lesser_is_one zero (suc zero) lu lv = refl
lesser_is_one (suc zero) zero lu lv = refl
lesser_is_one (suc zero) (suc zero) lu lv = refl
lesser_is_one (suc (suc u)) v lu lv = absurd (omega (arith, lu))
lesser_is_one u (suc (suc v)) lu lv = absurd (omega (arith, lv))

pub of_both : (bits others x : ℕ) → (bit_at (bit_and bits others) x == 1) ≡ ((bit_at bits x == 1) && (bit_at others x == 1))
of_both bits others x =
    ap (λ b. b == 1) (bit_at_and bits others x) ∙ lesser_is_one (bit_at bits x) (bit_at others x) (bit_at-lt bits x) (bit_at-lt others x)

pub added_past : (low high new y x : ℕ) → 128 ≤ y → ((z : ℕ) → (bit_at new z == 1) ≡ ((bit_at high z == 1) || (y - 128 == z))) →
    bit_set_contains (record { low = low; high = new }) x ≡ (bit_set_contains (record { low = low; high = high }) x || (y == x))
added_past low high new y x past bit = by_test (nat_lt x 128) refl
  where
    by_test : (b : Bool) → nat_lt x 128 ≡ b → cond b (bit_at low x == 1) (bit_at new (x - 128) == 1) ≡ (cond b (bit_at low x == 1) (bit_at high (x - 128) == 1) || (y == x))
    by_test true e =
        let differs : (y == x) ≡ false = grind (arith, nat_tests) in
        sym (or-false (bit_at low x == 1)) ∙ ap (λ b. (bit_at low x == 1) || b) (sym differs)
    by_test false e =
        let same : (y - 128 == x - 128) ≡ (y == x) = grind (arith, nat_tests) in
        bit (x - 128) ∙ ap (λ b. (bit_at high (x - 128) == 1) || b) same
