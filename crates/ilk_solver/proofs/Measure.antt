-- Termination of a search: each step leaves fewer, and between steps the level rises.
use Rattle.std.proofs.Common.{◌≡◌, ◌+◌, ◌-◌, ◌*◌, ◌<◌, ◌≤◌, ℕ, ap, ◌∙◌, arith}
use Rattle.std.proofs.Math.Nat.{add-mul}

-- A bound on the rounds left over `n` variables.
abbrev pub rounds_left : ℕ → ℕ → ℕ → ℕ → ℕ
rounds_left n budget steps level = (budget - steps) * (n + 2) + (n + 2 - level)

pub decided-less : (n budget steps level next : ℕ) → level ≤ n → next ≡ level + 1 → rounds_left n budget steps next < rounds_left n budget steps level
decided-less n budget steps level next h e = omega (arith, h, e)

pub learned-less : (n budget steps level next : ℕ) → steps < budget → level ≤ n → rounds_left n budget (steps + 1) next < rounds_left n budget steps level
learned-less n budget steps level next h k = go (budget - (steps + 1)) (budget - steps) (n + 2) (omega (arith, h)) (omega (arith, k))
  where
    go : (a b m : ℕ) → b ≡ a + 1 → level < m → a * m + (m - next) < b * m + (m - level)
    go a b m e h =
        let more : b * m ≡ a * m + 1 * m = ap (λ (x : ℕ). x * m) e ∙ add-mul a 1 m in
        let one : 1 * m ≡ m = omega arith in
        omega (arith, more, one, h)
