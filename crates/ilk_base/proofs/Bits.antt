-- Bits of a word of 128 bits.
use Rattle.std.proofs.Common.{◌≡◌, ℕ, ◌^◌, ◌<◌, ◌≤◌, false, ◌==◌, sym, ap}
use Rattle.std.specs.Int.{bit_at}
use Rattle.std.proofs.lemmas.Nat.Bits.{bit_at_above}

-- No bit is set past the word's end.
pub no_bit_past : (bits x : ℕ) → bits < 2 ^ 128 → 128 ≤ x → false ≡ (bit_at bits x == 1)
no_bit_past bits x small past = sym (ap (λ b. b == 1) (bit_at_above bits 128 x small past))
