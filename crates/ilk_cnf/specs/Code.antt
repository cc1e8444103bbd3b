-- A literal's representation as one number: twice its variable, plus one if it is positive. Used
-- only by private contracts and proofs.
use Rattle.std.specs.Prelude.{ℕ, zero, suc, ◌≡◌, ◌<◌, ◌+◌, ◌*◌, ◌/◌, ◌%◌, ◌==◌, if◌then◌else◌}
use Rattle.std.proofs.Common.{refl, ap, ◌∙◌, arith}
use Rattle.std.proofs.Math.Nat.{div-add-mod}
use Rattle.ilk_cnf.specs.Literal.{Literal}

-- Returns the literal with code `c`.
abbrev pub literal_of : ℕ → Literal
literal_of c = record { var = c / 2; positive = c % 2 == 1 }

-- Returns the code of literal `l`: twice its variable, plus 1 if it is positive.
abbrev pub code_of : Literal → ℕ
code_of l = 2 * l.var + (if l.positive then 1 else 0)

pub bit-number : (r : ℕ) → r < 2 → (if r == 1 then 1 else 0) ≡ r
bit-number zero h = refl
bit-number (suc zero) h = refl
bit-number (suc (suc r)) h = omega (arith, h)

-- Each number is the code of its literal.
pub code_of-literal_of : (c : ℕ) → code_of (literal_of c) ≡ c
code_of-literal_of c = ap (λ b. 2 * (c / 2) + b) (bit-number (c % 2) (omega arith)) ∙ div-add-mod c 2
