-- A list with a variable has each of its literals, or the opposite.
use Rattle.std.proofs.Common.{◌≡◌, ◌⊎◌, ℕ, inl, inr, Bool, true, false, not, List, subst}
use Rattle.ilk_cnf.specs.Literal.{Literal, negated_lit, has_lit}

pub var-either : (a b : Literal) (ls : List Literal) → a.var ≡ b.var → has_lit a ls ≡ true → (has_lit b ls ≡ true) ⊎ (has_lit (negated_lit b) ls ≡ true)
var-either a b ls v h = go a.var b.var a.positive b.positive v h
  where
    go : (v w : ℕ) (i j : Bool) → v ≡ w → has_lit (record { var = v; positive = i }) ls ≡ true → (has_lit (record { var = w; positive = j }) ls ≡ true) ⊎ (has_lit (record { var = w; positive = not j }) ls ≡ true)
    go v w true true e h = inl (let P : ℕ → Type 0 = λ z. has_lit (record { var = z; positive = true }) ls ≡ true in subst P e h)
    go v w false false e h = inl (let P : ℕ → Type 0 = λ z. has_lit (record { var = z; positive = false }) ls ≡ true in subst P e h)
    go v w true false e h = inr (let P : ℕ → Type 0 = λ z. has_lit (record { var = z; positive = true }) ls ≡ true in subst P e h)
    go v w false true e h = inr (let P : ℕ → Type 0 = λ z. has_lit (record { var = z; positive = false }) ls ≡ true in subst P e h)
