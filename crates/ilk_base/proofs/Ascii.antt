-- Bytes below 128 are text.
use Rattle.std.proofs.Common.{◌≡◌, ℕ, zero, suc, ◌<◌, true, List, [], ◌∷◌, get_or, ltb, arith}
use Rattle.std.proofs.lemmas.Str.{IsUtf8-from_ascii}
use Rattle.std.specs.List.{list_all}
use Rattle.std.specs.Str.{IsUtf8}
use borrow.Author.Tests.{ltb-true}
use Rattle.std.proofs.lemmas.Bool.{and_parts}

pub below : (bs : List ℕ) → list_all (λ b. ltb b 128) bs ≡ true → (i : ℕ) → get_or bs i 0 < 128
below [] e i = omega arith
below (b ∷ bs) e zero = ltb-true b 128 (and_parts (ltb b 128) (list_all (λ b. ltb b 128) bs) e).0
below (b ∷ bs) e (suc i) = below bs (and_parts (ltb b 128) (list_all (λ b. ltb b 128) bs) e).1 i

pub ascii : (bs : List ℕ) → list_all (λ b. ltb b 128) bs ≡ true → IsUtf8 bs
ascii bs e = IsUtf8-from_ascii bs (below bs e)
