-- The bytes that consecutive calls take from a source.
use Rattle.std.proofs.Common.{◌≡◌, ℕ, ◌≤◌, Option, Some, None, List, [], ◌++◌, length, sym, ap, ◌∙◌, append_assoc}
use Rattle.std.specs.Option.{option_map}
use Rattle.ilk_io.specs.Source.{Consumes, ConsumesAtMost}

pub Consumes-none : (a b : Option (List ℕ)) → b ≡ a → Consumes a b []
Consumes-none a None e = sym e
Consumes-none a (Some y) e = sym e

pub Consumes-then : (a b c : Option (List ℕ)) (xs ys : List ℕ) → Consumes a b xs → Consumes b c ys → Consumes a c (xs ++ ys)
Consumes-then a b None xs ys p q = p ∙ ap (option_map (λ rest. xs ++ rest)) q
Consumes-then a b (Some z) xs ys p q =
    p ∙ ap (option_map (λ rest. xs ++ rest)) q ∙ ap Some (sym (append_assoc xs ys z))

pub Consumes-at_most : (a b : Option (List ℕ)) (xs : List ℕ) (n : ℕ) → Consumes a b xs → length xs ≤ n → ConsumesAtMost n a b
Consumes-at_most a b xs n p h = (xs, h, p)
