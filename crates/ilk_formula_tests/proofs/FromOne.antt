-- The hints of a line are numbers from 1.
use Rattle.std.proofs.Common.{◌≡◌, ◌^◌, ◌&&◌, ℕ, List, [], ◌∷◌, true, nat_lt, refl}
use Rattle.std.specs.List.{list_all}
use Rattle.std.proofs.lemmas.Bool.{and_parts, and_from}

pub from-one : (hs : List ℕ) → list_all (λ h. nat_lt 0 h && nat_lt h (2 ^ 64)) hs ≡ true → list_all (λ h. nat_lt 0 h) hs ≡ true
from-one [] h = refl
from-one (n ∷ hs) h =
    let p = and_parts (nat_lt 0 n && nat_lt n (2 ^ 64)) _ h in
    and_from (nat_lt 0 n) (list_all (λ h. nat_lt 0 h) hs) (and_parts (nat_lt 0 n) (nat_lt n (2 ^ 64)) p.0).0 (from-one hs p.1)
