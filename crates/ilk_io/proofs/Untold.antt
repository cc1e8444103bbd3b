-- The contract of a source or sink whose bytes contracts don't see.
use Rattle.std.proofs.Common.{◌≡◌, ℕ, ◌<◌, Option, None, List, Result, Ok, Err, refl}
use Rattle.std.specs.Prelude.{IfOk, OnErr, ⊤}

abbrev pub untold : Option (List ℕ)
untold = None

pub untold-taken : {E : Type 0} (r : Result ℕ E) → IfOk r (λ n. untold ≡ untold)
untold-taken (Ok n) = refl
untold-taken (Err e) = tt

pub untold-end : {E : Type 0} (r : Result ℕ E) (m : ℕ) → IfOk r (λ n. n ≡ 0 → 0 < m → ⊤)
untold-end (Ok n) m = λ _ _. tt
untold-end (Err e) m = tt

pub untold-kept : {E : Type 0} (r : Result ℕ E) → OnErr r (untold ≡ untold)
untold-kept (Ok n) = tt
untold-kept (Err e) = refl
