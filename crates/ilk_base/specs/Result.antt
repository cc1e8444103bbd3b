use Rattle.std.specs.Prelude.{ℕ, ◌+◌, List, [], ◌∷◌, Result, Ok, Err}

-- `x ← r` in a `do` block: `x` is the value of `r`. If `r` is a fault, the whole is that fault.
infixl 10 ◌>>=◌
abbrev pub ◌>>=◌ : {A B E : Type 0} → Result A E → (A → Result B E) → Result B E
Ok x >>= f = f x
Err e >>= f = Err e

-- The list of results of a function for each index, from `i`, and item of a list; or the first
-- fault.
abbrev pub try_map_numbered : {X A E : Type 0} → (ℕ → X → Result A E) → ℕ → List X → Result (List A) E
try_map_numbered one i [] = Ok []
try_map_numbered one i (x ∷ xs) = do
  first ← one i x
  rest ← try_map_numbered one (i + 1) xs
  Ok (first ∷ rest)
