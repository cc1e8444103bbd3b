-- The order in which queries are asked, as one list.
use Rattle.std.specs.Prelude.{ℕ, zero, suc, ◌+◌, ◌-◌, ◌≡◌, Option, Some, None, List, [], ◌∷◌, ◌++◌, map}
use Rattle.std.specs.List.{range_with_len, flat_map}
use Rattle.ilk_unroll.specs.declared.queries.Wanted.{Wanted}
use Rattle.ilk_unroll.specs.declared.queries.Wanted.TheVariants.{Hazard, Breach, Step}

-- The queries for runs of `n` steps.
abbrev pub queries_of_length : ℕ → List Wanted
queries_of_length zero = Hazard 0 ∷ Breach 0 ∷ []
queries_of_length (suc n) = Hazard (suc n) ∷ Breach (suc n) ∷ Step (suc n) ∷ []

-- The queries for runs of fewer than `n` steps, the shortest first.
abbrev pub queries_below : ℕ → List Wanted
queries_below n = flat_map queries_of_length (range_with_len 0 n)

-- The queries in order for runs of up to `depth` steps. After a breach of `b` steps, only hazard
-- queries.
abbrev pub queries_to_depth_given_breach : Option ℕ → ℕ → List Wanted
queries_to_depth_given_breach None depth = queries_below (depth + 1)
queries_to_depth_given_breach (Some b) depth = queries_below b ++ Hazard b ∷ Breach b ∷ map Hazard (range_with_len (b + 1) (depth - b))

-- Holds if the first list is a prefix of the second.
abbrev pub IsPrefix : List Wanted → List Wanted → Type 0
IsPrefix qs all = (rest : List Wanted) × (qs ++ rest ≡ all)
