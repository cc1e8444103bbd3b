use Rattle.std.specs.Prelude.{Bool, true, false, List, [], ◌∷◌, if◌then◌else◌}
use Rattle.ilk_unroll.specs.declared.queries.Wanted.{Wanted}
use Rattle.ilk_unroll.specs.declared.queries.Wanted.TheVariants.{Hazard, Breach, Step}
use Rattle.ilk_certificate.specs.declared.asked.Asked.{Asked}

abbrev pub is_step_query : Wanted → Bool
is_step_query (Hazard n) = false
is_step_query (Breach n) = false
is_step_query (Step n) = true

-- The queries without the step queries before the last query.
abbrev pub drop_nonfinal_step_queries : List Asked → List Asked
drop_nonfinal_step_queries [] = []
drop_nonfinal_step_queries (a ∷ []) = a ∷ []
drop_nonfinal_step_queries (a ∷ b ∷ asked) = if is_step_query a.query then drop_nonfinal_step_queries (b ∷ asked) else a ∷ drop_nonfinal_step_queries (b ∷ asked)
