-- The words for the kinds of queries.
use Rattle.std.specs.Prelude.{ℕ, Bool, true, Option, List, [], ◌∷◌, codes, nat_le}
use Rattle.ilk_base.specs.Words.{first_value_with_word}
use Rattle.ilk_words.specs.declared.command.QueryKind.{QueryKind}
use Rattle.ilk_words.specs.declared.command.QueryKind.TheVariants.{Hazard, Breach, Step}

abbrev pub query_word : QueryKind → List ℕ
query_word Hazard = codes "hazard"
query_word Breach = codes "breach"
query_word Step = codes "step"

abbrev pub all_query_kinds : List QueryKind
all_query_kinds = Hazard ∷ Breach ∷ Step ∷ []

-- The kind of query with this word, or `None` if there is none.
abbrev pub query_kind_of_word : List ℕ → Option QueryKind
query_kind_of_word = first_value_with_word query_word all_query_kinds

-- Returns whether there is a query of this kind for this number of events; a step query has at
-- least one.
abbrev pub query_exists : QueryKind → ℕ → Bool
query_exists Step number = nat_le 1 number
query_exists kind number = true
