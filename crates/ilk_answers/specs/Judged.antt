-- For private contracts: the judgement on another solver's text.
use Rattle.std.specs.Prelude.{ℕ, Option, Some, None, List}
use Rattle.ilk_plant.specs.Plant.{PlantLists}
use Rattle.ilk_queries.specs.Asked.{HasQueriedRun}
use Rattle.ilk_rup.specs.Accepted.{IsAccepted, IsFirstBadItem}
use Rattle.ilk_words.specs.declared.command.QueryKind.{QueryKind}
use Rattle.ilk_answers.specs.Refutations.{formula_of_query}
use Rattle.ilk_answers.specs.Verdicts.{query_from_kind_and_length}

-- Holds if the option is the right judgement of a text: its first bad item, or `None` if the text
-- refutes the query's formula, so that the plant has no such run.
abbrev pub FirstBadItemOrRefutes : PlantLists → QueryKind → ℕ → List ℕ → Option ℕ → Type 0
FirstBadItemOrRefutes p kind n text None = IsAccepted (formula_of_query p kind n) text × ¬ HasQueriedRun p (query_from_kind_and_length kind n)
FirstBadItemOrRefutes p kind n text (Some item) = IsFirstBadItem (formula_of_query p kind n) text item
