-- The answer to another solver's refutation of a query's formula.
use Rattle.std.specs.Prelude.{ℕ, ◌≡◌, ◌⊎◌, List}
use Rattle.ilk_cnf.specs.Formula.{Formula}
use Rattle.ilk_plant.specs.Plant.{PlantLists}
use Rattle.ilk_behave.specs.Behaviour.{system_of_plant}
use Rattle.ilk_queries.specs.Asked.{HasQueriedRun}
use Rattle.ilk_queries.specs.Goal.{goal_forms_of_plant}
use Rattle.ilk_rup.specs.Accepted.{IsAccepted, IsFirstBadItem}
use Rattle.ilk_unroll.specs.Query.{query_formula}
use Rattle.ilk_words.specs.declared.command.QueryKind.{QueryKind}
use Rattle.ilk_answers.specs.Report.{query_has_no_run_line, first_bad_item_message, reply}
use Rattle.ilk_answers.specs.Verdicts.{query_from_kind_and_length}
use Rattle.ilk_answers.specs.declared.reply.Reply.{Reply}
use Rattle.ilk_answers.specs.declared.status.Status.TheVariants.{Good, Rejected}

-- The formula of the query of this kind for runs of n events.
abbrev pub formula_of_query : PlantLists → QueryKind → ℕ → Formula
formula_of_query p kind n = query_formula (system_of_plant p) (goal_forms_of_plant p) (query_from_kind_and_length kind n)

-- Holds if the text refutes the query's formula, and a reply accepts it. The plant then has no run
-- that the query asks for.
pub record AcceptsRefutation (p : PlantLists) (kind : QueryKind) (n : ℕ) (text : List ℕ) (made : Reply) : Type 0 where
  pub accepted : IsAccepted (formula_of_query p kind n) text
  pub none : ¬ HasQueriedRun p (query_from_kind_and_length kind n)
  pub reply : made ≡ reply Good (query_has_no_run_line kind n)

-- Holds if the text doesn't refute the query's formula, and a reply rejects it by its first bad
-- item.
pub record RejectsRefutation (p : PlantLists) (kind : QueryKind) (n : ℕ) (text : List ℕ) (made : Reply) : Type 0 where
  pub item : ℕ
  pub first : IsFirstBadItem (formula_of_query p kind n) text item
  pub reply : made ≡ reply Rejected (first_bad_item_message item)

-- Holds if a reply accepts or rejects a text as refutation of this query's formula, and is right.
abbrev pub AnswersRefutationText : PlantLists → QueryKind → ℕ → List ℕ → Reply → Type 0
AnswersRefutationText p kind n text made = AcceptsRefutation p kind n text made ⊎ RejectsRefutation p kind n text made
