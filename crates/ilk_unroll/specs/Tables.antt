-- Properties of the copies in a formula, for private contracts and proofs. Each table has the
-- literals of one copy.
use Rattle.std.specs.Prelude.{ℕ, ◌+◌, ◌≡◌, Bool, List, [], ◌∷◌, length, nat_le}
use Rattle.std.specs.List.{list_all}
use Rattle.ilk_ir.specs.System.{PlainRule}
use Rattle.ilk_ir.specs.Tree.{Tree, tree_valid}
use Rattle.ilk_forms.specs.declared.copy.VarValueAndBoundLits.{VarValueAndBoundLits}
use Rattle.ilk_forms.specs.Leaf.{has_lits_within_vars, ranges_of_copy_lits}
use Rattle.ilk_step.specs.declared.choice.Choice.{Choice}
use Rattle.ilk_step.specs.Choice.{Chooses}
use Rattle.ilk_step.specs.Step.{step_part}

-- Returns whether the literals of each copy are over the variables 1 to `n`.
abbrev pub are_copies_within_vars : ℕ → List (List VarValueAndBoundLits) → Bool
are_copies_within_vars n tables = list_all (has_lits_within_vars n) tables

-- Returns whether form `t` is valid over the variables of each copy.
abbrev pub is_valid_in_each : List (List VarValueAndBoundLits) → Tree → Bool
is_valid_in_each tables t = list_all (λ table. tree_valid (ranges_of_copy_lits table) t) tables

-- Holds if the variables of each copy have these ranges.
abbrev pub EachCopyHasTheseRanges : List ℕ → List (List VarValueAndBoundLits) → Type 0
EachCopyHasTheseRanges ranges [] = Unit {0}
EachCopyHasTheseRanges ranges (table ∷ tables) = (ranges_of_copy_lits table ≡ ranges) × EachCopyHasTheseRanges ranges tables

-- For each step between the copies, the variables after the first `n` that say which rule it
-- chooses.
abbrev pub choice_variables_per_step : List PlainRule → List (List VarValueAndBoundLits) → ℕ → List Choice
choice_variables_per_step rules [] n = []
choice_variables_per_step rules (now ∷ []) n = []
choice_variables_per_step rules (now ∷ next ∷ tables) n =
    (record { first = n + 1; rules = length rules }) ∷ choice_variables_per_step rules (next ∷ tables) (step_part rules now next n).vars

-- Returns whether the variables of each choice begin at number `n` + 1 or lower.
abbrev pub choices_begin_at_or_before : ℕ → List Choice → Bool
choices_begin_at_or_before n choices = list_all (λ choice. nat_le choice.first (n + 1)) choices

-- Holds if assignment `a` chooses these rules, one for each step.
abbrev pub StepsChooseTheseRules : List Bool → List Choice → List ℕ → Type 0
StepsChooseTheseRules a [] rules = rules ≡ []
StepsChooseTheseRules a (choice ∷ choices) [] = ⊥
StepsChooseTheseRules a (choice ∷ choices) (rule ∷ rules) = Chooses a choice.first choice.rules rule × StepsChooseTheseRules a choices rules
