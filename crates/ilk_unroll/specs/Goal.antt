-- The forms that a query demands, each with the copy (moment of a run) to which it refers.
use Rattle.std.specs.Prelude.{ℕ, ◌+◌, Bool, true, false, List, [], ◌∷◌, ◌++◌, ◌&&◌, map, nat_lt, nat_le}
use Rattle.std.specs.List.{list_all, range_with_len}
use Rattle.ilk_ir.specs.Tree.{Tree, all_of, negation, trees_from_list, tree_valid}
use Rattle.ilk_ir.specs.Form.{tree_of}
use Rattle.ilk_unroll.specs.declared.queries.Goal.{Goal}
use Rattle.ilk_unroll.specs.declared.queries.Wanted.{Wanted}
use Rattle.ilk_unroll.specs.declared.queries.Wanted.TheVariants.{Hazard, Breach, Step}

-- The forms of a goal (`Goal`) as trees.
pub record PlainGoalForms : Type 0 where
  pub start : Tree
  pub hazard : Tree
  pub wellformed : Tree
  pub families : List Tree

-- The forms of goal `g` as trees.
abbrev pub plain_goal : Goal → PlainGoalForms
plain_goal g =
    record { start = tree_of g.start; hazard = tree_of g.hazard; wellformed = tree_of g.wellformed; families = map tree_of g.families }

-- Returns whether each form of the goal is valid over variables with these ranges.
abbrev pub goal_valid : List ℕ → PlainGoalForms → Bool
goal_valid ranges g =
    tree_valid ranges g.start && tree_valid ranges g.hazard && tree_valid ranges g.wellformed && list_all (tree_valid ranges) g.families

-- The number of steps of the runs for which a query asks.
abbrev pub query_step_count : Wanted → ℕ
query_step_count (Hazard n) = n
query_step_count (Breach n) = n
query_step_count (Step n) = n

-- Returns whether a query has at most 16 steps, and at least one if it asks for an induction step.
abbrev pub step_count_is_allowed : Wanted → Bool
step_count_is_allowed (Hazard n) = nat_le n 16
step_count_is_allowed (Breach n) = nat_le n 16
step_count_is_allowed (Step n) = nat_lt 0 n && nat_le n 16

-- A form that has to hold (`holds`), or to fail, in copy number `copy` of a run.
pub record CopyDemand : Type 0 where
  pub copy : ℕ
  pub form : Tree
  pub holds : Bool

-- The demand that form `t` holds in copy `j`.
abbrev pub demand_form_holds_in_copy : ℕ → Tree → CopyDemand
demand_form_holds_in_copy j t = record { copy = j; form = t; holds = true }

-- The demand that form `t` fails in copy `j`.
abbrev pub demand_form_fails_in_copy : ℕ → Tree → CopyDemand
demand_form_fails_in_copy j t = record { copy = j; form = t; holds = false }

-- The demands that form `t` holds in each copy below `n`.
abbrev pub form_demands_below_copy : Tree → ℕ → List CopyDemand
form_demands_below_copy t n = map (λ j. demand_form_holds_in_copy j t) (range_with_len 0 n)

-- All demands of a query, by the forms of goal `g`.
abbrev pub demands_of : PlainGoalForms → Wanted → List CopyDemand
-- From the start by `n` steps to a hazard, through states without one.
demands_of g (Hazard n) = demand_form_holds_in_copy 0 g.start ∷ form_demands_below_copy g.wellformed n ++ demand_form_holds_in_copy n g.hazard ∷ []
-- From the start by `n` steps to a broken family; no state has a hazard.
demands_of g (Breach n) = demand_form_holds_in_copy 0 g.start ∷ form_demands_below_copy g.wellformed (n + 1) ++ demand_form_fails_in_copy n (all_of (trees_from_list g.families)) ∷ []
-- From anywhere by `n` steps to a hazard or broken family, through states without either.
demands_of g (Step n) =
    form_demands_below_copy (all_of (trees_from_list (g.wellformed ∷ g.families))) n
    ++ demand_form_fails_in_copy n (all_of (trees_from_list (negation g.hazard ∷ g.families))) ∷ []
