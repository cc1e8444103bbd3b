-- Runs of a system over lists of values, and those for which a query asks.
use Rattle.std.specs.Prelude.{ℕ, Bool, List, [], ◌∷◌, ◌==◌, ◌&&◌, length, Option, Some, slice_get, option_map, option_and_then}
use Rattle.std.specs.List.{list_all}
use Rattle.ilk_base.specs.Option.{is_some_and}
use Rattle.ilk_ir.specs.Tree.{tree_holds}
use Rattle.ilk_ir.specs.System.{PlainSystem, in_ranges, after_rule_number}
use Rattle.ilk_forms.specs.Gates.{bools_are_equal}
use Rattle.ilk_unroll.specs.Goal.{PlainGoalForms, CopyDemand, query_step_count, demands_of}
use Rattle.ilk_unroll.specs.declared.queries.Wanted.{Wanted}

-- Returns the value lists of the run that begins with `values` and fires the rules with these
-- numbers in order. Returns `None` if some guard does not hold.
abbrev pub run_firing_rules : PlainSystem → List ℕ → List ℕ → Option (List (List ℕ))
run_firing_rules s values [] = Some (values ∷ [])
run_firing_rules s values (rule ∷ rules) =
    option_map (λ run. values ∷ run) (option_and_then (λ next. run_firing_rules s next rules) (after_rule_number s rule values))

-- Returns whether the value lists of a run meet demand `d`.
abbrev pub demand_is_met_by_run : List (List ℕ) → CopyDemand → Bool
demand_is_met_by_run run d = is_some_and (slice_get run d.copy) (λ values. bools_are_equal d.holds (tree_holds values d.form))

-- Returns whether the system has a run that begins with the values `first` and fires `rules`, and
-- query `q` asks for it.
abbrev pub is_wanted_run : PlainSystem → PlainGoalForms → Wanted → List ℕ → List ℕ → Bool
is_wanted_run s g q first rules =
    in_ranges first s.ranges && length rules == query_step_count q
    && is_some_and (run_firing_rules s first rules) (λ run. list_all (demand_is_met_by_run run) (demands_of g q))
