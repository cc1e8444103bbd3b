-- The assignment of a run: the truth value of each variable of its query's formula.
use Rattle.std.specs.Prelude.{ℕ, suc, ◌≡◌, Bool, true, List, [], ◌∷◌, ◌++◌, unwrap_or, if◌then◌else◌}
use Rattle.ilk_ir.specs.System.{PlainRule, PlainSystem}
use Rattle.ilk_forms.specs.Copy.{copy_bits}
use Rattle.ilk_forms.specs.declared.copy.VarValueAndBoundLits.{VarValueAndBoundLits}
use Rattle.ilk_forms.specs.Demand.{some_lit_or_form_bits}
use Rattle.ilk_forms.specs.Violated.{form_fails_bits}
use Rattle.ilk_step.specs.Step.{step_bits}
use Rattle.ilk_unroll.specs.Goal.{PlainGoalForms, CopyDemand, demands_of, query_step_count}
use Rattle.ilk_unroll.specs.Query.{copies_part, copy_lits_at}
use Rattle.ilk_unroll.specs.Run.{run_firing_rules, is_wanted_run}
use Rattle.ilk_unroll.specs.declared.queries.Wanted.{Wanted}

-- The truth values of the variables of one copy for each value list of a run; those of the last
-- copy come first.
abbrev pub copies_bits : List ℕ → List (List ℕ) → List Bool
copies_bits ranges [] = []
copies_bits ranges (values ∷ run) = copies_bits ranges run ++ copy_bits ranges values

-- The truth values of the variables of each step of a run after assignment `a`, for its chosen
-- rules. The list has the literals of each copy.
abbrev pub steps_bits : List PlainRule → List (List VarValueAndBoundLits) → List ℕ → List Bool → List Bool
steps_bits rules [] chosen a = []
steps_bits rules (now ∷ tables) [] a = []
steps_bits rules (now ∷ tables) (rule ∷ chosen) a = step_bits now rules a rule ++ steps_bits rules tables chosen (a ++ step_bits now rules a rule)

-- The truth values of the variables that one demand `d` adds after assignment `a`.
abbrev pub one_demand_bits : List (List VarValueAndBoundLits) → CopyDemand → List Bool → List Bool
one_demand_bits tables d a =
    if d.holds then some_lit_or_form_bits (copy_lits_at tables d.copy) [] d.form a else form_fails_bits (copy_lits_at tables d.copy) d.form a

-- The truth values of the variables that all demands add after assignment `a`.
abbrev pub demands_bits : List (List VarValueAndBoundLits) → List CopyDemand → List Bool → List Bool
demands_bits tables [] a = []
demands_bits tables (d ∷ ds) a = one_demand_bits tables d a ++ demands_bits tables ds (a ++ one_demand_bits tables d a)

-- The truth values of the copies and steps of a run, for its value lists and rules.
abbrev pub copies_and_steps_bits : PlainSystem → List (List VarValueAndBoundLits) → List (List ℕ) → List ℕ → List Bool
copies_and_steps_bits s tables run rules = copies_bits s.ranges run ++ steps_bits s.rules tables rules (copies_bits s.ranges run)

-- The truth values of all variables of a query's formula, for the value lists and rules of a run.
abbrev pub run_bits : PlainSystem → PlainGoalForms → Wanted → List (List ℕ) → List ℕ → List Bool
run_bits s g q run rules = with_demands (copies_part s.ranges (suc (query_step_count q)) 0).tables
  where
    with_demands : List (List VarValueAndBoundLits) → List Bool
    with_demands tables =
        copies_and_steps_bits s tables run rules ++ demands_bits tables (demands_of g q) (copies_and_steps_bits s tables run rules)

-- The assignment that represents, for query `q`, the run that begins with the values `first` and
-- fires `rules`.
abbrev pub run_assignment : PlainSystem → PlainGoalForms → Wanted → List ℕ → List ℕ → List Bool
run_assignment s g q first rules = run_bits s g q (unwrap_or (run_firing_rules s first rules) []) rules

-- Holds if assignment `a` represents some run for which query `q` asks.
abbrev pub EncodesWantedRun : PlainSystem → PlainGoalForms → Wanted → List Bool → Type 0
EncodesWantedRun s g q a =
    (first : List ℕ) × (rules : List ℕ) × (is_wanted_run s g q first rules ≡ true) × (a ≡ run_assignment s g q first rules)
