-- The runs and values that assignments of a query's formula represent.
use Rattle.std.specs.Prelude.{ℕ, suc, ◌≡◌, Bool, List, IsTrue, length}
use Rattle.ilk_cnf.specs.Part.{FormulaPart, and_then}
use Rattle.ilk_cnf.specs.Truth.{satisfies}
use Rattle.ilk_cnf.specs.Formula.{Formula}
use Rattle.ilk_ir.specs.System.{PlainSystem, in_ranges}
use Rattle.ilk_forms.specs.declared.copy.VarValueAndBoundLits.{VarValueAndBoundLits}
use Rattle.ilk_forms.specs.Copy.{LiteralsEncode}
use Rattle.ilk_step.specs.declared.choice.Choice.{Choice}
use Rattle.ilk_unroll.specs.Assignment.{EncodesWantedRun, run_assignment}
use Rattle.ilk_unroll.specs.Goal.{PlainGoalForms}
use Rattle.ilk_unroll.specs.Query.{PartWithCopyLits, copies_part, query_formula, steps_part}
use Rattle.ilk_unroll.specs.Run.{is_wanted_run}
use Rattle.ilk_unroll.specs.Tables.{choice_variables_per_step}
use Rattle.ilk_unroll.specs.declared.queries.Wanted.{Wanted}

-- Holds if the values are within the ranges, and under assignment `a` the literals of a copy say
-- exactly them.
abbrev pub ValuesInRangeAndEncoded : List Bool → List VarValueAndBoundLits → List ℕ → List ℕ → Type 0
ValuesInRangeAndEncoded a columns ranges values = IsTrue (in_ranges values ranges) × LiteralsEncode a columns ranges values

-- Holds if assignment `a` has a truth value for each variable of the formula, and satisfies it.
abbrev pub IsSatisfiedBy : Formula → List Bool → Type 0
IsSatisfiedBy f a = (length a ≡ f.vars) × IsTrue (satisfies a f.clauses)

-- Holds if each satisfying assignment of a query's formula represents a run for which the query
-- asks.
abbrev pub IsSatisfiedOnlyByRuns : PlainSystem → PlainGoalForms → Wanted → Type 0
IsSatisfiedOnlyByRuns s g q =
    (a : List Bool) → length a ≡ (query_formula s g q).vars → IsTrue (satisfies a (query_formula s g q).clauses) → EncodesWantedRun s g q a

-- Holds if each run for which a query asks has an assignment that satisfies the query's formula.
abbrev pub IsSatisfiedByEachRun : PlainSystem → PlainGoalForms → Wanted → Type 0
IsSatisfiedByEachRun s g q =
    (first rules : List ℕ) → IsTrue (is_wanted_run s g q first rules) → IsSatisfiedBy (query_formula s g q) (run_assignment s g q first rules)

-- The copies of a run of `steps` steps, whose variables begin at 1.
abbrev pub run_copies_part : List ℕ → ℕ → PartWithCopyLits
run_copies_part ranges steps = copies_part ranges (suc steps) 0

-- The formula part with the copies of a run of `steps` steps, and the steps between them.
abbrev pub run_part : PlainSystem → ℕ → FormulaPart
run_part s steps = and_then (run_copies_part s.ranges steps).part (steps_part s.rules (run_copies_part s.ranges steps).tables)

-- For each step of a run of `steps` steps, the variables that say which rule it chooses.
abbrev pub run_choice_variables : PlainSystem → ℕ → List Choice
run_choice_variables s steps = choice_variables_per_step s.rules (run_copies_part s.ranges steps).tables (run_copies_part s.ranges steps).part.vars
